-- The rounds: each has one tableau, up to equal rows, and without a multivalued dependency there is one.
use Rattle.std.proofs.Common.{◌≡◌, ℕ, ◌+◌, ◌<◌, ◌≤◌, ◌↔◌, zero, suc, true, false, ◌⊎◌, List, [], ◌∷◌, ◌++◌, length, get_or, refl, sym, ap, subst, ◌∙◌, inl, inr, ⊎_elim, arith}
use Rattle.std.proofs.lemmas.Bool.{cases_lt, cases_eq, true≢false, eqb-true, eq-eqb, and_parts, and_cases, not-true, not-false}
use Rattle.std.proofs.lemmas.List.Elements.{Contains-append_left, Contains-append_right, Contains-append_cases, All-head, All-tail}
use Rattle.std.specs.Prelude.{Contains, All, AllPairs, nat_eq, not, ◌&&◌}
use Rattle.attr_sets.specs.Attributes.{Attributes, union}
use Rattle.attr_sets.proofs.AttributesLemmas.{tell_member}
use Rattle.dep_model.specs.Dependencies.{Dependency, fd, mvd}
use Rattle.chase_laws.specs.Tableaux.{SymbolRow, Tableau, SameTableau, symbol_at, SymbolsAgree, distinguished_row, plan_tableau, scheme_rows}
use Rattle.chase_laws.specs.Steps.{exchange_rows, replace_symbol, IsFunctionalStep, IsMultivaluedStep, IsChaseStep, IsClosed, HasNoFunctionalStep, LeadsIn, LeadsTo}
use Rattle.chase_laws.specs.Rounds.{ClosesFunctionallyTo, IsMadeOf, IsNext, EndsRounds, InRounds, HasMoreThan, RoundsExceed}
use Rattle.chase_laws.proofs.TableauLemmas.{rows_tell, symbol_at_past, cons_cases, Same-refl, Same-sym, Same-trans, Same-replace_symbol, Same-cons, length-exchange_rows}
use Rattle.chase_laws.proofs.InvariantLemmas.{Each, HasLength, Each-same, over-functional, plan_over}
use Rattle.chase_laws.proofs.ClosingLemmas.{functional_closing_unique}
use Rattle.dep_model.proofs.ListLemmas.{Contains-head, Contains-later}

-- ---- equal tableaux are closed alike
-- a step leads from and to equal tableaux too
functional_between : (ds : List Dependency) (t s u v : Tableau) → SameTableau t s → SameTableau u v → IsFunctionalStep ds s u → IsFunctionalStep ds t v
functional_between ds t s u v start end step =
    let one = step.step in
    let replaced : Tableau → Tableau = replace_symbol one.attribute (symbol_at one.second one.attribute) (symbol_at one.first one.attribute) in
    record {
      lhs = step.lhs;
      rhs = step.rhs;
      given = step.given;
      step = record {
        first = one.first;
        second = one.second;
        first_in = (start one.first).1 one.first_in;
        second_in = (start one.second).1 one.second_in;
        agree = one.agree;
        attribute = one.attribute;
        member = one.member;
        differ = one.differ;
        after = Same-trans (replaced t) (replaced s) v (Same-replace_symbol one.attribute (symbol_at one.second one.attribute) (symbol_at one.first one.attribute) t s start)
            (Same-trans (replaced s) u v one.after end);
      };
    }

multivalued_between : (n : ℕ) (ds : List Dependency) (t s u v : Tableau) → SameTableau t s → SameTableau u v → IsMultivaluedStep n ds s u → IsMultivaluedStep n ds t v
multivalued_between n ds t s u v start end step =
    let one = step.step in
    let row = exchange_rows n (union step.lhs step.rhs) one.first one.second in
    record {
      lhs = step.lhs;
      rhs = step.rhs;
      given = step.given;
      step = record {
        first = one.first;
        second = one.second;
        first_in = (start one.first).1 one.first_in;
        second_in = (start one.second).1 one.second_in;
        agree = one.agree;
        fresh = λ h. one.fresh ((start row).0 h);
        after = Same-trans (row ∷ t) (row ∷ s) v (Same-cons row t s start) (Same-trans (row ∷ s) u v one.after end);
      };
    }

step_between : (n : ℕ) (ds : List Dependency) (t s u v : Tableau) → SameTableau t s → SameTableau u v → IsChaseStep n ds s u → IsChaseStep n ds t v
step_between n ds t s u v start end (inl step) = inl (functional_between ds t s u v start end step)
step_between n ds t s u v start end (inr step) = inr (multivalued_between n ds t s u v start end step)

pub closed-same : (n : ℕ) (ds : List Dependency) (t s : Tableau) → SameTableau t s → IsClosed n ds t → IsClosed n ds s
closed-same n ds t s same closed u step = closed u (step_between n ds t s u u same (Same-refl u) step)

pub ends-same : (n : ℕ) (ds : List Dependency) (t s : Tableau) → SameTableau t s → EndsRounds n ds t → EndsRounds n ds s
ends-same n ds t s same (inl has) = inl ((same (distinguished_row n)).0 has)
ends-same n ds t s same (inr closed) = inr (closed-same n ds t s same closed)

-- ---- made rows
made_same : (n : ℕ) (ds : List Dependency) (t s : Tableau) (row : SymbolRow) → SameTableau t s → IsMadeOf n ds t row → IsMadeOf n ds s row
made_same n ds t s row same made = record {
  lhs = made.lhs;
  rhs = made.rhs;
  given = made.given;
  first = made.first;
  second = made.second;
  first_in = (same made.first).0 made.first_in;
  second_in = (same made.second).0 made.second_in;
  agree = made.agree;
  row_is = made.row_is;
}

next_into : (n : ℕ) (ds : List Dependency) (t t' s s' : Tableau) → SameTableau t t' → IsNext n ds t s → IsNext n ds t' s' → (row : SymbolRow) → Contains s row → Contains s' row
next_into n ds t t' s s' same next next' row h =
    (next' row).1 (⊎_elim (λ old. inl ((same row).0 old)) (λ made. inr (made_same n ds t t' row same made)) ((next row).0 h))

next_same : (n : ℕ) (ds : List Dependency) (t t' s s' : Tableau) → SameTableau t t' → IsNext n ds t s → IsNext n ds t' s' → SameTableau s s'
next_same n ds t t' s s' same next next' row = (next_into n ds t t' s s' same next next' row, next_into n ds t' t s' s (Same-sym t t' same) next' next row)

next_over : (n : ℕ) (ds : List Dependency) (t s : Tableau) → IsNext n ds t s → Each (HasLength n) t → Each (HasLength n) s
next_over n ds t s next over row h =
    ⊎_elim (over row) (λ (made : IsMadeOf n ds t row). ap (λ (r : SymbolRow). length r) made.row_is ∙ length-exchange_rows n (union made.lhs made.rhs) made.first made.second) ((next row).0 h)

-- ---- one tableau a round
pub rounds-over : (n : ℕ) (ds : List Dependency) (plan : List Attributes) (round : ℕ) (t : Tableau) → InRounds n ds plan round t → Each (HasLength n) t
rounds-over n ds plan zero t same = Each-same (HasLength n) (plan_tableau n plan) t same (plan_over n 1 plan)
rounds-over n ds plan (suc round) t h =
    next_over n ds h.1 t h.5 (over-functional n ds h.3.leads.0 h.0 h.1 h.3.leads.1 (rounds-over n ds plan round h.0 h.2))

pub rounds_unique : (n : ℕ) (ds : List Dependency) (plan : List Attributes) (round : ℕ) (t t' : Tableau) → InRounds n ds plan round t → InRounds n ds plan round t' → SameTableau t t'
rounds_unique n ds plan zero t t' same same' = Same-trans t (plan_tableau n plan) t' (Same-sym (plan_tableau n plan) t same) same'
rounds_unique n ds plan (suc round) t t' h h' =
    let before = rounds_unique n ds plan round h.0 h'.0 h.2 h'.2 in
    let functionally_closed = functional_closing_unique n ds h.0 h'.0 h.1 h'.1 (rounds-over n ds plan round h.0 h.2) before h.3 h'.3 in
    next_same n ds h.1 h'.1 t t' functionally_closed h.5 h'.5

-- where a round's tableau closes functionally to one that ends the rounds, there is no later one
pub rounds_end : (n : ℕ) (ds : List Dependency) (plan : List Attributes) (round : ℕ) (t s : Tableau) → InRounds n ds plan round t → ClosesFunctionallyTo ds t s → EndsRounds n ds s → (later : ℕ) (u : Tableau) → InRounds n ds plan later u → later ≤ round
rounds_end n ds plan round t s here closes ends later u h = elim (cases_lt round later) [
  | inr le ↦ le
  | inl lt ↦ absurd (after later u h lt)
]
  where
    after : (later : ℕ) (u : Tableau) → InRounds n ds plan later u → round < later → ⊥
    after zero u h lt = absurd (omega arith)
    after (suc later) u h lt = elim (cases_eq later round) [
      | inr other ↦ after later h.0 h.2 (omega arith)
      | inl equal ↦
          let same_round : InRounds n ds plan round h.0 = subst (λ (r : ℕ). InRounds n ds plan r h.0) equal h.2 in
          let same = rounds_unique n ds plan round t h.0 here same_round in
          h.4 (ends-same n ds s h.1 (functional_closing_unique n ds t h.0 s h.1 (rounds-over n ds plan round t here) same closes h.3) ends)
    ]

-- ---- how many rows
-- a list without a row
without_row : SymbolRow → Tableau → Tableau
without_row row [] = []
without_row row (p ∷ t) = ⊎_elim (λ _. t) (λ _. p ∷ without_row row t) (rows_tell p row)

length-without_row : (row : SymbolRow) (t : Tableau) → Contains t row → length (without_row row t) + 1 ≡ length t
unfolding without_row
length-without_row row [] h = absurd (omega (arith, h.1))
length-without_row row (p ∷ t) h = elim (rows_tell p row) as (λ w. length (⊎_elim (λ _. t) (λ _. p ∷ without_row row t) w) + 1 ≡ length (p ∷ t)) [
  | inl equal ↦ omega arith
  | inr differ ↦ ⊎_elim (λ e. absurd (differ e)) (λ inside. let e = length-without_row row t inside in omega (arith, e)) (cons_cases p t row h)
]

Contains-without_row : (row : SymbolRow) (t : Tableau) (q : SymbolRow) → (row ≡ q → ⊥) → Contains t q → Contains (without_row row t) q
unfolding without_row
Contains-without_row row [] q other h = h
Contains-without_row row (p ∷ t) q other h = elim (rows_tell p row) as (λ w. Contains (⊎_elim (λ _. t) (λ _. p ∷ without_row row t) w) q) [
  | inl equal ↦ ⊎_elim (λ (e : p ≡ q). absurd (other (sym equal ∙ e))) (λ inside. inside) (cons_cases p t q h)
  | inr differ ↦ ⊎_elim (λ (e : p ≡ q). subst (λ (r : SymbolRow). Contains (p ∷ without_row row t) r) e (Contains-head p (without_row row t))) (λ inside. Contains-later p (without_row row t) q (Contains-without_row row t q other inside)) (cons_cases p t q h)
]

-- different rows of a tableau are not more than it lists
pub differ_le : (rows t : List SymbolRow) → AllPairs (λ p q. p ≡ q → ⊥) rows → All (Contains t) rows → length rows ≤ length t
differ_le [] t differ each = omega arith
differ_le (row ∷ rows) t differ each =
    let here = All-head (Contains t) row rows each in
    let later = All-tail (Contains t) row rows each in
    let others : All (Contains (without_row row t)) rows = λ (k : ℕ) (d : SymbolRow) l. Contains-without_row row t (get_or rows k d) (λ e. differ 0 (suc k) d (omega arith) (omega (arith, l)) e) (later k d l) in
    let rest = differ_le rows (without_row row t) (λ (i j : ℕ) (d : SymbolRow) lt l. differ (suc i) (suc j) d (omega (arith, lt)) (omega (arith, l))) others in
    omega (arith, rest, length-without_row row t here)

pub no_more : (limit : ℕ) (t s : Tableau) → SameTableau t s → length s ≤ limit → HasMoreThan limit t → ⊥
no_more limit t s same within_limit more =
    absurd (omega (arith, within_limit, more.many, differ_le more.rows s more.differ (λ (k : ℕ) (d : SymbolRow) l. (same (get_or more.rows k d)).0 (more.each k d l))))

-- ---- without a multivalued dependency
pub functional_closed : (n : ℕ) (ds : List Dependency) (t : Tableau) → ((x y : Attributes) → Contains ds (mvd x y) → ⊥) → HasNoFunctionalStep ds t → IsClosed n ds t
functional_closed n ds t none functionally_closed s (inl step) = functionally_closed s step
functional_closed n ds t none functionally_closed s (inr step) = none step.lhs step.rhs step.given

length-scheme_rows : (n i : ℕ) (plan : List Attributes) → length (scheme_rows n i plan) ≡ length plan
length-scheme_rows n i [] = refl
length-scheme_rows n i (scheme ∷ plan) = let e = length-scheme_rows n (suc i) plan in omega (arith, e)

pub functional_within_limit : (n : ℕ) (ds : List Dependency) (plan : List Attributes) (limit : ℕ) → ((x y : Attributes) → Contains ds (mvd x y) → ⊥) → length plan ≤ limit → RoundsExceed n ds plan limit → ⊥
functional_within_limit n ds plan limit none within_limit exceed = exceeds exceed.round exceed.tableau exceed.in_rounds exceed.more
  where
    exceeds : (round : ℕ) (t : Tableau) → InRounds n ds plan round t → HasMoreThan limit t → ⊥
    exceeds zero t same more = no_more limit t (plan_tableau n plan) (Same-sym (plan_tableau n plan) t same) (omega (arith, within_limit, length-scheme_rows n 1 plan)) more
    exceeds (suc round) t h more = h.4 (inr (functional_closed n ds h.1 none h.3.functionally_closed))

-- ---- the next tableau is one
-- the attributes of a set at which two rows differ
differing_attributes : Attributes → SymbolRow → SymbolRow → Attributes
differing_attributes x p q k = x k && not (nat_eq (symbol_at p k) (symbol_at q k))

differing_attributes-disagree : (x : Attributes) (p q : SymbolRow) (k : ℕ) → differing_attributes x p q k ≡ true → SymbolsAgree x p q → ⊥
unfolding differing_attributes
differing_attributes-disagree x p q k d agree =
    let parts = and_parts (x k) (not (nat_eq (symbol_at p k) (symbol_at q k))) d in
    true≢false (sym (eq-eqb (symbol_at p k) (symbol_at q k) (agree k parts.0)) ∙ not-true (nat_eq (symbol_at p k) (symbol_at q k)) parts.1)

agree_at : (x : Attributes) (p q : SymbolRow) (k : ℕ) → x k ≡ true → differing_attributes x p q k ≡ false → symbol_at p k ≡ symbol_at q k
unfolding differing_attributes
agree_at x p q k m d = ⊎_elim
    (λ (out : x k ≡ false). absurd (true≢false (sym m ∙ out)))
    (λ e. eqb-true (symbol_at p k) (symbol_at q k) (not-false (nat_eq (symbol_at p k) (symbol_at q k)) e))
    (and_cases (x k) (not (nat_eq (symbol_at p k) (symbol_at q k))) d)

-- whether two rows agree on a set
agree_tell : (x : Attributes) (p q : SymbolRow) → SymbolsAgree x p q ⊎ (SymbolsAgree x p q → ⊥)
agree_tell x p q = ⊎_elim
    (λ (found : (k : ℕ) × (k < length p + length q) × (differing_attributes x p q k ≡ true)). inr (λ agree. differing_attributes-disagree x p q found.0 found.2 agree))
    (λ (same : (k : ℕ) → k < length p + length q → differing_attributes x p q k ≡ false). inl (λ (k : ℕ) m. elim (cases_lt k (length p + length q)) [
      | inl low ↦ agree_at x p q k m (same k low)
      | inr past ↦ symbol_at_past p k (omega (arith, past)) ∙ sym (symbol_at_past q k (omega (arith, past)))
    ]))
    (tell_member (length p + length q) (differing_attributes x p q))

-- the tableau has the rows with a property, and no others
abbrev pub Lists : (SymbolRow → Type 0) → Tableau → Type 0
Lists P t = (row : SymbolRow) → Contains t row ↔ P row

-- a row has the property of some member of a list
abbrev pub OfSome : {X : Type 0} → (X → SymbolRow → Type 0) → List X → SymbolRow → Type 0
OfSome {X} P xs row = (x : X) × Contains xs x × P x row

Lists-of_some : {X : Type 0} (P : X → SymbolRow → Type 0) → ((x : X) → (t : Tableau) × Lists (P x) t) → (xs : List X) → (t : Tableau) × Lists (OfSome P xs) t
Lists-of_some P each [] = ([], λ row. ((λ h. absurd (omega (arith, h.1))), (λ h. absurd (omega (arith, h.1.1)))))
Lists-of_some P each (x ∷ xs) =
    let first = each x in
    let rest = Lists-of_some P each xs in (
      first.0 ++ rest.0,
      λ (row : SymbolRow). (
        (λ h. ⊎_elim
            (λ here. (x, Contains-head x xs, (first.1 row).0 here))
            (λ later. let w = (rest.1 row).0 later in (w.0, Contains-later x xs w.0 w.1, w.2))
            (Contains-append_cases first.0 rest.0 row h)),
        (λ h. ⊎_elim
            (λ (e : x ≡ h.0). Contains-append_left first.0 rest.0 row ((first.1 row).1 (subst (λ z. P z row) (sym e) h.2)))
            (λ later. Contains-append_right first.0 rest.0 row ((rest.1 row).1 (h.0, later, h.2)))
            (cons_cases x xs h.0 h.1)),
      ),
    )

-- a row that a dependency makes of two rows
abbrev pub IsPairOf : ℕ → Attributes → Attributes → SymbolRow → SymbolRow → SymbolRow → Type 0
IsPairOf n x y p q row = SymbolsAgree x p q × (exchange_rows n (union x y) p q ≡ row)

abbrev pub IsMadeBy : ℕ → Tableau → Dependency → SymbolRow → Type 0
IsMadeBy n t (fd x y) row = ⊥
IsMadeBy n t (mvd x y) row = OfSome (λ p. OfSome (IsPairOf n x y p) t) t row

pair_listed : (n : ℕ) (x y : Attributes) (p q : SymbolRow) → (t : Tableau) × Lists (IsPairOf n x y p q) t
pair_listed n x y p q = elim (agree_tell x p q) [
  | inl agree ↦ (
    exchange_rows n (union x y) p q ∷ [],
    λ (row : SymbolRow). (
      (λ h. ⊎_elim (λ (e : exchange_rows n (union x y) p q ≡ row). (agree, e)) (λ none. absurd (omega (arith, none.1))) (cons_cases (exchange_rows n (union x y) p q) [] row h)),
      (λ h. subst (λ (r : SymbolRow). Contains (exchange_rows n (union x y) p q ∷ []) r) h.1 (Contains-head (exchange_rows n (union x y) p q) [])),
    ),
  )
  | inr differ ↦ ([], λ (row : SymbolRow). ((λ h. absurd (omega (arith, h.1))), (λ h. absurd (differ h.0))))
]

made_listed : (n : ℕ) (t : Tableau) (d : Dependency) → (s : Tableau) × Lists (IsMadeBy n t d) s
made_listed n t (fd x y) = ([], λ (row : SymbolRow). ((λ h. absurd (omega (arith, h.1))), (λ h. absurd h)))
made_listed n t (mvd x y) = Lists-of_some (λ (p : SymbolRow). OfSome (IsPairOf n x y p) t) (λ (p : SymbolRow). Lists-of_some (IsPairOf n x y p) (λ (q : SymbolRow). pair_listed n x y p q) t) t

made_to : (n : ℕ) (ds : List Dependency) (t : Tableau) (d : Dependency) (row : SymbolRow) → Contains ds d → IsMadeBy n t d row → IsMadeOf n ds t row
made_to n ds t (fd x y) row given made = absurd made
made_to n ds t (mvd x y) row given made = record {
  lhs = x;
  rhs = y;
  given = given;
  first = made.0;
  second = made.2.0;
  first_in = made.1;
  second_in = made.2.1;
  agree = made.2.2.0;
  row_is = sym made.2.2.1;
}

made_from : (n : ℕ) (ds : List Dependency) (t : Tableau) (row : SymbolRow) → IsMadeOf n ds t row → OfSome (IsMadeBy n t) ds row
made_from n ds t row made = (mvd made.lhs made.rhs, made.given, (made.first, made.first_in, (made.second, made.second_in, (made.agree, sym made.row_is))))

pub next_exists : (n : ℕ) (ds : List Dependency) (t : Tableau) → (s : Tableau) × IsNext n ds t s
next_exists n ds t =
    let all = Lists-of_some (IsMadeBy n t) (made_listed n t) ds in (
      t ++ all.0,
      λ (row : SymbolRow). (
        (λ h. ⊎_elim inl (λ later. let w = (all.1 row).0 later in inr (made_to n ds t w.0 row w.1 w.2)) (Contains-append_cases t all.0 row h)),
        (λ h. ⊎_elim (λ old. Contains-append_left t all.0 row old) (λ made. Contains-append_right t all.0 row ((all.1 row).1 (made_from n ds t row made))) h),
      ),
    )

-- ---- steps after steps
leads_end : (Step : Tableau → Tableau → Type 0) → ((t s u : Tableau) → Step t s → SameTableau s u → Step t u) → (count : ℕ) (t s u : Tableau) → LeadsIn Step count t s → SameTableau s u → LeadsIn Step count t u
leads_end Step end zero t s u leads same = Same-trans t s u leads same
leads_end Step end (suc count) t s u leads same = (leads.0, leads.1, end leads.0 s u leads.2 same)

pub functional_leads_end : (ds : List Dependency) (count : ℕ) (t s u : Tableau) → LeadsIn (IsFunctionalStep ds) count t s → SameTableau s u → LeadsIn (IsFunctionalStep ds) count t u
functional_leads_end ds count t s u = leads_end (IsFunctionalStep ds) (λ a b d step same. functional_between ds a a b d (Same-refl a) same step) count t s u

pub step_leads_end : (n : ℕ) (ds : List Dependency) (count : ℕ) (t s u : Tableau) → LeadsIn (IsChaseStep n ds) count t s → SameTableau s u → LeadsIn (IsChaseStep n ds) count t u
step_leads_end n ds count t s u = leads_end (IsChaseStep n ds) (λ a b d step same. step_between n ds a a b d (Same-refl a) same step) count t s u

-- one step or more, after any number
pub functional_leads_join : (ds : List Dependency) (more : ℕ) (t m s : Tableau) (count : ℕ) → LeadsIn (IsFunctionalStep ds) count t m → LeadsIn (IsFunctionalStep ds) (suc more) m s
    → (all : ℕ) × LeadsIn (IsFunctionalStep ds) (suc all) t s
functional_leads_join ds zero t m s count one other = (count, (other.0, functional_leads_end ds count t m other.0 one other.1, other.2))
functional_leads_join ds (suc more) t m s count one other =
    let w = functional_leads_join ds more t m other.0 count one other.1 in
    (suc w.0, (other.0, w.1, other.2))

-- any number, after any number
pub functional_leads : (ds : List Dependency) (more : ℕ) (t m s : Tableau) (count : ℕ) → LeadsIn (IsFunctionalStep ds) count t m → LeadsIn (IsFunctionalStep ds) more m s → LeadsTo (IsFunctionalStep ds) t s
functional_leads ds zero t m s count one other = (count, functional_leads_end ds count t m s one other)
functional_leads ds (suc more) t m s count one other = let w = functional_leads_join ds more t m s count one other in (suc w.0, w.1)

-- steps by functional dependencies are steps
pub reaches_functionally_closed : (n : ℕ) (ds : List Dependency) (more count : ℕ) (t m s : Tableau) → LeadsIn (IsChaseStep n ds) count t m → LeadsIn (IsFunctionalStep ds) more m s → LeadsTo (IsChaseStep n ds) t s
reaches_functionally_closed n ds zero count t m s one other = (count, step_leads_end n ds count t m s one other)
reaches_functionally_closed n ds (suc more) count t m s one other =
    let w = reaches_functionally_closed n ds more count t m other.0 one other.1 in
    (suc w.0, (other.0, w.1, inl other.2))
