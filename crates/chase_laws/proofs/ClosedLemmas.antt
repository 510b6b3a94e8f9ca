-- A closed tableau that is reached, as a relation: it is legal, and its projections have the row of
-- distinguished symbols in their join.
use Rattle.std.proofs.Common.{◌≡◌, ℕ, ◌^◌, ◌<◌, ◌≤◌, zero, suc, Bool, true, false, cond, List, [], ◌∷◌, ◌++◌, length, map, get_or, refl, sym, ap, subst, ◌∙◌, inl, inr, arith}
use Rattle.std.proofs.lemmas.Bool.{cases_Bool, cases_lt}
use Rattle.std.proofs.lemmas.Bool.Decides.{nat_tests}
use Rattle.std.proofs.lemmas.Fmt.{decimal_injective}
use Rattle.std.proofs.lemmas.List.{get_or_past, get_or-map, length-map, map-append, append-nil}
use Rattle.std.proofs.lemmas.List.Elements.{Contains-get_or}
use Rattle.std.specs.List.{AllZip}
use Rattle.std.specs.Prelude.{Contains, decimal}
use Rattle.attr_sets.specs.Attributes.{Attributes, below, union, difference}
use Rattle.dep_model.specs.Tuples.{Tuple, Relation, value_at, AgreeOn}
use Rattle.dep_model.specs.Dependencies.{Dependency, fd, mvd, Obeys}
use Rattle.dep_model.specs.Implication.{IsLegal}
use Rattle.dep_model.specs.Projections.{members_below, project_tuple, projection, projections, IsLossless}
use Rattle.dep_model.specs.TwoTuples.{all_zeros}
use Rattle.dep_model.proofs.ListLemmas.{map-member, Contains-map, Contains-head, Contains-later}
use Rattle.dep_model.proofs.TwoTupleLemmas.{length-all_zeros, value_at-all_zeros}
use Rattle.dep_model.proofs.TwoTupleLemmas.{decimal_zero}
use Rattle.chase_laws.specs.Tableaux.{SymbolRow, Tableau, symbol_at, SymbolsAgree, distinguished_row}
use Rattle.chase_laws.specs.Steps.{exchange_rows, IsClosed, HasNoFunctionalStep}
use Rattle.chase_laws.specs.Rounds.{ReachesTableau}
use Rattle.chase_laws.specs.Answers.{texts_of, IsGaining}
use Rattle.chase_laws.proofs.TableauLemmas.{same_rows, symbol_at_past, length-distinguished_row, symbol_at-distinguished_row, length-exchange_rows, symbol_at-exchange_rows, tell_row, Same-refl}
use Rattle.chase_laws.proofs.InvariantLemmas.{Each, HasLength, HasZerosOn, reached-over, reached-most, reached-zeros}
use Rattle.chase_laws.proofs.FunctionalClosingLemmas.{functionally_closed_agrees}

-- ---- rows as texts
length-texts : (row : SymbolRow) → length (map decimal row) ≡ length row
length-texts row = length-map row decimal

value_at-texts : (row : SymbolRow) (k : ℕ) → k < length row → value_at (map decimal row) k ≡ decimal (symbol_at row k)
value_at-texts row k low = get_or-map decimal row k 0 [] low

value_at-texts_past : (row : SymbolRow) (k : ℕ) → length row ≤ k → value_at (map decimal row) k ≡ []
value_at-texts_past row k past = get_or_past (map decimal row) k [] (omega (arith, length-texts row, past))

-- ---- closed tableaux
closed_functionally : (n : ℕ) (ds : List Dependency) (s : Tableau) → IsClosed n ds s → HasNoFunctionalStep ds s
closed_functionally n ds s closed u step = closed u (inl step)

pub closed_exchanged : (n : ℕ) (ds : List Dependency) (s : Tableau) (x y : Attributes) (p q : SymbolRow) → IsClosed n ds s → Contains ds (mvd x y) → Contains s p → Contains s q → SymbolsAgree x p q
    → Contains s (exchange_rows n (union x y) p q)
closed_exchanged n ds s x y p q closed given p_in q_in agree = elim (tell_row s (exchange_rows n (union x y) p q)) [
  | inl inside ↦ inside
  | inr fresh ↦ absurd (closed (exchange_rows n (union x y) p q ∷ s) (inr (record {
    lhs = x;
    rhs = y;
    given = given;
    step = record { first = p; second = q; first_in = p_in; second_in = q_in; agree = agree; fresh = fresh; after = Same-refl (exchange_rows n (union x y) p q ∷ s) };
  })))
]

-- ---- legality
module _ (n : ℕ) (ds : List Dependency) (s : Tableau) (over : Each (HasLength n) s) (small : (row : SymbolRow) (k : ℕ) → Contains s row → symbol_at row k < 2 ^ 64) (closed : IsClosed n ds s) where
  symbols_from : (x : Attributes) (p q : SymbolRow) → Contains s p → Contains s q → AgreeOn x (map decimal p) (map decimal q) → SymbolsAgree x p q
  symbols_from x p q p_in q_in agree k m = elim (cases_lt k n) [
    | inl low ↦ decimal_injective (symbol_at p k) (symbol_at q k) (small p k p_in) (small q k q_in)
        (sym (value_at-texts p k (omega (arith, low, over p p_in))) ∙ agree k m ∙ value_at-texts q k (omega (arith, low, over q q_in)))
    | inr past ↦ symbol_at_past p k (omega (arith, past, over p p_in)) ∙ sym (symbol_at_past q k (omega (arith, past, over q q_in)))
  ]

  texts_agree : (x : Attributes) (p q : SymbolRow) → length p ≡ n → length q ≡ n → ((k : ℕ) → k < n → x k ≡ true → symbol_at p k ≡ symbol_at q k) → AgreeOn x (map decimal p) (map decimal q)
  texts_agree x p q lp lq same k m = elim (cases_lt k n) [
    | inl low ↦ value_at-texts p k (omega (arith, low, lp)) ∙ ap decimal (same k low m) ∙ sym (value_at-texts q k (omega (arith, low, lq)))
    | inr past ↦ value_at-texts_past p k (omega (arith, past, lp)) ∙ sym (value_at-texts_past q k (omega (arith, past, lq)))
  ]

  obeys_each : (d : Dependency) → Contains ds d → Obeys n d (texts_of s)
  obeys_each (fd x y) given = λ t u t_in u_in agree.
      let p = map-member (map decimal) s t t_in in
      let q = map-member (map decimal) s u u_in in
      let symbols = symbols_from x p.0 q.0 p.1 q.1 (rw (p.2, q.2) agree) in
      let on_y = functionally_closed_agrees ds s x y p.0 q.0 (closed_functionally n ds s closed) given p.1 q.1 symbols in
      subst (λ (w : Tuple). AgreeOn y w u) p.2 (subst (λ (w : Tuple). AgreeOn y (map decimal p.0) w) q.2
      (texts_agree y p.0 q.0 (over p.0 p.1) (over q.0 q.1) (λ (k : ℕ) low m. on_y k m)))
  obeys_each (mvd x y) given = λ t u t_in u_in agree.
      let p = map-member (map decimal) s t t_in in
      let q = map-member (map decimal) s u u_in in
      let symbols = symbols_from x p.0 q.0 p.1 q.1 (rw (p.2, q.2) agree) in
      let w = exchange_rows n (union x y) p.0 q.0 in
      let w_in = closed_exchanged n ds s x y p.0 q.0 closed given p.1 q.1 symbols in
      let w_over = length-exchange_rows n (union x y) p.0 q.0 in (
        map decimal w,
        Contains-map (map decimal) s w w_in,
        subst (λ (v : Tuple). AgreeOn (union x y) (map decimal w) v) p.2
            (texts_agree (union x y) w p.0 w_over (over p.0 p.1) (λ (k : ℕ) low m. symbol_at-exchange_rows n (union x y) p.0 q.0 k low ∙ ap (λ (b : Bool). cond b (symbol_at p.0 k) (symbol_at q.0 k)) m)),
        subst (λ (v : Tuple). AgreeOn (difference (below n) (union x y)) (map decimal w) v) q.2
            (texts_agree (difference (below n) (union x y)) w q.0 w_over (over q.0 q.1) (λ (k : ℕ) low m.
            let out : union x y k ≡ false = grind (arith, nat_tests, m) in
            symbol_at-exchange_rows n (union x y) p.0 q.0 k low ∙ ap (λ (b : Bool). cond b (symbol_at p.0 k) (symbol_at q.0 k)) out)),
      )

  closed_over : (t : Tuple) → Contains (texts_of s) t → length t ≡ n
  closed_over t h = let p = map-member (map decimal) s t h in ap (λ (u : Tuple). length u) (sym p.2) ∙ length-texts p.0 ∙ over p.0 p.1

  closed_legal : IsLegal n ds (texts_of s)
  closed_legal = record {
    over = λ k d l. closed_over (get_or (texts_of s) k d) (Contains-get_or (texts_of s) k d l);
    obeys = λ k d l. obeys_each (get_or ds k d) (Contains-get_or ds k d l);
  }

-- ---- the join of the projections
map_members : (n : ℕ) (scheme : Attributes) (f g : ℕ → List ℕ) → ((k : ℕ) → k < n → scheme k ≡ true → f k ≡ g k) → map f (members_below n scheme) ≡ map g (members_below n scheme)
unfolding members_below
map_members zero scheme f g same = refl
map_members (suc n) scheme f g same =
    let before = map_members n scheme f g (λ (k : ℕ) l m. same k (omega arith) m) in
    elim (cases_Bool (scheme n)) [
      | inl m ↦ rw m (map-append f (members_below n scheme) (n ∷ []) ∙ ap (λ (vs : List (List ℕ)). vs ++ f n ∷ []) before ∙ ap (λ (v : List ℕ). map g (members_below n scheme) ++ v ∷ []) (same n (omega arith) m) ∙ sym (map-append g (members_below n scheme) (n ∷ [])))
      | inr out ↦ rw (out, append-nil (members_below n scheme)) before
    ]

same_projections : (n : ℕ) (scheme : Attributes) (t u : Tuple) → length t ≡ n → length u ≡ n → ((k : ℕ) → k < n → scheme k ≡ true → value_at t k ≡ value_at u k) → project_tuple scheme t ≡ project_tuple scheme u
same_projections n scheme t u lt lu same =
    ap (λ (m : ℕ). map (λ (k : ℕ). value_at t k) (members_below m scheme)) lt
    ∙ map_members n scheme (λ (k : ℕ). value_at t k) (λ (k : ℕ). value_at u k) same
    ∙ ap (λ (m : ℕ). map (λ (k : ℕ). value_at u k) (members_below m scheme)) (sym lu)

in_projection : (n : ℕ) (s : Tableau) (scheme : Attributes) → Each (HasLength n) s → HasZerosOn scheme s → Contains (projection scheme (texts_of s)) (project_tuple scheme (all_zeros n))
in_projection n s scheme over h =
    let row = h.0 in
    let same : project_tuple scheme (map decimal row) ≡ project_tuple scheme (all_zeros n) =
    same_projections n scheme (map decimal row) (all_zeros n) (length-texts row ∙ over row h.1) (length-all_zeros n) (λ (k : ℕ) low m.
    value_at-texts row k (omega (arith, low, over row h.1)) ∙ ap decimal (h.2 k m) ∙ decimal_zero ∙ sym (value_at-all_zeros n k low)) in
    subst (λ (t : Tuple). Contains (projection scheme (texts_of s)) t) same (Contains-map (project_tuple scheme) (texts_of s) (map decimal row) (Contains-map (map decimal) s row h.1))

in_projections : (n : ℕ) (s : Tableau) → Each (HasLength n) s → (plan : List Attributes) → ((scheme : Attributes) → Contains plan scheme → HasZerosOn scheme s)
    → AllZip (λ scheme table. Contains table (project_tuple scheme (all_zeros n))) plan (projections plan (texts_of s))
in_projections n s over [] zeros = tt
in_projections n s over (scheme ∷ plan) zeros = (
  in_projection n s scheme over (zeros scheme (Contains-head scheme plan)),
  in_projections n s over plan (λ (other : Attributes) given. zeros other (Contains-later scheme plan other given)),
)

-- the row of n times `0` is that of distinguished symbols
zeros_in : (n : ℕ) (s : Tableau) → Each (HasLength n) s → ((row : SymbolRow) (k : ℕ) → Contains s row → symbol_at row k < 2 ^ 64) → Contains (texts_of s) (all_zeros n) → Contains s (distinguished_row n)
zeros_in n s over small h =
    let p = map-member (map decimal) s (all_zeros n) h in
    let same : p.0 ≡ distinguished_row n = same_rows n p.0 (distinguished_row n) (over p.0 p.1) (length-distinguished_row n) (λ (k : ℕ) low.
    decimal_injective (symbol_at p.0 k) 0 (small p.0 k p.1) (omega arith)
    (sym (value_at-texts p.0 k (omega (arith, low, over p.0 p.1))) ∙ ap (λ (t : Tuple). value_at t k) p.2 ∙ value_at-all_zeros n k low ∙ sym decimal_zero)
    ∙ sym (symbol_at-distinguished_row n k low)) in
    subst (λ (row : SymbolRow). Contains s row) same p.1

-- ---- the theorem
pub closed_gaining : (n : ℕ) (ds : List Dependency) (plan : List Attributes) (s : Tableau) → length plan < 2 ^ 32 → ReachesTableau n ds plan s → IsClosed n ds s → (Contains s (distinguished_row n) → ⊥) → IsGaining n ds plan (texts_of s)
closed_gaining n ds plan s within_limit reached closed lacks =
    let over = reached-over n ds plan s reached in
    let small : (row : SymbolRow) (k : ℕ) → Contains s row → symbol_at row k < 2 ^ 64 = λ (row : SymbolRow) (k : ℕ) h. omega (arith, within_limit, reached-most n ds plan s reached row h k) in
    record {
      legal = closed_legal n ds s over small closed;
      joined = record { over = length-all_zeros n; in_each = in_projections n s over plan (reached-zeros n ds plan s reached) };
      gained = λ h. lacks (zeros_in n s over small h);
    }

pub gaining_lossy : (n : ℕ) (ds : List Dependency) (plan : List Attributes) (r : Relation) → IsGaining n ds plan r → IsLossless n ds plan → ⊥
gaining_lossy n ds plan r gaining lossless = gaining.gained (lossless.gains_none r gaining.legal (all_zeros n) gaining.joined)
