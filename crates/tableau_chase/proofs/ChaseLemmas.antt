-- The rounds as the code takes them.
use Rattle.std.proofs.Common.{◌≡◌, ℕ, ◌<◌, ◌≤◌, ◌^◌, suc, true, List, [], ◌∷◌, ◌++◌, length, get_or, refl, sym, ap, subst, ◌∙◌, inl, inr, ⊎_elim, arith, append_assoc, append-nil, length-append}
use Rattle.std.proofs.lemmas.Bool.{cases_eq, true≢false}
use Rattle.std.proofs.lemmas.List.{length_push, get_or_append_left, get_or_default, get_or_push}
use Rattle.std.proofs.lemmas.List.Elements.{All-contains, Contains-get_or, Contains-append_left, Contains-append_right, Contains-push, Contains-push_cases, filter_passes}
use Rattle.std.specs.Prelude.{Contains, All, AllPairs}
use Rattle.attr_sets.specs.Attributes.{Attributes, union}
use Rattle.dep_model.specs.Tuples.{Relation}
use Rattle.dep_model.specs.Dependencies.{Dependency, mvd, is_fd, functional_part}
use Rattle.chase_laws.specs.Tableaux.{SymbolRow, Tableau, SameTableau, IsTableauOver, distinguished_row, plan_tableau}
use Rattle.chase_laws.specs.Steps.{exchange_rows, IsClosed}
use Rattle.chase_laws.specs.Rounds.{ReachesTableau, ClosesFunctionallyTo, IsMadeOf, IsNext, EndsRounds, InRounds, HasMoreThan, RoundsExceed}
use Rattle.chase_laws.specs.Answers.{IsGaining, IsClosedTableau}
use Rattle.chase_laws.proofs.TableauLemmas.{Same-refl, Same-sym, Same-trans, cons_cases}
use Rattle.chase_laws.proofs.InvariantLemmas.{reached-over, reached-most}
use Rattle.chase_laws.proofs.RoundLemmas.{closed-same, rounds_unique, rounds_end, no_more, next_exists, functional_leads_end, step_leads_end, reaches_functionally_closed}
use Rattle.chase_laws.proofs.FunctionalClosingLemmas.{functionally_closed-same}
use Rattle.chase_laws.proofs.ClosedLemmas.{closed_gaining, closed_exchanged}
use Rattle.chase_laws.proofs.EndLemmas.{what_is_left, round_lowers}
use Rattle.tableau_chase.specs.Groups.{symbol_row_at}
use Rattle.tableau_chase.specs.Making.{AddsAll, Overflows}
use Rattle.tableau_chase.specs.Texts.{AreTextsOf}
use Rattle.dep_model.proofs.ListLemmas.{Contains-head, Contains-later}

-- ---- what holds when a round begins
-- the rows are those of a tableau of the rounds, none of which had too many so far
pub record IsRound (n : ℕ) (ds : List Dependency) (plan : List Attributes) (limit : ℕ) (rows : Tableau) : Type 0 where
  pub round : ℕ
  pub in_rounds : InRounds n ds plan round rows
  pub reached : ReachesTableau n ds plan rows
  pub differ : AllPairs (λ p q. p ≡ q → ⊥) rows
  pub within_limit : length rows ≤ limit
  pub earlier : (r : ℕ) (t : Tableau) → r ≤ round → InRounds n ds plan r t → HasMoreThan limit t → ⊥

pub round_over : (n : ℕ) (ds : List Dependency) (plan : List Attributes) (limit : ℕ) (rows : Tableau) → IsRound n ds plan limit rows → IsTableauOver n rows
round_over n ds plan limit rows round k d l = reached-over n ds plan rows round.reached (get_or rows k d) (Contains-get_or rows k d l)

pub first_round : (n : ℕ) (ds : List Dependency) (plan : List Attributes) (limit : ℕ) (rows : Tableau) → SameTableau (plan_tableau n plan) rows → AllPairs (λ p q. p ≡ q → ⊥) rows → length rows ≤ limit → IsRound n ds plan limit rows
first_round n ds plan limit rows same differ within_limit = record {
  round = 0;
  in_rounds = same;
  reached = (0, same);
  differ = differ;
  within_limit = within_limit;
  earlier = λ r t le in_rounds more.
      let none : r ≡ 0 = omega arith in
      let first : InRounds n ds plan 0 t = subst (λ (i : ℕ). InRounds n ds plan i t) none in_rounds in
      no_more limit t rows (Same-trans t (plan_tableau n plan) rows (Same-sym (plan_tableau n plan) t first) same) within_limit more;
}

pub first_exceeds : (n : ℕ) (ds : List Dependency) (plan : List Attributes) (limit : ℕ) → HasMoreThan limit (plan_tableau n plan) → RoundsExceed n ds plan limit
first_exceeds n ds plan limit more = record { round = 0; tableau = plan_tableau n plan; in_rounds = Same-refl (plan_tableau n plan); more = more }

-- rows at the front of no more rows are these
no_more_rows : (t rest u : Tableau) → u ≡ t ++ rest → length u ≡ length t → u ≡ t
no_more_rows t [] u is count = is ∙ append-nil t
no_more_rows t (row ∷ rest) u is count = let e = ap (λ (v : Tableau). length v) is in absurd (omega (arith, e, count, length-append t (row ∷ rest)))

-- ---- a round: from its rows, functionally closed to s, whose different rows are t
module _ (n : ℕ) (ds : List Dependency) (plan : List Attributes) (limit : ℕ) (rows s t : Tableau) (round : IsRound n ds plan limit rows) (closes : ClosesFunctionallyTo ds rows s) (same : SameTableau s t) where
  pub closes_to : ClosesFunctionallyTo ds rows t
  closes_to = record {
    leads = (closes.leads.0, functional_leads_end ds closes.leads.0 rows s t closes.leads.1 same);
    functionally_closed = functionally_closed-same ds s t same closes.functionally_closed;
  }

  pub reached_closed : ReachesTableau n ds plan t
  reached_closed = reaches_functionally_closed n ds closes_to.leads.0 round.reached.0 (plan_tableau n plan) rows t round.reached.1 closes_to.leads.1

  pub closed_over : IsTableauOver n t
  closed_over k d l = reached-over n ds plan t reached_closed (get_or t k d) (Contains-get_or t k d l)

  -- where it ends the rounds, none had too many rows
  pub ended : EndsRounds n ds t → RoundsExceed n ds plan limit → ⊥
  ended ends exceed =
      round.earlier exceed.round exceed.tableau (rounds_end n ds plan round.round rows t round.in_rounds closes_to ends exceed.round exceed.tableau exceed.in_rounds) exceed.in_rounds exceed.more

  next_of : (u : Tableau) → AddsAll (IsMadeOf n ds t) t u → IsNext n ds t u
  next_of u adds row = (adds.sound row, ⊎_elim (λ old. subst (λ (v : Tableau). Contains v row) (sym adds.extends.1) (Contains-append_left t adds.extends.0 row old)) (adds.complete row))

  -- where nothing was added, it is closed
  pub closed_here : AddsAll (IsMadeOf n ds t) t t → IsClosed n ds t
  closed_here adds u (inl step) = closes_to.functionally_closed u step
  closed_here adds u (inr step) = step.step.fresh (adds.complete (exchange_rows n (union step.lhs step.rhs) step.step.first step.step.second)
      (record { lhs = step.lhs; rhs = step.rhs; given = step.given; first = step.step.first; second = step.step.second; first_in = step.step.first_in; second_in = step.step.second_in; agree = step.step.agree; row_is = refl }))

  -- the same for rows of which there are no more
  pub closed_when : (u : Tableau) → AddsAll (IsMadeOf n ds t) t u → length u ≡ length t → IsClosed n ds t
  closed_when u adds count = closed_here (subst (λ (v : Tableau). AddsAll (IsMadeOf n ds t) t v) (no_more_rows t adds.extends.0 u adds.extends.1 count) adds)

  -- what a closed tableau makes is there
  closed_made : IsClosed n ds t → (row : SymbolRow) → IsMadeOf n ds t row → Contains t row
  closed_made closed row made = subst (λ (r : SymbolRow). Contains t r) (sym made.row_is)
      (closed_exchanged n ds t made.lhs made.rhs made.first made.second closed made.given made.first_in made.second_in made.agree)

  -- where a next tableau has too many rows, it is one of the rounds
  pub next_exceeds : (Contains t (distinguished_row n) → ⊥) → length t ≤ limit → Overflows (IsMadeOf n ds t) limit t → RoundsExceed n ds plan limit
  next_exceeds lacks within_limit over =
      let next = next_exists n ds t in
      record {
        round = suc round.round;
        tableau = next.0;
        in_rounds = (rows, t, round.in_rounds, closes_to, (λ ends. ⊎_elim lacks (λ closed. no_more limit t t (Same-refl t) within_limit (over t (λ p h. h) (closed_made closed))) ends), next.1);
        more = over next.0 (λ p h. (next.1 p).1 (inl h)) (λ p h. (next.1 p).1 (inr h));
      }

  -- rows that were added, which differ from those before, show that it was not closed
  pub not_closed : (u : Tableau) → AddsAll (IsMadeOf n ds t) t u → AllPairs (λ p q. p ≡ q → ⊥) u → length t < length u → IsClosed n ds t → ⊥
  not_closed u adds differ grows closed =
      let row = symbol_row_at u (length t) in
      let inside : Contains t row = ⊎_elim (λ old. old) (λ made. closed_made closed row made) (adds.sound row (Contains-get_or u (length t) [] grows)) in
      let is : symbol_row_at u inside.0 ≡ row = ap (λ (v : Tableau). symbol_row_at v inside.0) adds.extends.1 ∙ get_or_append_left t adds.extends.0 [] inside.0 inside.1 ∙ get_or_default t inside.0 [] row inside.1 ∙ inside.2 in
      differ inside.0 (length t) [] inside.1 grows is

  -- ---- the next round
  module _ (u : Tableau) (adds : AddsAll (IsMadeOf n ds t) t u) (differ : AllPairs (λ p q. p ≡ q → ⊥) u) (within_limit : length u ≤ limit) where
    -- the rows that were added, one by one
    reached_by : (rest front : Tableau) → u ≡ (t ++ front) ++ rest → ReachesTableau n ds plan (t ++ front) → ReachesTableau n ds plan u
    reached_by [] front is reached = subst (λ (v : Tableau). ReachesTableau n ds plan v) (sym (is ∙ append-nil (t ++ front))) reached
    reached_by (row ∷ rest) front is reached =
        let longer : u ≡ ((t ++ front) ++ row ∷ []) ++ rest = is ∙ sym (append_assoc (t ++ front) (row ∷ []) rest) in
        let joined : (t ++ front) ++ row ∷ [] ≡ t ++ (front ++ row ∷ []) = append_assoc t front (row ∷ []) in
        let in_u : Contains u row = subst (λ (v : Tableau). Contains v row) (sym is) (Contains-append_right (t ++ front) (row ∷ rest) row (Contains-head row rest)) in
        let position = length (t ++ front) in
        let at_position : (k : ℕ) (d : SymbolRow) → k < position → get_or u k d ≡ get_or (t ++ front) k d = λ (k : ℕ) (d : SymbolRow) l. ap (λ (v : Tableau). get_or v k d) is ∙ get_or_append_left (t ++ front) (row ∷ rest) d k l in
        let row_is : get_or u position row ≡ row = ap (λ (v : Tableau). get_or v position row) longer
        ∙ get_or_append_left ((t ++ front) ++ row ∷ []) rest row position (omega (arith, length_push (t ++ front) row)) ∙ get_or_push (t ++ front) row row position refl in
        let position_low : position < length u = (let e = ap (λ (v : Tableau). length v) longer in omega (arith, e, length_push (t ++ front) row, length-append ((t ++ front) ++ row ∷ []) rest)) in
        let fresh : Contains (t ++ front) row → ⊥ = λ h. differ h.0 position row h.1 position_low (at_position h.0 row h.1 ∙ h.2 ∙ sym row_is) in
        let step : ReachesTableau n ds plan (t ++ (front ++ row ∷ [])) = ⊎_elim
        (λ old. absurd (fresh (Contains-append_left t front row old)))
        (λ (made : IsMadeOf n ds t row). (
          suc reached.0,
          (
            t ++ front,
            reached.1,
            inr (record {
              lhs = made.lhs;
              rhs = made.rhs;
              given = made.given;
              step = record {
                first = made.first;
                second = made.second;
                first_in = Contains-append_left t front made.first made.first_in;
                second_in = Contains-append_left t front made.second made.second_in;
                agree = made.agree;
                fresh = λ h. fresh (subst (λ (r : SymbolRow). Contains (t ++ front) r) (sym made.row_is) h);
                after = λ p. (
                  (λ h. subst (λ (v : Tableau). Contains v p) joined (⊎_elim
                      (λ (e : exchange_rows n (union made.lhs made.rhs) made.first made.second ≡ p). subst (λ (r : SymbolRow). Contains ((t ++ front) ++ row ∷ []) r) (made.row_is ∙ e) (Contains-push (t ++ front) row))
                      (λ old. Contains-append_left (t ++ front) (row ∷ []) p old)
                      (cons_cases (exchange_rows n (union made.lhs made.rhs) made.first made.second) (t ++ front) p h))),
                  (λ h. ⊎_elim
                      (λ old. Contains-later (exchange_rows n (union made.lhs made.rhs) made.first made.second) (t ++ front) p old)
                      (λ (e : row ≡ p). subst (λ (r : SymbolRow). Contains (exchange_rows n (union made.lhs made.rhs) made.first made.second ∷ (t ++ front)) r) (sym made.row_is ∙ e) (Contains-head (exchange_rows n (union made.lhs made.rhs) made.first made.second) (t ++ front)))
                      (Contains-push_cases (t ++ front) row p (subst (λ (v : Tableau). Contains v p) (sym joined) h))),
                );
              };
            }),
          ),
        ))
        (adds.sound row in_u) in
        reached_by rest (front ++ row ∷ []) (longer ∙ ap (λ (v : Tableau). v ++ rest) joined) step

    pub next_reached : ReachesTableau n ds plan u
    next_reached = reached_by adds.extends.0 [] (adds.extends.1 ∙ ap (λ (v : Tableau). v ++ adds.extends.0) (sym (append-nil t))) (subst (λ (v : Tableau). ReachesTableau n ds plan v) (sym (append-nil t)) reached_closed)

    pub next_round : (Contains t (distinguished_row n) → ⊥) → length t < length u → IsRound n ds plan limit u
    next_round lacks grows =
        let here : InRounds n ds plan (suc round.round) u = (rows, t, round.in_rounds, closes_to, (λ ends. ⊎_elim lacks (not_closed u adds differ grows) ends), next_of u adds) in
        record {
          round = suc round.round;
          in_rounds = here;
          reached = next_reached;
          differ = differ;
          within_limit = within_limit;
          earlier = λ r v le in_rounds more. elim (cases_eq r (suc round.round)) [
            | inl equal ↦ no_more limit v u (rounds_unique n ds plan (suc round.round) v u (subst (λ (i : ℕ). InRounds n ds plan i v) equal in_rounds) here) within_limit more
            | inr other ↦ round.earlier r v (omega arith) in_rounds more
          ];
        }

    pub next_lower : length t < length u → what_is_left n (length plan) limit u < what_is_left n (length plan) limit rows
    next_lower grows = round_lowers n (length plan) limit ds rows t u (reached-over n ds plan rows round.reached) (reached-most n ds plan rows round.reached) closes_to.leads (next_of u adds) round.differ grows within_limit

-- ---- the answers
pub closed_rows : (n : ℕ) (ds : List Dependency) (plan : List Attributes) (limit : ℕ) (rows t : Tableau) (texts : Relation) → IsRound n ds plan limit rows → ClosesFunctionallyTo ds rows t → ReachesTableau n ds plan t → IsClosed n ds t → length t ≤ limit
    → AreTextsOf t texts → IsClosedTableau n ds plan limit texts
closed_rows n ds plan limit rows t texts round closes reached closed within_limit are = record {
  symbols = are.symbols;
  texts = are.texts;
  round = round.round;
  last = rows;
  in_rounds = round.in_rounds;
  closes = record {
    leads = (closes.leads.0, functional_leads_end ds closes.leads.0 rows t are.symbols closes.leads.1 are.same);
    functionally_closed = functionally_closed-same ds t are.symbols are.same closes.functionally_closed;
  };
  reached = (reached.0, step_leads_end n ds reached.0 (plan_tableau n plan) t are.symbols reached.1 are.same);
  closed = closed-same n ds t are.symbols are.same closed;
  within_limit = omega (arith, within_limit, are.count);
  ascending = are.ascending;
}

pub closed_gains : (n : ℕ) (ds : List Dependency) (plan : List Attributes) (t : Tableau) (texts : Relation) → length plan < 2 ^ 32 → ReachesTableau n ds plan t → IsClosed n ds t → AreTextsOf t texts → (Contains t (distinguished_row n) → ⊥)
    → IsGaining n ds plan texts
closed_gains n ds plan t texts within_limit reached closed are lacks =
    subst (λ (r : Relation). IsGaining n ds plan r) (sym are.texts)
    (closed_gaining n ds plan are.symbols within_limit (reached.0, step_leads_end n ds reached.0 (plan_tableau n plan) t are.symbols reached.1 are.same) (closed-same n ds t are.symbols are.same closed) (λ h. lacks ((are.same (distinguished_row n)).1 h)))

-- what is said of the texts of the rows, where the rounds end at a closed tableau
pub record EndsLossy (n : ℕ) (ds : List Dependency) (plan : List Attributes) (limit : ℕ) (texts : Relation) : Type 0 where
  pub within : RoundsExceed n ds plan limit → ⊥
  pub closed : IsClosedTableau n ds plan limit texts
  pub gains : IsGaining n ds plan texts

pub ends_lossy : (n : ℕ) (ds : List Dependency) (plan : List Attributes) (limit : ℕ) (rows s t u : Tableau) (texts : Relation) → length plan < 2 ^ 32 → IsRound n ds plan limit rows → ClosesFunctionallyTo ds rows s → SameTableau s t
    → length t ≤ limit → (Contains t (distinguished_row n) → ⊥) → AddsAll (IsMadeOf n ds t) t u → length u ≡ length t → AreTextsOf u texts → EndsLossy n ds plan limit texts
ends_lossy n ds plan limit rows s t u texts small round closes same within_limit lacks adds count are =
    let closed : IsClosed n ds t = closed_when n ds plan limit rows s t round closes same u adds count in
    let reached : ReachesTableau n ds plan t = reached_closed n ds plan limit rows s t round closes same in
    let texts_are : AreTextsOf t texts = subst (λ (v : Tableau). AreTextsOf v texts) (no_more_rows t adds.extends.0 u adds.extends.1 count) are in
    record {
      within = ended n ds plan limit rows s t round closes same (inr closed);
      closed = closed_rows n ds plan limit rows t texts round (closes_to n ds plan limit rows s t round closes same) reached closed within_limit texts_are;
      gains = closed_gains n ds plan t texts small reached closed texts_are lacks;
    }

-- no dependency is multivalued
pub functional_none : (ds : List Dependency) → functional_part ds ≡ ds → (x y : Attributes) → Contains ds (mvd x y) → ⊥
functional_none ds whole x y given =
    let is : is_fd (mvd x y) ≡ true = All-contains (λ (d : Dependency). is_fd d ≡ true) ds (mvd x y) (subst (λ (es : List Dependency). All (λ (d : Dependency). is_fd d ≡ true) es) whole (filter_passes is_fd ds)) given in
    true≢false (sym is)
