-- The loop that closes a tableau functionally.
use Rattle.std.proofs.Common.{◌≡◌, ℕ, ◌+◌, ◌<◌, ◌≤◌, zero, suc, Bool, true, false, cond, List, [], ◌∷◌, length, refl, sym, ap, subst, ◌∙◌, ⊎_elim, arith}
use Rattle.std.proofs.lemmas.Bool.{true≢false}
use Rattle.std.proofs.lemmas.List.{get_or_default}
use Rattle.std.proofs.lemmas.List.Elements.{All-contains}
use Rattle.std.specs.Prelude.{Contains}
use Rattle.attr_sets.specs.Attributes.{Attributes}
use Rattle.dep_model.specs.Dependencies.{Dependency, fd}
use Rattle.chase_laws.specs.Tableaux.{SymbolRow, Tableau, symbol_at, IsTableauOver}
use Rattle.chase_laws.specs.Steps.{IsFunctionalStep, HasNoFunctionalStep, LeadsTo}
use Rattle.chase_laws.specs.Rounds.{ClosesFunctionallyTo}
use Rattle.chase_laws.proofs.TableauLemmas.{cons_cases, Same-refl}
use Rattle.chase_laws.proofs.InvariantLemmas.{Each, HasLength, HasAtMost, most-functional}
use Rattle.chase_laws.proofs.FunctionalClosingLemmas.{functionally_closed_from}
use Rattle.chase_laws.proofs.RoundLemmas.{functional_leads}
use Rattle.chase_laws.proofs.EndLemmas.{symbols_in_use, more_use}
use Rattle.tableau_chase.specs.Groups.{symbol_row_at}
use Rattle.tableau_chase.specs.Equating.{Changes, KeepsRows, AgreesBy}

-- ---- no symbol is greater than the sum of all
row_total : SymbolRow → ℕ
row_total [] = 0
row_total (v ∷ row) = v + row_total row

symbol-le : (row : SymbolRow) (k : ℕ) → symbol_at row k ≤ row_total row
unfolding row_total
symbol-le [] k = omega arith
symbol-le (v ∷ row) zero = omega arith
symbol-le (v ∷ row) (suc k) = let e = symbol-le row k in omega (arith, e)

pub tableau_total : Tableau → ℕ
tableau_total [] = 0
tableau_total (row ∷ t) = row_total row + tableau_total t

row-le : (t : Tableau) (row : SymbolRow) → Contains t row → row_total row ≤ tableau_total t
unfolding tableau_total
row-le [] row h = absurd (omega (arith, h.1))
row-le (p ∷ t) row h = ⊎_elim (λ (e : p ≡ row). let same = ap row_total e in omega (arith, same)) (λ later. let le = row-le t row later in omega (arith, le)) (cons_cases p t row h)

pub most_total : (t : Tableau) → Each (HasAtMost (tableau_total t)) t
most_total t row h k = omega (arith, symbol-le row k, row-le t row h)

pub each_over : (n : ℕ) (t : Tableau) → IsTableauOver n t → Each (HasLength n) t
each_over n t over row h = All-contains (HasLength n) t row over h

-- ---- what holds when the loop comes round
pub record IsClosingFunctionally (n : ℕ) (ds : List Dependency) (t s : Tableau) (changed : Bool) : Type 0 where
  pub leads : LeadsTo (IsFunctionalStep ds) t s
  pub count : length s ≡ length t
  pub over : IsTableauOver n s
  pub functionally_closed : changed ≡ false → HasNoFunctionalStep ds s

pub functional_closing_first : (n : ℕ) (ds : List Dependency) (t : Tableau) → IsTableauOver n t → IsClosingFunctionally n ds t t true
functional_closing_first n ds t over = record { leads = (0, Same-refl t); count = refl; over = over; functionally_closed = λ e. absurd (true≢false e) }

changes_leads : (ds : List Dependency) (changed : Bool) (t m s : Tableau) → LeadsTo (IsFunctionalStep ds) t m → Changes ds changed m s → LeadsTo (IsFunctionalStep ds) t s
changes_leads ds true t m s one changes = functional_leads ds (suc changes.0) t m s one.0 one.1 changes.1
changes_leads ds false t m s one same = subst (λ (u : Tableau). LeadsTo (IsFunctionalStep ds) t u) (sym same) one

Contains-row : (t : Tableau) (p : SymbolRow) (h : Contains t p) → symbol_row_at t h.0 ≡ p
Contains-row t p h = get_or_default t h.0 [] p h.1 ∙ h.2

agrees_functionally_closed : (ds : List Dependency) (t : Tableau) → ((x y : Attributes) → Contains ds (fd x y) → AgreesBy x y t) → HasNoFunctionalStep ds t
agrees_functionally_closed ds t agrees = functionally_closed_from ds t (λ x y p q given p_in q_in agree k m.
    let p_is : symbol_row_at t p_in.0 ≡ p = Contains-row t p p_in in
    let q_is : symbol_row_at t q_in.0 ≡ q = Contains-row t q q_in in
    ap (λ (r : SymbolRow). symbol_at r k) (sym p_is)
    ∙ agrees x y given p_in.0 q_in.0 p_in.1 q_in.1 (λ (j : ℕ) in_x. ap (λ (r : SymbolRow). symbol_at r j) p_is ∙ agree j in_x ∙ ap (λ (r : SymbolRow). symbol_at r j) (sym q_is)) k m
    ∙ ap (λ (r : SymbolRow). symbol_at r k) q_is)

pub functional_closing_next : (n : ℕ) (ds : List Dependency) (t m s : Tableau) (before changed : Bool) → IsClosingFunctionally n ds t m before → Changes ds changed m s → KeepsRows m s
    → (changed ≡ false → (x y : Attributes) → Contains ds (fd x y) → AgreesBy x y m) → IsClosingFunctionally n ds t s changed
functional_closing_next n ds t m s before changed old changes keeps obeyed = record {
  leads = changes_leads ds changed t m s old.leads changes;
  count = keeps.one_each ∙ old.count;
  over = keeps.over n old.over;
  functionally_closed = λ e. let same : s ≡ m = subst (λ (b : Bool). Changes ds b m s) e changes in subst (λ (u : Tableau). HasNoFunctionalStep ds u) (sym same) (agrees_functionally_closed ds m (obeyed e));
}

-- fewer symbols are in use after each change
pub functional_closing_lower : (n : ℕ) (ds : List Dependency) (t m s : Tableau) (changed : Bool) → IsTableauOver n t → IsClosingFunctionally n ds t m true → Changes ds changed m s
    → symbols_in_use n (suc (tableau_total t)) s + cond changed 1 0 < symbols_in_use n (suc (tableau_total t)) m + cond true 1 0
functional_closing_lower n ds t m s false over before same = let e = ap (λ (u : Tableau). symbols_in_use n (suc (tableau_total t)) u) same in omega (arith, e)
functional_closing_lower n ds t m s true over before changes =
    let low = most-functional (tableau_total t) ds before.leads.0 t m before.leads.1 (most_total t) in
    let less = more_use n (tableau_total t) ds changes.0 m s (each_over n m before.over) low changes.1 in
    omega (arith, less)

pub functional_closing_done : (n : ℕ) (ds : List Dependency) (t s : Tableau) → IsClosingFunctionally n ds t s false → ClosesFunctionallyTo ds t s
functional_closing_done n ds t s done = record { leads = done.leads; functionally_closed = done.functionally_closed refl }
