-- The closed tableau of a plan: the steps lead to one, and its rows have one order.
use Rattle.std.proofs.Common.{◌≡◌, ℕ, suc, List, [], ◌∷◌, refl, sym, ap, subst, ◌∙◌, ⊎_elim, arith}
use Rattle.std.proofs.lemmas.Cmp.{nat_list_cmp_total, tied_itself}
use Rattle.std.specs.Prelude.{AllPairs, Contains}
use Rattle.attr_sets.specs.Attributes.{Attributes}
use Rattle.dep_model.specs.Tuples.{Relation}
use Rattle.dep_model.specs.Dependencies.{Dependency}
use Rattle.dep_model.proofs.ListLemmas.{Contains-head, Contains-later}
use Rattle.chase_laws.specs.Tableaux.{SymbolRow, Tableau, SameTableau}
use Rattle.chase_laws.specs.Answers.{texts_of, RowBefore, IsClosedTableau}
use Rattle.chase_laws.proofs.TableauLemmas.{cons_cases}
use Rattle.chase_laws.proofs.ClosingLemmas.{closing_unique}

-- ---- the order of rows
before-irrefl : (p : SymbolRow) → RowBefore p p → ⊥
before-irrefl p less = let tied = tied_itself nat_list_cmp_total p in cc

-- ---- rows in this order
abbrev Ascends : Tableau → Type 0
Ascends t = AllPairs RowBefore t

-- each row of a tableau is in another
abbrev HoldsAll : Tableau → Tableau → Type 0
HoldsAll t s = (row : SymbolRow) → Contains t row → Contains s row

later_ascends : (p : SymbolRow) (t : Tableau) → Ascends (p ∷ t) → Ascends t
later_ascends p t ascends i j d before l = ascends (suc i) (suc j) d (omega (arith, before)) (omega (arith, l))

first_before : (p : SymbolRow) (t : Tableau) (row : SymbolRow) → Ascends (p ∷ t) → Contains t row → RowBefore p row
first_before p t row ascends has =
    subst (λ (q : SymbolRow). RowBefore p q) has.2 (ascends 0 (suc has.0) row (omega arith) (omega (arith, has.1)))

-- the first rows are the same
first_same : (p q : SymbolRow) (t s : Tableau) → Ascends (p ∷ t) → Ascends (q ∷ s) → HoldsAll (p ∷ t) (q ∷ s)
    → HoldsAll (q ∷ s) (p ∷ t) → p ≡ q
first_same p q t s p_first q_first there back = ⊎_elim
    (λ same. sym same)
    (λ p_later. ⊎_elim
    (λ same. same)
    (λ q_later. absurd (before-irrefl p
    (nat_list_cmp_total.trans p q p (first_before p t q p_first q_later) (first_before q s p q_first p_later))))
    (cons_cases p t q (back q (Contains-head q s))))
    (cons_cases q s p (there p (Contains-head p t)))

later_held : (p : SymbolRow) (t s : Tableau) → Ascends (p ∷ t) → HoldsAll (p ∷ t) (p ∷ s) → HoldsAll t s
later_held p t s ascends there row has = ⊎_elim
    (λ same. absurd (before-irrefl p
    (subst (λ (q : SymbolRow). RowBefore p q) (sym same) (first_before p t row ascends has))))
    (λ later. later)
    (cons_cases p s row (there row (Contains-later p t row has)))

-- two tableaux whose rows ascend and are the same are one list
one_list : (t s : Tableau) → Ascends t → Ascends s → HoldsAll t s → HoldsAll s t → t ≡ s
one_list [] [] one other there back = refl
one_list [] (q ∷ s) one other there back = absurd (omega (arith, (back q (Contains-head q s)).1))
one_list (p ∷ t) [] one other there back = absurd (omega (arith, (there p (Contains-head p t)).1))
one_list (p ∷ t) (q ∷ s) one other there back =
    let same : p ≡ q = first_same p q t s one other there back in
    let to_p : q ∷ s ≡ p ∷ s = ap (λ (row : SymbolRow). row ∷ s) (sym same) in
    let other_p : Ascends (p ∷ s) = subst Ascends to_p other in
    let there_p : HoldsAll (p ∷ t) (p ∷ s) = subst (λ (u : Tableau). HoldsAll (p ∷ t) u) to_p there in
    let back_p : HoldsAll (p ∷ s) (p ∷ t) = subst (λ (u : Tableau). HoldsAll u (p ∷ t)) to_p back in
    ap (λ (u : Tableau). p ∷ u)
    (one_list t s (later_ascends p t one) (later_ascends p s other_p) (later_held p t s one there_p)
    (later_held p s t other_p back_p)) ∙ sym to_p

-- ---- one closed tableau
pub closed_unique : (n : ℕ) (ds : List Dependency) (plan : List Attributes) (limit : ℕ) (r s : Relation)
    → IsClosedTableau n ds plan limit r → IsClosedTableau n ds plan limit s → r ≡ s
closed_unique n ds plan limit r s one other =
    let same : SameTableau one.symbols other.symbols =
    closing_unique n ds plan one.symbols other.symbols one.reached one.closed other.reached other.closed in
    let symbols : one.symbols ≡ other.symbols =
    one_list one.symbols other.symbols one.ascending other.ascending (λ row. (same row).0)
    (λ row. (same row).1) in
    one.texts ∙ ap texts_of symbols ∙ sym other.texts
