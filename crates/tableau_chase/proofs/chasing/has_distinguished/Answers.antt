-- What is left to prove of `has_distinguished`: its clause `found` and that a round of its loop
-- keeps the invariant, by `distinguished_from` and `distinguished_to`.
use Rattle.std.proofs.Common.{◌≡◌, ℕ, ◌∙◌, [], length, inl, inr, sym, ap, subst, refl, arith}
use Rattle.std.proofs.lemmas.Bool.{cases_lt, true≢false, false≢true}
use Rattle.std.proofs.lemmas.List.{get_or_read, get_or_default}
use Rattle.std.specs.Prelude.{Contains}
use Rattle.chase_laws.specs.Tableaux.{SymbolRow, distinguished_row}
use Rattle.tableau_chase.specs.Groups.{symbol_row_at}
use Rattle.tableau_chase.proofs.ZeroLemmas.{distinguished_from, distinguished_to}
use Rattle.tableau_chase.proofs.chasing.has_distinguished.Goals as goal

pub loop-i-preserved : goal.loop-i-preserved
loop-i-preserved c j l =
    let i = c.loop-i.i in
    let row : SymbolRow = c.index-rows-i.result in
    let row_is : row ≡ symbol_row_at c.args.rows.now i = get_or_read c.args.rows.now i row c.loop-i-test.true c.index-rows-i.is [] in
    elim (cases_lt j i) [
      | inl lt ↦ c.loop-i.invariant j lt
      | inr ge ↦ λ e.
          let here : j ≡ i = omega arith in
          let zeros = distinguished_to c.args.width row (row_is ∙ ap (λ (k : ℕ). symbol_row_at c.args.rows.now k) (sym here) ∙ e) in
          true≢false (sym zeros ∙ sym c.is_distinguished.ensures.zeros ∙ c.if-is_distinguished.false)
    ]

pub returns-then-is_distinguished : goal.returns-then-is_distinguished
returns-then-is_distinguished c =
    let i = c.loop-i.i in
    let row : SymbolRow = c.index-rows-i.result in
    let len : length row ≡ c.args.width = ap (λ (r : SymbolRow). length r) c.index-rows-i.is ∙ c.requires.over i row c.loop-i-test.true in
    let is : row ≡ distinguished_row c.args.width = distinguished_from c.args.width row len (sym c.is_distinguished.ensures.zeros ∙ c.if-is_distinguished.true) in
    record { found = ((λ _. subst (λ (r : SymbolRow). Contains c.args.rows.now r) is (i, c.loop-i-test.true, sym c.index-rows-i.is)), (λ _. refl)) }

pub returns : goal.returns
returns c = record {
  found = (
    (λ e. absurd (false≢true e)),
    (λ h. absurd (c.loop-i.invariant h.0 (omega (arith, h.1, c.loop-i-test.false)) (get_or_default c.args.rows.now h.0 [] (distinguished_row c.args.width) h.1 ∙ h.2))),
  );
}
