-- What is left to prove of `SymbolRow::of_scheme`: that the invariant of its loop holds at first
-- and stays, by `scheme_row-none` and `scheme_row-more`.
use Rattle.std.proofs.Common.{◌≡◌, ℕ, Bool, cond, List, ◌∙◌, ◌++◌, [], ◌∷◌, sym, ap}
use Rattle.attr_sets.specs.Sets.{attributes}
use Rattle.chase_laws.specs.Tableaux.{scheme_row}
use Rattle.tableau_chase.proofs.RowLemmas.{scheme_row-none, scheme_row-more}
use Rattle.tableau_chase.proofs.symbol_row.SymbolRow.of_scheme.Goals as goal

pub loop-a-init : goal.loop-a-init
loop-a-init c = c.in_ok-symbols.ensures.items ∙ sym (scheme_row-none (attributes c.args.scheme) c.args.number)

pub loop-a-preserved : goal.loop-a-preserved
loop-a-preserved c =
    let a = c.loop-a.a in
    let x = attributes c.args.scheme in
    let symbol : c.one_of.result ≡ cond (x a) 0 c.args.number = c.one_of.ensures.symbol ∙ ap (λ (b : Bool). cond b 0 c.args.number) c.contains.ensures.member in
    c.in_ok-push.ensures.items
    ∙ ap (λ (row : List ℕ). row ++ c.one_of.result ∷ []) c.loop-a.invariant
    ∙ ap (λ (v : ℕ). scheme_row a x c.args.number ++ v ∷ []) symbol
    ∙ sym (scheme_row-more a x c.args.number)
