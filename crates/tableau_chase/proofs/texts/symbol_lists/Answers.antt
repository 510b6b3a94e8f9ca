-- What is left to prove of `symbol_lists`: its clause `lists` and that a round of its loop keeps
-- the invariant.
use Rattle.std.proofs.Common.{◌≡◌, ℕ, List, ◌∙◌, ◌++◌, [], ◌∷◌, map, take, get_or, sym, ap, take_all, Vec, Global}
use Rattle.std.proofs.lemmas.List.{take_more, get_or_read, map-append}
use Rattle.chase_laws.specs.Tableaux.{SymbolRow, Tableau}
use Rattle.tableau_chase.proofs.texts.symbol_lists.Goals as goal

pub loop-i-preserved : goal.loop-i-preserved
loop-i-preserved c =
    let items : Vec ℕ Global → List ℕ = λ (list : Vec ℕ Global). list.items in
    let i = c.loop-i.i in
    let rows = c.args.rows.now in
    let row : SymbolRow = c.index-rows-i.result in
    let list : Vec ℕ Global = c.in_ok-symbols.field-0 in
    let is : list.items ≡ get_or rows i [] = c.in_ok-symbols.ensures.symbols ∙ get_or_read rows i row c.loop-i-test.true c.index-rows-i.is [] in
    ap (map items) c.in_ok-push.ensures.items ∙ map-append items c.loop-i.lists.items (list ∷ []) ∙ ap (λ (t : Tableau). t ++ list.items ∷ []) c.loop-i.invariant ∙ ap (λ (r : SymbolRow). take i rows ++ r ∷ []) is
    ∙ sym (take_more rows i [] c.loop-i-test.true)

pub returns : goal.returns
returns c = record { lists = c.loop-i.invariant ∙ take_all c.loop-i.i c.args.rows.now c.loop-i-test.false }
