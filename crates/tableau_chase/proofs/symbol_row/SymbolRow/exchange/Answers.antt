-- What is left to prove of `SymbolRow::exchange`: that the invariant of its loop holds at first and
-- stays, by `exchange_rows-none` and `exchange_rows-more`.
use Rattle.std.proofs.Common.{◌≡◌, ℕ, Bool, cond, List, ◌∙◌, ◌++◌, [], ◌∷◌, sym, ap}
use Rattle.attr_sets.specs.Sets.{attributes}
use Rattle.chase_laws.specs.Tableaux.{symbol_at}
use Rattle.chase_laws.specs.Steps.{exchange_rows}
use Rattle.tableau_chase.proofs.RowLemmas.{exchange_rows-none, exchange_rows-more}
use Rattle.tableau_chase.proofs.symbol_row.SymbolRow.exchange.Goals as goal

pub loop-a-init : goal.loop-a-init
loop-a-init c = c.in_ok-symbols.ensures.items ∙ sym (exchange_rows-none (attributes c.args.on) c.args.self.now c.args.other.now)

pub loop-a-preserved : goal.loop-a-preserved
loop-a-preserved c =
    let a = c.loop-a.a in
    let z = attributes c.args.on in
    let p = c.args.self.now in
    let q = c.args.other.now in
    let symbol : c.one_of.result ≡ cond (z a) (symbol_at p a) (symbol_at q a) =
    c.one_of.ensures.symbol ∙ ap (λ (b : Bool). cond b c.symbol-first.result c.symbol-second.result) c.contains.ensures.member
    ∙ ap (λ (v : ℕ). cond (z a) v c.symbol-second.result) c.symbol-first.ensures.symbol ∙ ap (λ (v : ℕ). cond (z a) (symbol_at p a) v) c.symbol-second.ensures.symbol in
    c.in_ok-push.ensures.items
    ∙ ap (λ (row : List ℕ). row ++ c.one_of.result ∷ []) c.loop-a.invariant
    ∙ ap (λ (v : ℕ). exchange_rows a z p q ++ v ∷ []) symbol
    ∙ sym (exchange_rows-more a z p q)
