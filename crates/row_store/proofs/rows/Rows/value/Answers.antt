-- A value of a row stands so many positions behind the row's start.
use Rattle.std.proofs.Common.{arith, ℕ, ◌∷◌, [], List, length, get_or, ap, ◌∙◌}
use Rattle.row_store.proofs.PieceLemmas.{length_pieces, IsItem, item_at}
use Rattle.row_store.proofs.rows.Rows.value.Goals as goal
use Rattle.row_store.proofs.rows.Rows.value.Goals.{After-start_of-start}

pub start_of-start-requires : goal.start_of-start-requires
start_of-start-requires c = record { within = omega (arith, c.requires.row, ap length c.deref.ensures.value, ap length c.self.view_is, length_pieces 0 c.self.inside.values c.self.inside.ends.items) }

here : (c : After-start_of-start) → IsItem c.self.inside.values c.args.self.now c.args.row c.start_of-start.result c.args.position
here c = item_at _ c.self.inside.ends.items _ _ _ _ c.self.invariant.0 c.self.view_is c.requires.row c.requires.position
    (c.start_of-start.ensures.start ∙ ap (λ (ends : List ℕ). get_or (0 ∷ ends) c.args.row 0) c.deref.ensures.value)

pub overflow_add-start : goal.overflow_add-start
overflow_add-start c = omega (arith, (here c).within, c.self.invariant.1)

pub value-requires : goal.value-requires
value-requires c = record { within = (here c).within }

pub returns : goal.returns
returns c =
    let here = item_at _ c.self.inside.ends.items _ _ _ _ c.self.invariant.0 c.self.view_is c.requires.row c.requires.position
    (c.start_of-start.ensures.start ∙ ap (λ (ends : List ℕ). get_or (0 ∷ ends) c.args.row 0) c.deref.ensures.value) in
    record { value = c.value.ensures.value ∙ here.value [] }
