-- A row has the values between two ends.
use Rattle.std.proofs.Common.{arith, ℕ, ◌∷◌, List, length, get_or, ap, sym, ◌∙◌}
use Rattle.row_store.proofs.PieceLemmas.{length_pieces, IsPiece, piece_between, size_of_piece}
use Rattle.row_store.proofs.rows.Rows.width.Goals as goal
use Rattle.row_store.proofs.rows.Rows.width.Goals.{After-start_of}

pub index-requires : goal.index-requires
index-requires c = omega (arith, c.requires.row, c.self.inside.ends.ok.0, ap length c.self.view_is, length_pieces 0 c.self.inside.values c.self.inside.ends.items)

pub start_of-requires : goal.start_of-requires
start_of-requires c = record { within = omega (arith, c.requires.row, ap length c.deref.ensures.value, ap length c.self.view_is, length_pieces 0 c.self.inside.values c.self.inside.ends.items) }

here : (c : After-start_of) → IsPiece c.self.inside.values c.self.inside.ends.items c.args.self.now c.args.row c.start_of.result c.index.result.now
here c = piece_between _ _ _ _ _ _ c.self.invariant.0 c.self.view_is c.requires.row
    (c.start_of.ensures.start ∙ ap (λ (ends : List ℕ). get_or (0 ∷ ends) c.args.row 0) c.deref.ensures.value) c.index.ensures

pub overflow_sub-result : goal.overflow_sub-result
overflow_sub-result c = (here c).ordered

pub returns : goal.returns
returns c = record { width = sym (ap length (sym (here c).value) ∙ size_of_piece c.self.inside.values c.start_of.result c.index.result.now (here c).within) }
