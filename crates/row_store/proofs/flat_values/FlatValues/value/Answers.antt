-- A value is the piece between two ends.
use Rattle.std.proofs.Common.{arith, ℕ, ◌-◌, ◌∷◌, List, length, get_or, take, drop, ap, ◌∙◌}
use Rattle.row_store.proofs.PieceLemmas.{length_pieces, IsPiece, piece_between}
use Rattle.row_store.proofs.flat_values.FlatValues.value.Goals as goal
use Rattle.row_store.proofs.flat_values.FlatValues.value.Goals.{After-row_known-1}

pub start_of-requires : goal.start_of-requires
start_of-requires c = record { within = omega (arith, c.requires.within, ap length c.deref-2.ensures.value, ap length c.self.view_is, length_pieces 0 c.self.inside.bytes.items c.self.inside.ends.items) }

pub index-requires : goal.index-requires
index-requires c = omega (arith, c.requires.within, c.self.inside.ends.ok.0, ap length c.self.view_is, length_pieces 0 c.self.inside.bytes.items c.self.inside.ends.items)

here : (c : After-row_known-1) → IsPiece c.self.inside.bytes.items c.self.inside.ends.items c.args.self.now c.args.i c.start_of.result c.index.result.now
here c = piece_between _ _ _ _ _ _ c.self.invariant c.self.view_is c.requires.within
    (c.start_of.ensures.start ∙ ap (λ (ends : List ℕ). get_or (0 ∷ ends) c.args.i 0) c.deref-2.ensures.value) c.index.ensures

pub between-requires-clause-ordered : goal.between-requires-clause-ordered
between-requires-clause-ordered c = (here c).ordered

pub between-requires-clause-within : goal.between-requires-clause-within
between-requires-clause-within c = omega (arith, (here c).within, ap length c.deref.ensures.value)

pub returns : goal.returns
returns c =
    let here = piece_between _ _ _ _ _ _ c.self.invariant c.self.view_is c.requires.within
    (c.start_of.ensures.start ∙ ap (λ (ends : List ℕ). get_or (0 ∷ ends) c.args.i 0) c.deref-2.ensures.value) c.index.ensures in
    record {
      value = c.between.ensures.part
          ∙ ap (λ (bytes : List ℕ). take (c.index.result.now - c.start_of.result) (drop c.start_of.result bytes)) c.deref.ensures.value ∙ here.value;
    }
