-- What is left to prove of `FlatValues::len`: its clauses `count` and `small`, by `length_pieces`.
use Rattle.std.proofs.Common.{arith, length, ap}
use Rattle.row_store.proofs.PieceLemmas.{length_pieces}
use Rattle.row_store.proofs.flat_values.FlatValues.len.Goals as goal

pub returns-clause-count : goal.returns-clause-count
returns-clause-count c = omega (arith, c.len.ensures, c.self.inside.ends.ok.0, ap length c.self.view_is, length_pieces 0 c.self.inside.bytes.items c.self.inside.ends.items)

pub returns-clause-small : goal.returns-clause-small
returns-clause-small c = omega (arith, c.len.ensures, c.self.inside.ends.small)
