-- What is left to prove of `Rows::len`: its clause `count`, by `length_pieces`.
use Rattle.std.proofs.Common.{arith, length, ap}
use Rattle.row_store.proofs.PieceLemmas.{length_pieces}
use Rattle.row_store.proofs.rows.Rows.len.Goals as goal

pub returns : goal.returns
returns c = record { count = omega (arith, c.len.ensures, c.self.inside.ends.ok.0, ap length c.self.view_is, length_pieces 0 c.self.inside.values c.self.inside.ends.items) }
