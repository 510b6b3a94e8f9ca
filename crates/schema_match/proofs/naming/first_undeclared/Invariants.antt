-- What the loop of `first_undeclared` keeps, in terms of `undeclared_attributes`.
use Rattle.std.proofs.Common.{◌≡◌, ℕ, ◌<◌, false}
use Rattle.schema_match.specs.Columns.{undeclared_attributes}
use Rattle.schema_match.proofs.naming.first_undeclared.Given as goal

abbrev pub invariant-loop-a : goal.invariant-loop-a
invariant-loop-a l = (b : ℕ) → b < l.a → undeclared_attributes l.schema l.other b ≡ false
