-- What the loop of `first_home` keeps: no table so far is a home of the attribute.
use Rattle.std.proofs.Common.{ℕ, ◌<◌}
use Rattle.optional_tables.specs.Readable.{IsHomeAt}
use Rattle.optional_tables.proofs.sharing.first_home.Given as goal

abbrev pub invariant-loop-j : goal.invariant-loop-j
invariant-loop-j l = (i : ℕ) → i < l.j → IsHomeAt l.tables l.attribute i → ⊥
