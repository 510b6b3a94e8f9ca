-- What the loop of `first_with_left` keeps: none of those before has the left side.
use Rattle.std.proofs.Common.{◌≡◌, ◌<◌, ℕ, true}
use Rattle.std.specs.Prelude.{slice_get, Some}
use Rattle.canonical_cover.specs.Merging.{have_same_left}
use Rattle.dep_model.specs.Dependencies.{Dependency}
use Rattle.dep_model.specs.Theories.{theory_of}
use Rattle.cover_accounts.proofs.sides.first_with_left.Given as goal

abbrev pub invariant-loop-j : goal.invariant-loop-j
invariant-loop-j l =
    (i : ℕ) (d e : Dependency) → i < l.j → slice_get (theory_of l.theory) i ≡ Some d → slice_get (theory_of l.theory) l.k ≡ Some e
    → have_same_left d e ≡ true → ⊥
