-- Where two rows agree that break a dependency.
use Rattle.std.proofs.Common.{◌≡◌, ℕ, List, sym, subst}
use Rattle.std.proofs.lemmas.Bool.{and_parts}
use Rattle.std.specs.Prelude.{not}
use Rattle.attr_sets.specs.Attributes.{Attributes, IsSubset, below}
use Rattle.dep_basis.specs.Decisions.{IsBrokenBy}
use Rattle.dep_model.specs.Dependencies.{Dependency}

pub broken_within : (n : ℕ) (ds : List Dependency) (d : Dependency) (agreement : Attributes)
    → IsBrokenBy n ds d agreement → IsSubset agreement (below n)
broken_within n ds d agreement broken =
    subst (λ (x : Attributes). IsSubset x (below n)) (sym broken.outside)
    (λ k member. (and_parts (below n k) (not (broken.block k)) member).0)
