-- When a dependency is rightly said to be implied, or to be broken by two rows: for `decide`,
-- `prove` and `implies` (`desk_implication/Implication`).
use Rattle.attr_sets.specs.Attributes.{Attributes, below, difference}
use Rattle.std.specs.Prelude.{List, ℕ, ◌≡◌}
use Rattle.attr_sets.specs.Sets.{attributes}
use Rattle.dep_model.specs.Dependencies.{Dependency, Obeys}
use Rattle.dep_model.specs.Implication.{IsLegal, Implies}
use Rattle.dep_model.specs.TwoTuples.{two_tuples}
use Rattle.dep_basis.specs.declared.deciding.Decision.{Decision}
use Rattle.dep_basis.specs.declared.deciding.Decision.TheVariants.{Implied, Broken}
use Rattle.dep_basis.specs.Breaking.{IsBreakingBlock}

-- two rows that agree exactly on a set are legal and break a dependency; the set is all outside the
-- block that shows it
pub record IsBrokenBy (n : ℕ) (ds : List Dependency) (d : Dependency) (agreement : Attributes) : Type 0 where
  pub block : Attributes
  pub is_breaking : IsBreakingBlock n ds d block
  pub outside : agreement ≡ difference (below n) block
  pub legal : IsLegal n ds (two_tuples n agreement)
  pub breaks : Obeys n d (two_tuples n agreement) → ⊥

-- a decision is right: the dependency is implied, or two rows show that it is not
abbrev pub IsDecided : ℕ → List Dependency → Dependency → Decision → Type 0
IsDecided n ds d Implied = Implies n ds d
IsDecided n ds d (Broken agreement) = IsBrokenBy n ds d (attributes agreement)
