-- When one answer alone is allowed: for the laws that each command on implication has one. `Desk` does not
-- cite it.
use Rattle.std.specs.Prelude.{◌≡◌, ℕ, List}
use Rattle.dep_model.specs.Dependencies.{Dependency, fd, mvd, functional_part}
use Rattle.dep_model.specs.Implication.{Implies}
use Rattle.schema_model.specs.Schemas.{width_of, theory_of, theory_in, ImpliedBy}
use Rattle.schema_model.specs.Schemas.{Schema}
use Rattle.basis_proofs.specs.Proofs.{IsFirstGiven}
use Rattle.desk_arguments.specs.Goals.{IsGoal}
use Rattle.desk_responses.specs.ResponseValues.{ResponseValue, Allowed}
use Rattle.desk_responses.specs.declared.status.Status.TheVariants.{Yes}

-- any two answers that are allowed are equal
abbrev pub AllowsOne : Allowed → Type 0
AllowsOne allowed = (one other : ResponseValue) → allowed one → allowed other → one ≡ other

-- both answers to the text of a goal say that it is implied
pub record AreBothYes (s : Schema) (goal : List ℕ) (one other : ResponseValue) : Type 0 where
  pub dependency : Dependency
  pub means : IsGoal s goal dependency
  pub implied : ImpliedBy s dependency
  pub one_says_yes : one.status ≡ Yes
  pub other_says_yes : other.status ≡ Yes

-- the derivation that is printed of a dependency is fixed: it is the functional chain, or the one line of a
-- multivalued dependency that is given
abbrev pub HasFixedProof : Schema → Dependency → Type 0
HasFixedProof s (fd x y) = Implies (width_of s) (functional_part (theory_of s)) (fd x y)
HasFixedProof s (mvd x y) = (k : ℕ) × IsFirstGiven (theory_in s) (mvd x y) k
