-- Legal relations, and implication over all of them: for nearly every theorem.
use Rattle.std.specs.Prelude.{ℕ, List, All}
use Rattle.dep_model.specs.Tuples.{Relation, IsOver}
use Rattle.dep_model.specs.Dependencies.{Dependency, Obeys}

-- a relation over n attributes is legal where it obeys every given dependency
pub record IsLegal (n : ℕ) (ds : List Dependency) (r : Relation) : Type 0 where
  pub over : IsOver n r
  pub obeys : All (λ d. Obeys n d r) ds

-- a dependency is implied where every legal relation obeys it
abbrev pub Implies : ℕ → List Dependency → Dependency → Type 0
Implies n ds d = (r : Relation) → IsLegal n ds r → Obeys n d r
