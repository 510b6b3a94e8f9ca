-- When a plan keeps the functional dependencies: for `check keeps`, `synthesize` and preservation.
use Rattle.std.specs.Prelude.{ℕ, List, Any}
use Rattle.attr_sets.specs.Attributes.{Attributes, union, IsSubset}
use Rattle.dep_model.specs.Tuples.{Relation, IsOver}
use Rattle.dep_model.specs.Dependencies.{Dependency, fd, ObeysFd, functional_part}
use Rattle.dep_model.specs.Implication.{IsLegal, Implies}

-- a relation that obeys each implied functional dependency inside one scheme of the plan is legal for
-- the functional part
abbrev pub KeepsDependencies : ℕ → List Dependency → List Attributes → Type 0
KeepsDependencies n ds plan =
    (r : Relation) → IsOver n r
    → ((x y : Attributes) → Any (λ (scheme : Attributes). IsSubset (union x y) scheme) plan
    → Implies n (functional_part ds) (fd x y) → ObeysFd x y r)
    → IsLegal n (functional_part ds) r
