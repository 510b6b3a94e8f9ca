-- What is found of rows while dependencies are tested: for `refuting_evidence` and the functions below it. `Desk`
-- does not cite it.
use Rattle.std.specs.Prelude.{ℕ, List, All}
use Rattle.attr_sets.specs.Attributes.{below}
use Rattle.dep_model.specs.Dependencies.{Obeys}
use Rattle.dep_model.specs.Deps.{dependencies_of, IsDepWithin}
use Rattle.dep_model.specs.Tuples.{Relation}
use Rattle.dep_model.specs.declared.dep.Dep.{Dep}
use Rattle.candidate_search.specs.Levels.{IsLevel}
use Rattle.candidate_search.specs.declared.findings.Findings.{Findings}

-- dependencies within n columns that rows obey
pub record AreObeyed (n : ℕ) (r : Relation) (deps : List Dep) : Type 0 where
  pub within : All (IsDepWithin (below n)) deps
  pub obeyed : All (λ d. Obeys n d r) (dependencies_of deps)

-- groups of the rows, and dependencies that they obey
pub record AreFindings (n : ℕ) (r : Relation) (findings : Findings) : Type 0 where
  pub levels : All (IsLevel r) findings.levels.items
  pub obeyed : AreObeyed n r findings.obeyed.items
