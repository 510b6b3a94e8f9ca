-- All dependencies that the rows of a file obey: for `discover all`.
use Rattle.std.specs.Prelude.{ℕ, List, length}
use Rattle.dep_model.specs.Dependencies.{Dependency}
use Rattle.dep_model.specs.Tuples.{Relation}
use Rattle.headed_rows.specs.Headings.{HeadedRows}
use Rattle.mvd_discovery.specs.Finding.{AreAllRules}
use Rattle.mvd_laws.specs.Covers.{IsCoverOfAll}
use Rattle.desk_responses.specs.declared.status.Status.TheVariants.{Yes}
use Rattle.desk_responses.specs.ResponseValues.{Allowed, Says}
use Rattle.desk_discovery.specs.Discoveries.{found_text}

-- the minimal functional dependencies of rows and their reduced multivalued ones without those that the others imply,
-- in order; they imply the dependencies of either kind that the rows obey and no other
pub record AreAllRulesOf (n : ℕ) (rows : Relation) (ds : List Dependency) : Type 0 where
  pub rules : AreAllRules n rows ds
  pub cover : IsCoverOfAll n rows ds

-- yes, with these
abbrev pub FindsAllRules : HeadedRows → Allowed
FindsAllRules headed response =
    (ds : List Dependency) × AreAllRulesOf (length headed.names) headed.rows ds
    × Says Yes (found_text headed.names ds) response
