-- Tables in a folder of their own.
use Rattle.std.proofs.Common.{◌≡◌, ℕ, List, Bool, true, Ok, Err, Result, refl, subst}
use Rattle.std.specs.Prelude.{IsTrue}
use Rattle.attr_sets.specs.declared.set.AttrSet.{AttrSet}
use Rattle.dep_model.specs.Plans.{schemes_of}
use Rattle.dep_model.specs.Tuples.{Relation}
use Rattle.schema_model.specs.Schemas.{Schema}
use Rattle.table_names.specs.TableNames.{GivenNames}
use Rattle.desk_responses.specs.Responses.{RespondsAs}
use Rattle.desk_responses.specs.declared.response.EarlyExit.{EarlyExit}
use Rattle.desk_responses.specs.declared.response.Response.{Response}
use Rattle.desk_tables.specs.OwnFolders.{Looks, MigratesRowsInto, MigratesSchemesInto}

-- a look that was answered yes
pub is_free : (looks : Looks) (folder : List ℕ) (free : Bool) → free ≡ true → IsTrue (looks folder free) → IsTrue (looks folder true)
is_free looks folder free answered look = subst (λ (b : Bool). IsTrue (looks folder b)) answered look

-- what is answered of the sets of a plan is answered of its schemes
pub of_schemes : (schema : Schema) (names : GivenNames) (plan : List AttrSet) (folder : List ℕ) (rows : Relation) (result : Result Response EarlyExit)
    → RespondsAs (MigratesRowsInto schema names plan folder rows) result → RespondsAs (MigratesSchemesInto schema names (schemes_of plan) folder rows) result
of_schemes schema names plan folder rows (Ok response) goes = (plan, refl, goes)
of_schemes schema names plan folder rows (Err exit) goes = λ response e. (plan, refl, goes response e)
