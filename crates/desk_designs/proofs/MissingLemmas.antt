-- Designs of plans that nothing keeps from being read back.
use Rattle.std.proofs.Common.{List, length, map, refl, subst}
use Rattle.std.proofs.lemmas.List.{length-map}
use Rattle.attr_sets.specs.declared.set.AttrSet.{AttrSet}
use Rattle.dep_model.specs.Plans.{schemes_of}
use Rattle.schema_model.specs.Schemas.{nullable_of}
use Rattle.schema_model.specs.Schemas.{Schema}
use Rattle.table_names.specs.TableNames.{GivenNames}
use Rattle.ddl_text.specs.Designs.{keyed}
use Rattle.ddl_text.specs.declared.table.TableDesign.{TableDesign}
use Rattle.optional_tables.specs.Hindrances.{IsUnhindered}
use Rattle.desk_designs.specs.Designs.{AreReadable, IsDesignOf, IsSoundDesign}

-- a sound design of a plan is one of its schemes
pub design_of_schemes : (s : Schema) (names : GivenNames) (plan : List AttrSet) (tables : List TableDesign) → IsSoundDesign s names plan tables
    → IsDesignOf s names (schemes_of plan) tables
design_of_schemes s names plan tables sound = record { plan = plan; same = refl; sound = sound }

-- a sound design that nothing hinders shows it
pub readable_plan : (s : Schema) (names : GivenNames) (plan : List AttrSet) (tables : List TableDesign) → IsSoundDesign s names plan tables
    → IsUnhindered (nullable_of s) (map keyed tables) → AreReadable s names (schemes_of plan)
readable_plan s names plan tables sound unhindered = (tables, design_of_schemes s names plan tables sound, unhindered)
