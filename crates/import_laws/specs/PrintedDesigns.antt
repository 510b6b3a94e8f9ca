-- The designs that `ddl` prints, of schemas whose types are stated by their texts: for the laws.
use Rattle.std.specs.Prelude.{◌≤◌, IsTrue, List, length, All}
use Rattle.attr_sets.specs.declared.set.AttrSet.{AttrSet}
use Rattle.schema_model.specs.Names.{IsName}
use Rattle.schema_model.specs.Schemas.{names_of, types_of, width_of}
use Rattle.schema_model.specs.Schemas.{Schema}
use Rattle.plans.specs.Schemes.{AreSchemes}
use Rattle.plan_printer.specs.NamedPlans.{AreApart}
use Rattle.table_names.specs.TableNames.{GivenNames}
use Rattle.table_names.specs.declared.numbered.TheConstants.{MOST_TABLES}
use Rattle.ddl_text.specs.Designs.{IsDesign}
use Rattle.ddl_text.specs.declared.table.TableDesign.{TableDesign}
use Rattle.sql_lexemes.specs.declared.dialect.Dialect.{Dialect}
use Rattle.import_laws.specs.StatedTypes.{states_a_type}

-- the design of a plan of a schema: the names of attributes are names, each type of columns is stated by its text,
-- the names that are given to tables are apart, and there are not too many tables
pub record IsPrintedDesign (d : Dialect) (s : Schema) (given : GivenNames) (schemes : List AttrSet)
    (tables : List TableDesign) : Type 0 where
  pub names : All IsName (names_of s)
  pub types : All (λ column. IsTrue (states_a_type d column)) (types_of s)
  pub plan : AreSchemes (width_of s) schemes
  pub design : IsDesign s given schemes tables
  pub apart : AreApart given
  pub limit : length tables ≤ MOST_TABLES
