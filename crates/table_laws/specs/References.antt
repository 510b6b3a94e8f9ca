-- Which references the tables of a design state: for the law `references_are_stated`. `Desk` does not
-- cite it.
use Rattle.std.specs.Prelude.{◌≡◌, ◌<◌, ◌⊎◌, ℕ, List, slice_get, Some, Contains}
use Rattle.attr_sets.specs.Sets.{attributes}
use Rattle.schema_model.specs.Schemas.{width_of, theory_of}
use Rattle.schema_model.specs.Schemas.{Schema}
use Rattle.ddl_text.specs.Designs.{RefersTo}
use Rattle.ddl_text.specs.declared.table.TableDesign.{TableDesign}
use Rattle.design_order.specs.Order.{DetermineTheSame}

-- a table refers to each other one whose key, not empty, lies within it, but for later ones that determine
-- the same attributes
abbrev pub ReferencesAreStated : Schema → List TableDesign → Type 0
ReferencesAreStated s tables =
    (i j : ℕ) (table other : TableDesign)
    → slice_get tables i ≡ Some table → slice_get tables j ≡ Some other → (i ≡ j → ⊥)
    → RefersTo (attributes table.scheme) other
    → Contains table.refs.items j
    ⊎ ((i < j) × DetermineTheSame (width_of s) (theory_of s) (attributes table.scheme) (attributes other.scheme))
