-- Two designs that are the same field by field: for the law that a plan has one design. `Desk` does not
-- cite it.
use Rattle.std.specs.Prelude.{◌≡◌, List, is_some}
use Rattle.std.specs.List.{AllZip}
use Rattle.attr_sets.specs.Sets.{attributes}
use Rattle.ddl_text.specs.Designs.{known_keys}
use Rattle.ddl_text.specs.declared.table.TableDesign.{TableDesign}

-- two tables have the same number, name, columns, key, other keys and references
pub record IsSameTable (one other : TableDesign) : Type 0 where
  pub number : one.number ≡ other.number
  pub name : one.name ≡ other.name
  pub columns : attributes one.scheme ≡ attributes other.scheme
  pub key : attributes one.key ≡ attributes other.key
  pub other_keys : known_keys one.other_keys ≡ known_keys other.other_keys
  pub are_known : is_some one.other_keys ≡ is_some other.other_keys
  pub references : one.refs.items ≡ other.refs.items

-- two designs have the same tables, in the same order
abbrev pub AreSameTables : List TableDesign → List TableDesign → Type 0
AreSameTables one other = AllZip IsSameTable one other
