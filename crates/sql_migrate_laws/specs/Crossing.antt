-- Where a view joins a table crosswise: for the law of its order.
use Rattle.std.specs.Prelude.{◌≡◌, true, List, [], ◌∷◌, Contains}
use Rattle.attr_sets.specs.Attributes.{Attributes, union}
use Rattle.attr_sets.specs.Sets.{attributes, is_disjoint}
use Rattle.sql_migrate.specs.declared.joining.JoinedTable.{JoinedTable}

-- no table of a list shares an attribute with a set
abbrev pub ShareNone : Attributes → List JoinedTable → Type 0
ShareNone seen tables =
    (table : JoinedTable) → Contains tables table → is_disjoint seen (attributes table.scheme) ≡ true

-- of tables in an order, with these attributes before them, one that shares none of the attributes before it
-- comes only where neither does any that follows it
abbrev pub PartsAreCrossed : Attributes → List JoinedTable → Type 0
PartsAreCrossed seen [] = Unit {0}
PartsAreCrossed seen (table ∷ tables) =
    (is_disjoint seen (attributes table.scheme) ≡ true → ShareNone seen (table ∷ tables))
    × PartsAreCrossed (union seen (attributes table.scheme)) tables
