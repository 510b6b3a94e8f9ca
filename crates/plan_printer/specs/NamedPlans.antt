-- The schemes of a plan, with the names that it gives to their tables: for what a plan text means, and for the
-- commands that make tables of a plan (`desk_designs/Naming`).
use Rattle.std.specs.Prelude.{◌≡◌, ℕ, false, List, [], ◌∷◌, ◌++◌, map, Option, None, Some, All, AllPairs}
use Rattle.attr_sets.specs.Attributes.{Attributes}
use Rattle.plans.specs.Plans.{plan_of}
use Rattle.table_names.specs.TableNames.{is_given, is_taken}
use Rattle.plan_printer.specs.declared.plan.NamedPlan.{NamedPlan}

-- a table of a plan: its name, where one is given, and its scheme
pub record PlannedTable : Type 0 where
  pub name : Option (List ℕ)
  pub scheme : Attributes

-- the schemes of a plan, and beside each the name of its table, where one is given
pub record NamedSchemes : Type 0 where
  pub schemes : List Attributes
  pub names : List (Option (List ℕ))

abbrev pub no_tables : NamedSchemes
no_tables = record { schemes = []; names = [] }

-- a table in front of others
abbrev pub led_by_table : PlannedTable → NamedSchemes → NamedSchemes
led_by_table table plan = record { schemes = table.scheme ∷ plan.schemes; names = table.name ∷ plan.names }

-- a table after others
abbrev pub with_table : NamedSchemes → PlannedTable → NamedSchemes
with_table plan table =
    record { schemes = plan.schemes ++ table.scheme ∷ []; names = plan.names ++ table.name ∷ [] }

-- schemes whose tables have no names
abbrev pub unnamed : List Attributes → NamedSchemes
unnamed schemes = record { schemes = schemes; names = map (λ scheme. None) schemes }

-- of two tables not both have the same name, the case of letters aside
abbrev pub ApartFrom : Option (List ℕ) → Option (List ℕ) → Type 0
ApartFrom one None = Unit {0}
ApartFrom one (Some name) = is_given name one ≡ false

-- a table has no name, or one by which no script names a table or a view itself
abbrev pub IsOwnName : Option (List ℕ) → Type 0
IsOwnName None = Unit {0}
IsOwnName (Some name) = is_taken name ≡ false

-- no two names of tables are the same, and each is a name of its own
pub record AreApart (names : List (Option (List ℕ))) : Type 0 where
  pub apart : AllPairs ApartFrom names
  pub own : All IsOwnName names

-- a plan of the code
abbrev pub named_schemes : NamedPlan → NamedSchemes
named_schemes planned = record { schemes = plan_of planned.plan; names = planned.names.items }
