-- Queries over one table, as terms, and the queries of the rules and of a plan: for the scripts of
-- sql_scripts.
use Rattle.std.specs.Prelude.{ℕ, ◌||◌, Option, Some, None, List, [], ◌∷◌, if◌then◌else◌}
use Rattle.attr_sets.specs.Attributes.{Attributes, below, none, union, difference}
use Rattle.attr_sets.specs.Sets.{is_subset}
use Rattle.dep_model.specs.Dependencies.{Dependency, fd, mvd}

-- a query over one table
pub data TableQuery : Type 0 where
  -- the table
  whole : TableQuery
  -- the table's values on a set of attributes
  values_on : Attributes → TableQuery
  -- those values on the first set that stand beside more than one value on the second
  several : Attributes → Attributes → TableQuery
  -- those on the first set beside which the values on the second and on the third are not all paired
  unpaired : Attributes → Attributes → Attributes → TableQuery
  -- the natural join of two queries
  join : TableQuery → TableQuery → TableQuery
  -- what the first query gives and the second, which has the same attributes, does not
  except : TableQuery → TableQuery → TableQuery
  -- what a query gives, kept under a name as a table or a view
  kept : List ℕ → TableQuery → TableQuery

-- the attributes of what a query gives, where the table has the attributes below n
abbrev pub attributes_of : ℕ → TableQuery → Attributes
attributes_of n whole = below n
attributes_of n (values_on x) = x
attributes_of n (several x y) = x
attributes_of n (unpaired x y z) = x
attributes_of n (join p q) = union (attributes_of n p) (attributes_of n q)
attributes_of n (except p q) = attributes_of n p
attributes_of n (kept name q) = attributes_of n q

-- ---- rules
-- what breaks x -> y: values of x beside more than one value of xy
abbrev pub breaches_of_fd : Attributes → Attributes → Option TableQuery
breaches_of_fd x y = if is_subset y x then None else Some (several x (union x y))

-- what breaks x ->> y: values of x beside which those of the rest of y, and those of what is left, are
-- not all paired
abbrev pub breaches_of_mvd : ℕ → Attributes → Attributes → Option TableQuery
breaches_of_mvd n x y =
    if is_subset y x || is_subset (below n) (union x y) then None
    else Some (unpaired x (difference y x) (difference (below n) (union x y)))

-- the query for what breaks a dependency; none where every relation obeys it
abbrev pub breaches_of : ℕ → Dependency → Option TableQuery
breaches_of n (fd x y) = breaches_of_fd x y
breaches_of n (mvd x y) = breaches_of_mvd n x y

-- ---- plans
-- a table of a plan, by its name and its scheme
pub record StoredTable : Type 0 where
  pub name : List ℕ
  pub scheme : Attributes

-- what a table of a plan holds
abbrev pub rows_of : StoredTable → TableQuery
rows_of table = values_on table.scheme

-- the same, under its name
abbrev pub stored_query : StoredTable → TableQuery
stored_query table = kept table.name (rows_of table)

-- a query joined with tables, one after the other
abbrev pub joined_with : TableQuery → List StoredTable → TableQuery
joined_with q [] = q
joined_with q (table ∷ tables) = joined_with (join q (stored_query table)) tables

-- the natural join of the tables of a plan
abbrev pub plan_join : List StoredTable → TableQuery
plan_join [] = values_on none
plan_join (table ∷ tables) = joined_with (stored_query table) tables

-- what the table has beyond a view on the join, and the view beyond the table
abbrev pub table_beyond_view : List ℕ → List StoredTable → TableQuery
table_beyond_view name tables = except whole (kept name (plan_join tables))

abbrev pub view_beyond_table : List ℕ → List StoredTable → TableQuery
view_beyond_table name tables = except (kept name (plan_join tables)) whole
