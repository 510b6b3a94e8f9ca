-- Queries of SQL as values: for all that prints queries, and for the laws of what they give.
use Rattle.std.specs.Prelude.{ℕ, Bool, Option, List}

-- the name of a column: one of a user's table, or one that a query makes for itself
pub data ColumnName : Type 0 where
  attribute : List ℕ → ColumnName
  helper : List ℕ → ColumnName

-- a column of a source, by the alias of the source and the column's name: no name stands alone
pub record Column : Type 0 where
  pub alias : List ℕ
  pub name : ColumnName

-- a value
pub data Scalar : Type 0 where
  column : Column → Scalar
  as_text : Scalar → Scalar
  as_integer : Scalar → Scalar
  -- a value with the empty text after it: its text, which has no equality of its own
  with_empty_text : Scalar → Scalar
  number_zero : Scalar
  number_one : Scalar
  -- a number that is written out, and the missing value
  written_number : ℕ → Scalar
  missing_value : Scalar
  -- of a group: how many rows it has, the sum of a column, its greatest value, the product of two
  -- sums
  count : Scalar
  sum : Column → Scalar
  greatest : Column → Scalar
  sum_product : Column → Column → Scalar
  -- a value less the sum of a column
  less_sum : Scalar → Column → Scalar

-- a test of values
pub data Condition : Type 0 where
  is_missing : Scalar → Condition
  is_present : Scalar → Condition
  differs : Scalar → Scalar → Condition
  equals : Scalar → Scalar → Condition
  exceeds : Scalar → Scalar → Condition
  either : Condition → Condition → Condition
  both : Condition → Condition → Condition

-- what is selected: a column under its own name, or a value under a name or without one
pub data Item : Type 0 where
  own : Column → Item
  named : Scalar → ColumnName → Item
  unnamed : Scalar → Item

-- what stands after a source: nothing; which rows are taken; which rows are taken, and all of them are
-- one group; or by which columns they are grouped, and which groups are taken. Grouped by no column, all
-- rows are one group, also where there is no row
pub data Clause : Type 0 where
  each_row : Clause
  rows_where : Condition → Clause
  group_where : Condition → Clause
  groups_by : List Column → Option Condition → Clause

-- a stored table that is joined to what stands before it: by columns of these names, which both have; by such columns,
-- where a row before it that has no match there stays, and misses the other values; or each row with each
pub data Link : Type 0 where
  by_columns : List ℕ → List ColumnName → Link
  left_by_columns : List ℕ → List ColumnName → Link
  crosswise : List ℕ → Link

-- a query: a stored table, by its name as SQL has it; what is selected of a source under an alias,
-- each value once or not; the rows of two queries one after the other; those of the first that the second
-- has not, each once; columns of stored tables that are joined, by their names alone; all columns of a source
-- under an alias; one row of values
pub data Query : Type 0 where
  stored : List ℕ → Query
  select : Bool → List Item → Query → List ℕ → Clause → Query
  union_all : Query → Query → Query
  except : Query → Query → Query
  joined : List ColumnName → List ℕ → List Link → Query
  all_columns : Query → List ℕ → Query
  one_row : List Scalar → Query
