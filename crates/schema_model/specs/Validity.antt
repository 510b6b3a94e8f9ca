-- What makes names, dependencies and types of columns a schema: for the type `Schema`, its makers
-- and the laws of printed schemas.
use Rattle.std.specs.Prelude.{◌≡◌, ℕ, ◌<◌, ◌≤◌, ◌^◌, false, IsTrue, List, length, All, AllPairs, Contains}
use Rattle.attr_sets.specs.Attributes.{Attributes, below, IsSubset, IsEmpty}
use Rattle.attr_sets.specs.declared.set.AttrSet.{AttrSet}
use Rattle.attr_sets.specs.declared.set.TheConstants.{MOST_ATTRIBUTES}
use Rattle.dep_model.specs.declared.dep.Dep.{Dep}
use Rattle.dep_model.specs.declared.dep.Dep.TheVariants.{Fd, Mvd}
use Rattle.schema_model.specs.declared.column_type.ColumnType.{ColumnType}
use Rattle.schema_model.specs.declared.column_type.ColumnType.TheVariants.{Integer}
use Rattle.schema_model.specs.declared.naming.Naming.{Naming}
use Rattle.schema_model.specs.declared.naming.Naming.TheVariants.{Bare}
use Rattle.dep_model.specs.declared.theory.TheConstants.{MOST_DEPENDENCIES}
use Rattle.schema_model.specs.Names.{is_bare_name, same_name, is_type_name}
use Rattle.schema_model.specs.Columns.{is_column_type, is_plain_type}
use Rattle.dep_model.specs.Deps.{IsDepWithin}

-- names, dependencies and their lines form a schema
pub record IsSchema (names : List (List ℕ)) (deps : List Dep) (lines : List ℕ) : Type 0 where
  pub names_not_empty : 0 < length names
  pub names_within_limit : length names ≤ MOST_ATTRIBUTES
  pub names_differ : AllPairs (λ a b. same_name a b ≡ false) names
  pub deps_within_limit : length deps ≤ MOST_DEPENDENCIES
  pub deps_within : All (IsDepWithin (below (length names))) deps
  pub one_line_each : length lines ≡ length deps

-- types fit bare names: one each, text and integer alone, and beside an integer column no name is the
-- name of a type
pub record AreColumns (names : List (List ℕ)) (columns : List ColumnType) : Type 0 where
  pub one_each : length columns ≡ length names
  pub plain : All (λ column. IsTrue (is_plain_type column)) columns
  pub no_type_name : Contains columns Integer → All (λ name. is_type_name name ≡ false) names

-- what bare naming asks: bare names, types that fit them, and no value that may be missing
pub record AreBare (names : List (List ℕ)) (columns : List ColumnType) (nullable : Attributes) : Type 0 where
  pub each_bare : All (λ name. IsTrue (is_bare_name name)) names
  pub are_columns : AreColumns names columns
  pub none_nullable : IsEmpty nullable

-- the columns of a schema: one for each name, and the nullable ones among them
pub record AreDeclared (naming : Naming) (names : List (List ℕ)) (columns : List ColumnType)
    (nullable : Attributes) : Type 0 where
  pub one_each : length columns ≡ length names
  pub each : All (λ column. IsTrue (is_column_type column)) columns
  pub nullable_within : IsSubset nullable (below (length names))
  pub bare : naming ≡ Bare → AreBare names columns nullable

-- a set is a number of as many bits as there may be attributes, so that sets with the same members are one number
abbrev pub IsSetNumber : AttrSet → Type 0
IsSetNumber x = x.0 < 2 ^ MOST_ATTRIBUTES

-- the two sets of a dependency
abbrev pub sides_of : Dep → AttrSet × AttrSet
sides_of (Fd lhs rhs) = (lhs, rhs)
sides_of (Mvd lhs rhs) = (lhs, rhs)

-- both are such numbers
abbrev pub HasSetNumbers : Dep → Type 0
HasSetNumbers d = IsSetNumber (sides_of d).0 × IsSetNumber (sides_of d).1

-- the sets of a schema are such numbers
pub record AreSetNumbers (nullable : AttrSet) (deps : List Dep) : Type 0 where
  pub of_nullable : IsSetNumber nullable
  pub of_deps : All HasSetNumbers deps
