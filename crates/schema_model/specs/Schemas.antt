-- A schema: what it declares, and the same words of each part. For every contract in which the type `Schema`
-- stands.
use Rattle.std.specs.Prelude.{ℕ, Option, List, length, position}
use Rattle.attr_sets.specs.Attributes.{Attributes, below}
use Rattle.attr_sets.specs.Sets.{attributes}
use Rattle.attr_sets.specs.declared.set.AttrSet.{AttrSet}
use Rattle.dep_model.specs.declared.dep.Dep.{Dep}
use Rattle.dep_model.specs.Tuples.{Relation}
use Rattle.dep_model.specs.Dependencies.{Dependency}
use Rattle.dep_model.specs.Implication.{IsLegal, Implies}
use Rattle.dep_model.specs.Deps.{dependencies_of}
use Rattle.dep_model.specs.Theories.{Theory}
use Rattle.schema_model.specs.declared.column_type.ColumnType.{ColumnType}
use Rattle.schema_model.specs.declared.naming.Naming.{Naming}
use Rattle.schema_model.specs.Names.{same_name}
use Rattle.schema_model.specs.Validity.{IsSchema, AreDeclared, AreSetNumbers}

-- names with the types of their columns, the attributes of which a value may be missing, and dependencies with
-- their lines
pub record Schema : Type 0 where
  pub naming : Naming
  pub names : List (List ℕ)
  pub columns : List ColumnType
  pub nullable : AttrSet
  pub deps : List Dep
  pub lines : List ℕ
  pub valid : IsSchema names deps lines
  pub typed : AreDeclared naming names columns (attributes nullable)
  pub numbers : AreSetNumbers nullable deps

-- the names of the attributes, in the order of declaration
abbrev pub names_of : Schema → List (List ℕ)
names_of s = s.names

-- how many attributes there are
abbrev pub width_of : Schema → ℕ
width_of s = length (names_of s)

-- which names they are
abbrev pub naming_of : Schema → Naming
naming_of s = s.naming

-- the types of the columns
abbrev pub types_of : Schema → List ColumnType
types_of s = s.columns

-- the attributes of which a value may be missing
abbrev pub nullable_of : Schema → Attributes
nullable_of s = attributes s.nullable

-- the dependencies, in the order of the file
abbrev pub deps_of : Schema → List Dep
deps_of s = s.deps

-- the line of each dependency
abbrev pub lines_of : Schema → List ℕ
lines_of s = s.lines

-- all attributes
abbrev pub universe_of : Schema → Attributes
universe_of s = below (width_of s)

-- the dependencies, between sets of attributes
abbrev pub theory_of : Schema → List Dependency
theory_of s = dependencies_of (deps_of s)

-- how many attributes there are, with the dependencies among them
abbrev pub theory_in : Schema → Theory
theory_in s = record {
  width = width_of s;
  deps = deps_of s;
  valid = record {
    not_empty = s.valid.names_not_empty;
    within_limit = s.valid.names_within_limit;
    deps_within_limit = s.valid.deps_within_limit;
    deps_within = s.valid.deps_within;
  };
}

-- the attribute whose name is this, ASCII case aside
abbrev pub attribute_named : List (List ℕ) → List ℕ → Option ℕ
attribute_named names bytes = position (λ name. same_name name bytes) names

-- a relation is legal for a schema
abbrev pub LegalFor : Schema → Relation → Type 0
LegalFor s r = IsLegal (width_of s) (theory_of s) r

-- a schema implies a dependency
abbrev pub ImpliedBy : Schema → Dependency → Type 0
ImpliedBy s d = Implies (width_of s) (theory_of s) d
