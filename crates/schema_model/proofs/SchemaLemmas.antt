-- A schema is what it declares: what is asked of its parts holds in one way at most.
use Rattle.std.proofs.Common.{◌≡◌, ℕ, List}
use mathlib.Core.HLevel.{Σ_prop_path}
use denote.Struct.Props.{props}
use Rattle.attr_sets.specs.Sets.{attributes}
use Rattle.attr_sets.specs.declared.set.AttrSet.{AttrSet}
use Rattle.attr_sets.proofs.AttributesLemmas.{same_set}
use Rattle.dep_model.specs.declared.dep.Dep.{Dep}
use Rattle.schema_model.proofs.SameDeps.{same_deps}
use Rattle.schema_model.specs.declared.column_type.ColumnType.{ColumnType}
use Rattle.schema_model.specs.declared.naming.Naming.{Naming}
use Rattle.schema_model.specs.Schemas.{Schema, names_of, naming_of, types_of, nullable_of, theory_of, lines_of}
use Rattle.schema_model.specs.Validity.{IsSchema, AreDeclared, AreSetNumbers}

-- what stands in a schema, beside the facts of it
record Parts : Type 0 where
  naming : Naming
  names : List (List ℕ)
  columns : List ColumnType
  nullable : AttrSet
  deps : List Dep
  lines : List ℕ

abbrev Facts : Parts → Type 0
Facts p = IsSchema p.names p.deps p.lines × AreDeclared p.naming p.names p.columns (attributes p.nullable)
    × AreSetNumbers p.nullable p.deps

Facts-prop : (p : Parts) → IsProp (Facts p)
Facts-prop p = hlevel props

abbrev parts_of : Schema → Parts
parts_of s = record {
  naming = s.naming;
  names = s.names;
  columns = s.columns;
  nullable = s.nullable;
  deps = s.deps;
  lines = s.lines;
}

same_parts : (s t : Schema) → parts_of s ≡ parts_of t → s ≡ t
same_parts s t same =
    let pairs : ◌≡◌ {A = (p : Parts) × Facts p} (parts_of s, (s.valid, s.typed, s.numbers)) (parts_of t, (t.valid, t.typed, t.numbers)) =
    Σ_prop_path Facts-prop same in
    λ i. record {
      naming = (pairs i).0.naming;
      names = (pairs i).0.names;
      columns = (pairs i).0.columns;
      nullable = (pairs i).0.nullable;
      deps = (pairs i).0.deps;
      lines = (pairs i).0.lines;
      valid = (pairs i).1.0;
      typed = (pairs i).1.1;
      numbers = (pairs i).1.2;
    }

-- two schemas that declare the same are one
pub same_schema : (s t : Schema) → naming_of s ≡ naming_of t → names_of s ≡ names_of t
    → types_of s ≡ types_of t → nullable_of s ≡ nullable_of t → theory_of s ≡ theory_of t → lines_of s ≡ lines_of t → s ≡ t
same_schema s t naming names columns nullable theory lines =
    let nullable_set = same_set s.nullable t.nullable s.numbers.of_nullable t.numbers.of_nullable nullable in
    let deps = same_deps s.deps t.deps s.numbers.of_deps t.numbers.of_deps theory in
    same_parts s t (λ i. record {
      naming = naming i;
      names = names i;
      columns = columns i;
      nullable = nullable_set i;
      deps = deps i;
      lines = lines i;
    })
