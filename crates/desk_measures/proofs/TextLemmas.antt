-- What a schema declares is a schema also with text columns alone.
use Rattle.std.proofs.Common.{◌≡◌, ℕ, List, refl, sym, ap, subst, ◌∙◌}
use Rattle.std.specs.Prelude.{IsTrue, replicate}
use Rattle.std.proofs.lemmas.List.{length-replicate}
use Rattle.std.proofs.lemmas.List.Elements.{All-replicate}
use Rattle.attr_sets.specs.Attributes.{Attributes}
use Rattle.schema_model.proofs.ColumnLemmas.{AreDeclared-text}
use Rattle.schema_model.specs.Columns.{is_column_type}
use Rattle.schema_model.specs.Schemas.{deps_of, lines_of, names_of, naming_of, nullable_of, width_of}
use Rattle.schema_model.specs.Validity.{AreDeclared, IsSchema}
use Rattle.schema_model.specs.declared.column_type.ColumnType.{ColumnType}
use Rattle.schema_model.specs.declared.column_type.ColumnType.TheVariants.{Text}
use Rattle.dep_model.specs.declared.dep.Dep.{Dep}
use Rattle.schema_model.specs.declared.naming.Naming.{Naming}
use Rattle.schema_model.specs.Schemas.{Schema}

module _ (s : Schema) where
  texts_declared : AreDeclared (naming_of s) (names_of s) (replicate (width_of s) Text) (nullable_of s)
  texts_declared = record {
    one_each = length-replicate (width_of s) Text;
    each = All-replicate (λ column. IsTrue (is_column_type column)) (width_of s) Text refl;
    nullable_within = s.typed.nullable_within;
    bare = λ is_bare.
        let own = s.typed.bare is_bare in
        (AreDeclared-text (names_of s) (nullable_of s) own.each_bare own.none_nullable).bare refl;
  }

  pub texts_are_declared : (naming : Naming) (names : List (List ℕ)) (columns : List ColumnType) (nullable : Attributes) (n : ℕ)
      → naming ≡ naming_of s → names ≡ names_of s → columns ≡ replicate n Text → n ≡ width_of s
      → nullable ≡ nullable_of s → AreDeclared naming names columns nullable
  texts_are_declared naming names columns nullable n naming_is names_are texts wide missing =
      subst (λ (m : Naming). AreDeclared m names columns nullable) (sym naming_is)
      (subst (λ (ys : List (List ℕ)). AreDeclared (naming_of s) ys columns nullable) (sym names_are)
      (subst (λ (ys : List ColumnType). AreDeclared (naming_of s) (names_of s) ys nullable)
      (sym (texts ∙ ap (λ (m : ℕ). replicate m Text) wide))
      (subst (λ (y : Attributes). AreDeclared (naming_of s) (names_of s) (replicate (width_of s) Text) y) (sym missing)
      texts_declared)))

  pub texts_are_schema : (names : List (List ℕ)) (deps : List Dep) (lines : List ℕ) → names ≡ names_of s
      → deps ≡ deps_of s → lines ≡ lines_of s → IsSchema names deps lines
  texts_are_schema names deps lines names_are deps_are lines_are =
      subst (λ (ys : List (List ℕ)). IsSchema ys deps lines) (sym names_are)
      (subst (λ (ds : List Dep). IsSchema (names_of s) ds lines) (sym deps_are)
      (subst (λ (ls : List ℕ). IsSchema (names_of s) (deps_of s) ls) (sym lines_are) s.valid))
