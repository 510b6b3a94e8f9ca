-- One column more, of another name, leaves columns that can be those of a schema.
use Rattle.std.proofs.Common.{◌≡◌, ◌<◌, ◌+◌, ◌++◌, ◌∷◌, [], zero, suc, false, List, length, arith, length-append}
use Rattle.std.specs.Prelude.{All, IsTrue}
use Rattle.std.proofs.lemmas.List.Elements.{All-get_or, All-append}
use Rattle.std.proofs.lemmas.List.Quantifiers.{all_pairs_push}
use Rattle.attr_sets.specs.declared.set.TheConstants.{MOST_ATTRIBUTES}
use Rattle.schema_model.specs.Columns.{is_column_type}
use Rattle.schema_model.specs.Names.{IsName, same_name}
use Rattle.sql_definitions.specs.Facts.{AreColumns, StatedColumn}

one_column : (P : StatedColumn → Type 0) (column : StatedColumn) → P column → All P (column ∷ [])
one_column P column holds zero d below = holds
one_column P column holds (suc k) d below = absurd (omega (arith, below))

pub columns_with : (columns : List StatedColumn) (column : StatedColumn) → AreColumns columns → All (λ c. same_name c.name column.name ≡ false) columns
    → length columns < MOST_ATTRIBUTES → IsTrue (is_column_type column.kind) → IsName column.name → AreColumns (columns ++ column ∷ [])
columns_with columns column are another within kind name = record {
  within_limit = let size : length (columns ++ column ∷ []) ≡ length columns + 1 = simp length-append in omega (arith, size, within);
  names_differ = all_pairs_push (λ a b. same_name a.name b.name ≡ false) columns column are.names_differ
      (λ k d below. All-get_or (λ c. same_name c.name column.name ≡ false) columns k d below another);
  types = All-append (λ c. IsTrue (is_column_type c.kind)) columns (column ∷ []) are.types (one_column (λ c. IsTrue (is_column_type c.kind)) column kind);
  names = All-append (λ c. IsName c.name) columns (column ∷ []) are.names (one_column (λ c. IsName c.name) column name);
}
