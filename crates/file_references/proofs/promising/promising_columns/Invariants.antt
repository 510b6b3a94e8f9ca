-- What the loop of `promising_columns` keeps: `within` and `promising`.
use Rattle.std.proofs.Common.{◌≡◌, ◌<◌, ℕ, true, Some, length, map}
use Rattle.attr_sets.specs.Attributes.{IsSubset}
use Rattle.attr_sets.specs.Sets.{attributes}
use Rattle.file_references.specs.Columns.{file_at, name_at}
use Rattle.file_references.specs.Finds.{MayRefer}
use Rattle.headed_rows.specs.Headings.{headed_of}
use Rattle.schema_model.specs.Schemas.{attribute_named}
use Rattle.file_references.proofs.promising.promising_columns.Given as goal

-- what was left out is never referred to
abbrev pub invariant-loop-column : goal.invariant-loop-column
invariant-loop-column l = record {
  within : IsSubset (attributes l.promising) (attributes l.fn.shared);
  promising : (file k x : ℕ) → file < length l.files → (file ≡ l.target → ⊥) → attributes l.fn.shared k ≡ true
      → attribute_named (file_at (map headed_of l.files) file).names (name_at (file_at (map headed_of l.files) l.target).names k) ≡ Some x
      → MayRefer (file_at (map headed_of l.files) file).rows x (file_at (map headed_of l.files) l.target).rows k
      → attributes l.promising k ≡ true;
}
