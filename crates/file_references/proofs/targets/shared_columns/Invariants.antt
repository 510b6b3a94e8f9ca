-- What the loop of `shared_columns` keeps: `within` and `shared`.
use Rattle.std.proofs.Common.{◌≡◌, ◌<◌, ℕ, true, Some, length, map}
use Rattle.attr_sets.specs.Attributes.{IsSubset, below}
use Rattle.attr_sets.specs.Sets.{attributes}
use Rattle.file_references.specs.Columns.{file_at, name_at}
use Rattle.headed_rows.specs.Headings.{headed_of}
use Rattle.schema_model.specs.Schemas.{attribute_named}
use Rattle.file_references.proofs.targets.shared_columns.Given as goal

-- the columns so far
abbrev pub invariant-loop-column : goal.invariant-loop-column
invariant-loop-column l = record {
  within : IsSubset (attributes l.shared) (below (length (file_at (map headed_of l.files) l.target).names));
  shared : (file k x : ℕ) → file < length l.files → (file ≡ l.target → ⊥) → k < l.column
      → attribute_named (file_at (map headed_of l.files) file).names (name_at (file_at (map headed_of l.files) l.target).names k) ≡ Some x
      → attributes l.shared k ≡ true;
}
