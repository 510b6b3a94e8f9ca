-- What the loop of `may_be_referred_to` keeps: `none`.
use Rattle.std.proofs.Common.{◌≡◌, ◌<◌, ℕ, Some, map}
use Rattle.file_references.specs.Columns.{file_at, name_at}
use Rattle.file_references.specs.Finds.{MayRefer}
use Rattle.headed_rows.specs.Headings.{headed_of}
use Rattle.schema_model.specs.Schemas.{attribute_named}
use Rattle.file_references.proofs.promising.may_be_referred_to.Given as goal

-- no other file so far may refer to the column
abbrev pub invariant-loop-file : goal.invariant-loop-file
invariant-loop-file l = record {
  none : (file x : ℕ) → file < l.file → (file ≡ l.target → ⊥)
      → attribute_named (file_at (map headed_of l.files) file).names (name_at (file_at (map headed_of l.files) l.target).names l.column) ≡ Some x
      → MayRefer (file_at (map headed_of l.files) file).rows x (file_at (map headed_of l.files) l.target).rows l.column
      → ⊥;
}
