-- What the loop of `Interned::intern` keeps: `width` and `codes`.
use Rattle.std.proofs.Common.{◌≡◌, ◌<◌, ℕ, [], length, slice_index_or}
use Rattle.attr_sets.specs.Attributes.{only}
use Rattle.row_groups.specs.Numberings.{AreGroups}
use Rattle.row_groups.proofs.interning.Interned.intern.Given as goal

-- the columns so far are numbered
abbrev pub invariant-loop-attribute : goal.invariant-loop-attribute
invariant-loop-attribute l = record {
  width : length l.columns.items ≡ l.attribute;
  codes : (k : ℕ) → k < l.attribute → AreGroups l.rows (only k) (slice_index_or l.columns.items k []);
}
