-- What the loop of `add_targets` keeps: `knows`.
use Rattle.std.proofs.Common.{◌+◌, ◌<◌, ℕ, List, [], map, take}
use Rattle.attr_sets.specs.Attributes.{Attributes}
use Rattle.file_references.specs.Finds.{AreLookedIn, AreReferences, KnowsTargets, reference_of}
use Rattle.file_references.specs.References.{Reference}
use Rattle.file_references.specs.declared.reference.TheConstants.{MOST_KEY_COLUMNS}
use Rattle.headed_rows.specs.Headings.{headed_of}
use Rattle.file_references.proofs.targets.add_targets.Given as goal

-- the sets so far were looked at
abbrev pub invariant-loop-set : goal.invariant-loop-set
invariant-loop-set l = record {
  knows : (shared : Attributes) (size : ℕ) (first : List Reference) → size < MOST_KEY_COLUMNS
      → AreLookedIn (map headed_of l.files) l.target shared (size + 1) l.sets
      → AreReferences (map headed_of l.files) first
      → KnowsTargets (map headed_of l.files) l.target shared size [] first l.fn.keys.items (map reference_of l.fn.found.items)
      → KnowsTargets (map headed_of l.files) l.target shared size (take l.set-index l.sets) first l.keys.items (map reference_of l.found.items);
}
