-- A list of schemes without those that lie within others: for `drop_contained` and the plans of
-- synthesis_3nf, split_forms and wide_bcnf.
use Rattle.std.specs.Prelude.{Bool, ◌&&◌, ◌||◌, not, if◌then◌else◌, List, [], ◌∷◌, ◌++◌}
use Rattle.std.specs.List.{list_any}
use Rattle.attr_sets.specs.declared.set.AttrSet.{AttrSet}
use Rattle.attr_sets.specs.Sets.{attributes, is_subset}

-- whether x lies within y
abbrev pub lies_within : AttrSet → AttrSet → Bool
lies_within x y = is_subset (attributes x) (attributes y)

-- whether x lies within y, which has more
abbrev pub lies_properly_within : AttrSet → AttrSet → Bool
lies_properly_within x y = lies_within x y && not (lies_within y x)

-- whether a scheme with these before it and those after it lies within another different one, or equals
-- an earlier one
abbrev pub is_contained : List AttrSet → AttrSet → List AttrSet → Bool
is_contained earlier x later = list_any (lies_within x) earlier || list_any (lies_properly_within x) later

-- those that are not contained, of the schemes of a list that stand after these
abbrev pub without_contained_after : List AttrSet → List AttrSet → List AttrSet
without_contained_after earlier [] = []
without_contained_after earlier (x ∷ later) =
    if is_contained earlier x later then without_contained_after (earlier ++ x ∷ []) later
    else x ∷ without_contained_after (earlier ++ x ∷ []) later

-- the schemes of a list, in order, without each that lies within another different one or equals an
-- earlier one
abbrev pub without_contained : List AttrSet → List AttrSet
without_contained schemes = without_contained_after [] schemes
