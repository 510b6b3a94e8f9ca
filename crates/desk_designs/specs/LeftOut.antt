-- The schemes of a list that are left out since others hold them, as text: for `explain synthesize` and
-- `explain split`.
use Rattle.std.specs.Prelude.{ℕ, if◌then◌else◌, List, [], ◌∷◌, ◌++◌, codes}
use Rattle.std.specs.List.{flat_map}
use Rattle.attr_sets.specs.Sets.{attributes}
use Rattle.attr_sets.specs.declared.set.AttrSet.{AttrSet}
use Rattle.plans.specs.Containing.{is_contained, lies_within, without_contained}
use Rattle.schema_printer.specs.Printing.{set_text}
use Rattle.desk_texts.specs.Texts.{line}

-- those that are contained, of the schemes of a list that stand after these
abbrev pub contained_after : List AttrSet → List AttrSet → List AttrSet
contained_after earlier [] = []
contained_after earlier (x ∷ later) =
    if is_contained earlier x later then x ∷ contained_after (earlier ++ x ∷ []) later
    else contained_after (earlier ++ x ∷ []) later

-- the first of these that holds a scheme, as the end of a line
abbrev pub holder_text : List (List ℕ) → AttrSet → List AttrSet → List ℕ
holder_text names x [] = []
holder_text names x (y ∷ later) =
    if lies_within x y then set_text names (attributes y) else holder_text names x later

-- a scheme lies within the first of these that holds it
abbrev pub within_text : List (List ℕ) → List AttrSet → AttrSet → List ℕ
within_text names kept x =
    line (codes "# scheme " ++ set_text names (attributes x) ++ codes " lies within scheme "
    ++ holder_text names x kept)

-- a line for each scheme of a list that is left out, with the first of those kept that holds it
abbrev pub left_out_text : List (List ℕ) → List AttrSet → List ℕ
left_out_text names all = flat_map (within_text names (without_contained all)) (contained_after [] all)
