-- The first scheme of a plan that does not pass a test.
use Rattle.std.proofs.Common.{◌≡◌, ◌<◌, ◌+◌, ℕ, List, [], ◌∷◌, ◌++◌, length, take, drop, get_or, sym, refl, ap, ◌∙◌}
use Rattle.std.proofs.lemmas.List.{take-append-drop, at_drop_more}
use Rattle.std.proofs.lemmas.List.Elements.{All-map}
use Rattle.std.specs.Prelude.{All}
use Rattle.attr_sets.specs.Attributes.{Attributes}
use Rattle.attr_sets.specs.Sets.{attributes}
use Rattle.attr_sets.specs.declared.set.AttrSet.{AttrSet}
use Rattle.dep_model.specs.Plans.{schemes_of}
use Rattle.desk_responses.specs.ResponseValues.{IsFirstFailing}

map_append : (xs ys : List AttrSet) → schemes_of (xs ++ ys) ≡ schemes_of xs ++ schemes_of ys
map_append [] ys = refl
map_append (x ∷ xs) ys = ap (λ (l : List Attributes). attributes x ∷ l) (map_append xs ys)

pub first_failing : (Passes : Attributes → Type 0) (schemes : List AttrSet) (i : ℕ) (d : AttrSet) → i < length schemes
    → All (λ scheme. Passes (attributes scheme)) (take i schemes)
    → IsFirstFailing Passes (schemes_of schemes) (attributes (get_or schemes i d))
first_failing Passes schemes i d low passed = record {
  earlier = schemes_of (take i schemes);
  later = schemes_of (drop (i + 1) schemes);
  list = ap schemes_of (sym (take-append-drop i schemes) ∙ at_drop_more (λ (l : List AttrSet). take i schemes ++ l) schemes i d low)
      ∙ map_append (take i schemes) (get_or schemes i d ∷ drop (i + 1) schemes);
  passed = All-map Passes attributes (take i schemes) passed;
}
