-- The lines of keys, by the names of their columns as they are printed.
use Rattle.std.proofs.Common.{◌≡◌, ◌++◌, ℕ, List, [], ◌∷◌, map, flat_map, refl, sym, ap, ◌∙◌}
use Rattle.std.proofs.lemmas.List.Concat.{flat_map-cons}
use Rattle.attr_sets.specs.Attributes.{Attributes}
use Rattle.attr_sets.specs.Sets.{attributes}
use Rattle.attr_sets.specs.declared.set.AttrSet.{AttrSet}
use Rattle.dep_model.specs.Plans.{schemes_of}
use Rattle.schema_model.specs.Schemas.{names_of}
use Rattle.schema_model.specs.declared.naming.Naming.{Naming}
use Rattle.schema_model.specs.Schemas.{Schema}
use Rattle.headed_rows.specs.Headers.{naming_under}
use Rattle.schema_printer.specs.Printing.{set_text}
use Rattle.schema_printer.specs.Spelling.{spelling, printed_names_of}
use Rattle.desk_texts.specs.Texts.{line}
use Rattle.desk_discovery.specs.Discoveries.{HasTextColumns}
use Rattle.desk_discovery.specs.KeyDiscoveries.{row_keys_text}

flat_mapped : (f : Attributes → List ℕ) (keys : List AttrSet)
    → flat_map (λ key. f (attributes key)) keys ≡ flat_map f (schemes_of keys)
flat_mapped f [] = refl
flat_mapped f (key ∷ keys) =
    flat_map-cons (λ k. f (attributes k)) key keys ∙ ap (λ (t : List ℕ). f (attributes key) ++ t) (flat_mapped f keys)
    ∙ sym (flat_map-cons f (attributes key) (schemes_of keys))

pub names_printed : (names : List (List ℕ)) (s : Schema) → HasTextColumns names s
    → printed_names_of s ≡ map (spelling (naming_under names)) names
unfolding printed_names_of
names_printed names s has =
    ap (λ (naming : Naming). map (spelling naming) (names_of s)) has.naming
    ∙ ap (λ (ys : List (List ℕ)). map (spelling (naming_under names)) ys) has.names

pub keys_printed : (names : List (List ℕ)) (s : Schema) (keys : List AttrSet) → HasTextColumns names s
    → flat_map (λ key. line (set_text (printed_names_of s) (attributes key))) keys ≡ row_keys_text names (schemes_of keys)
keys_printed names s keys has =
    flat_mapped (λ x. line (set_text (printed_names_of s) x)) keys
    ∙ ap (λ (ys : List (List ℕ)). flat_map (λ x. line (set_text ys x)) (schemes_of keys)) (names_printed names s has)
