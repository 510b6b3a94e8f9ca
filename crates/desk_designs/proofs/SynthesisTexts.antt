-- The text of the reasons of a synthesis, from the lists of the code.
use Rattle.std.proofs.Common.{◌≡◌, ◌∙◌, List, ℕ, [], ◌++◌, length, drop, sym, ap}
use Rattle.std.proofs.lemmas.List.{length-map}
use Rattle.std.specs.List.{flat_map}
use Rattle.attr_sets.specs.Attributes.{Attributes}
use Rattle.attr_sets.specs.Sets.{attributes}
use Rattle.attr_sets.specs.declared.set.AttrSet.{AttrSet}
use Rattle.dep_model.specs.declared.dep.Dep.{Dep}
use Rattle.dep_model.specs.Deps.{dependencies_of}
use Rattle.dep_model.specs.Plans.{schemes_of}
use Rattle.synthesis_3nf.specs.Groups.{left_sides_after}
use Rattle.desk_designs.specs.LeftOut.{left_out_text}
use Rattle.desk_designs.specs.SynthesisReasons.{cover_text, group_text, key_text, synthesis_text}

-- the text of lists of the code
abbrev pub text_of : List (List ℕ) → List Dep → List AttrSet → List AttrSet → List ℕ
text_of names cover lefts all =
    cover_text names (dependencies_of cover) ++ flat_map (group_text names (dependencies_of cover)) (schemes_of lefts)
    ++ left_out_text names all ++ flat_map (key_text names) (drop (length lefts) (schemes_of all))

pub text_is : (names : List (List ℕ)) (cover : List Dep) (lefts all : List AttrSet) → schemes_of lefts ≡ left_sides_after [] (dependencies_of cover)
    → text_of names cover lefts all ≡ synthesis_text names (dependencies_of cover) all
text_is names cover lefts all are =
    let ds = dependencies_of cover in
    let whole : List Attributes → ℕ → List ℕ = λ xs m.
    cover_text names ds ++ flat_map (group_text names ds) xs ++ left_out_text names all ++ flat_map (key_text names) (drop m (schemes_of all)) in
    ap (whole (schemes_of lefts)) (sym (length-map lefts attributes) ∙ ap (λ (xs : List Attributes). length xs) are)
    ∙ ap (λ (xs : List Attributes). whole xs (length (left_sides_after [] ds))) are
