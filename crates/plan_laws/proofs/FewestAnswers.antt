-- `synthesize fewest` and its explanation have one answer each.
use Rattle.std.proofs.Common.{◌≡◌, ℕ, Bool, true, false, if◌then◌else◌, List, [], ◌++◌, length, drop, refl, sym, ap, ◌∙◌}
use Rattle.std.specs.Prelude.{codes, nat_lt}
use Rattle.std.specs.List.{flat_map}
use Rattle.std.proofs.lemmas.List.{length-map}
use Rattle.attr_sets.specs.Attributes.{Attributes}
use Rattle.attr_sets.specs.Sets.{attributes}
use Rattle.attr_sets.specs.declared.set.AttrSet.{AttrSet}
use Rattle.dep_model.specs.Dependencies.{Dependency}
use Rattle.dep_model.specs.Plans.{schemes_of}
use Rattle.schema_model.specs.Schemas.{Schema, nullable_of, theory_of, width_of}
use Rattle.plans.specs.Containing.{without_contained}
use Rattle.plan_printer.specs.Printing.{plan_text}
use Rattle.schema_printer.specs.Spelling.{printed_names_of}
use Rattle.fewest_tables.specs.MergedPlans.{left_out, smaller}
use Rattle.desk_responses.specs.ResponseValues.{text_only}
use Rattle.desk_responses.specs.declared.status.Status.TheVariants.{Yes}
use Rattle.desk_designs.specs.FewestReasons.{AreFewestReasons, ExplainsFewest, alike_text, fewer_text, following_text, merged_text, merging_text}
use Rattle.desk_designs.specs.FewestTables.{IsFewestTables, SynthesizesFewest}
use Rattle.desk_designs.specs.LeftOut.{left_out_text}
use Rattle.desk_designs.specs.SynthesisReasons.{added_text, cover_text, groups_text, key_text, synthesis_text}
use Rattle.desk_texts.specs.Texts.{line}
use Rattle.implication_laws.specs.OneAnswer.{AllowsOne}
use Rattle.implication_laws.proofs.OneReasons.{Explained-one}
use Rattle.plan_laws.proofs.OneGrouping.{one_merged_plan, one_merging}
use Rattle.plan_laws.proofs.ReasonAnswers.{left_out_same}
use Rattle.plan_laws.proofs.UniqueLaws.{grouped_same, kept_same, steps_same}

-- ---- the smaller of two plans rests on their sets alone
abbrev smaller_of : List Attributes → List Attributes → List Attributes
smaller_of first second = if nat_lt (length second) (length first) then second else first

chosen_is : (b : Bool) (first second : List AttrSet)
    → schemes_of (if b then second else first) ≡ (if b then schemes_of second else schemes_of first)
chosen_is true first second = refl
chosen_is false first second = refl

smaller_is : (first second : List AttrSet) → schemes_of (smaller first second) ≡ smaller_of (schemes_of first) (schemes_of second)
smaller_is first second =
    chosen_is (nat_lt (length second) (length first)) first second
    ∙ ap (λ (k : ℕ). if nat_lt k (length first) then schemes_of second else schemes_of first) (sym (length-map second attributes))
    ∙ ap (λ (k : ℕ). if nat_lt (length (schemes_of second)) k then schemes_of second else schemes_of first)
    (sym (length-map first attributes))

fewest_same : (s : Schema) (plan other : List AttrSet) → IsFewestTables s plan → IsFewestTables s other
    → schemes_of plan ≡ schemes_of other
fewest_same s plan other one two =
    let n = width_of s in
    let ds = theory_of s in
    let here = one.made in
    let there = two.made in
    ap schemes_of here.chosen
    ∙ smaller_is here.merged here.grouped
    ∙ ap (λ (xs : List Attributes). smaller_of xs (schemes_of here.grouped))
    (one_merged_plan n ds (nullable_of s) here.merged there.merged here.is_merged there.is_merged)
    ∙ ap (λ (xs : List Attributes). smaller_of (schemes_of there.merged) xs)
    (grouped_same n ds (nullable_of s) here.grouped there.grouped here.is_grouped there.is_grouped)
    ∙ sym (smaller_is there.merged there.grouped)
    ∙ sym (ap schemes_of there.chosen)

pub one_fewest : (s : Schema) → AllowsOne (SynthesizesFewest s)
one_fewest s one other (plan, is, says) (also, too, said) =
    says
    ∙ ap (λ (schemes : List Attributes). text_only Yes (plan_text (printed_names_of s) schemes)) (fewest_same s plan also is too)
    ∙ sym said

-- ---- `explain synthesize fewest`
kept_length : (all others : List AttrSet) → schemes_of all ≡ schemes_of others
    → length (without_contained all) ≡ length (without_contained others)
kept_length all others same =
    sym (length-map (without_contained all) attributes)
    ∙ ap (λ (xs : List Attributes). length xs)
    (kept_same all others (without_contained all) (without_contained others) refl refl same)
    ∙ length-map (without_contained others) attributes

module _ (names : List (List ℕ)) (cover : List Dependency) where
  synthesis_same : (all others : List AttrSet) → schemes_of all ≡ schemes_of others
      → synthesis_text names cover all ≡ synthesis_text names cover others
  synthesis_same all others same =
      ap (λ (t : List ℕ). cover_text names cover ++ groups_text names cover ++ t ++ added_text names cover (schemes_of all))
      (left_out_same names all others same)
      ∙ ap (λ (xs : List Attributes). cover_text names cover ++ groups_text names cover ++ left_out_text names others
      ++ added_text names cover xs) same

  fewer_same : (all others grouped also : List AttrSet) → schemes_of all ≡ schemes_of others
      → schemes_of grouped ≡ schemes_of also → fewer_text names cover all grouped ≡ fewer_text names cover others also
  fewer_same all others grouped also same too =
      let if_fewer : ℕ → ℕ → List ℕ → List ℕ = λ few many text.
      if nat_lt few many then line (codes "# synthesize has fewer") ++ text else [] in
      ap (λ (k : ℕ). if_fewer (length (without_contained grouped)) k (synthesis_text names cover grouped))
      (kept_length all others same)
      ∙ ap (λ (k : ℕ). if_fewer k (length (without_contained others)) (synthesis_text names cover grouped))
      (kept_length grouped also too)
      ∙ ap (λ (t : List ℕ). if_fewer (length (without_contained also)) (length (without_contained others)) t)
      (synthesis_same grouped also too)

  merging_same : (groups : List (List Attributes)) (kept : List Dependency) (all others : List AttrSet)
      → schemes_of all ≡ schemes_of others → merging_text names cover groups kept all ≡ merging_text names cover groups kept others
  merging_same groups kept all others same =
      let front : List ℕ = cover_text names cover ++ flat_map (alike_text names) groups
      ++ flat_map (following_text names) (left_out kept cover) ++ flat_map (merged_text names kept) groups in
      ap (λ (t : List ℕ). front ++ t ++ flat_map (key_text names) (drop (length groups) (schemes_of all)))
      (left_out_same names all others same)
      ∙ ap (λ (xs : List Attributes). front ++ left_out_text names others ++ flat_map (key_text names) (drop (length groups) xs)) same

one_fewest_text : (s : Schema) (text other : List ℕ) → AreFewestReasons s text → AreFewestReasons s other → text ≡ other
one_fewest_text s text other here there =
    let n = width_of s in
    let ds = theory_of s in
    let names = printed_names_of s in
    let same = one_merging n ds (nullable_of s) here.cover there.cover here.groups there.groups here.kept there.kept
    (schemes_of here.all) (schemes_of there.all) here.steps there.steps in
    let plain = steps_same n ds (nullable_of s) here.cover there.cover (schemes_of here.grouped) (schemes_of there.grouped)
    here.plain there.plain in
    here.reads
    ∙ ap (λ (cover : List Dependency). merging_text names cover here.groups here.kept here.all
    ++ fewer_text names cover here.all here.grouped) same.0
    ∙ ap (λ (groups : List (List Attributes)). merging_text names there.cover groups here.kept here.all
    ++ fewer_text names there.cover here.all here.grouped) same.1
    ∙ ap (λ (kept : List Dependency). merging_text names there.cover there.groups kept here.all
    ++ fewer_text names there.cover here.all here.grouped) same.2
    ∙ ap (λ (t : List ℕ). t ++ fewer_text names there.cover here.all here.grouped)
    (merging_same names there.cover there.groups there.kept here.all there.all same.3)
    ∙ ap (λ (t : List ℕ). merging_text names there.cover there.groups there.kept there.all ++ t)
    (fewer_same names there.cover here.all there.all here.grouped there.grouped same.3 plain.1)
    ∙ sym there.reads

pub one_explained_fewest : (s : Schema) → AllowsOne (ExplainsFewest s)
one_explained_fewest s =
    Explained-one (AreFewestReasons s) (SynthesizesFewest s) (λ one other. one_fewest s one other) (one_fewest_text s)
