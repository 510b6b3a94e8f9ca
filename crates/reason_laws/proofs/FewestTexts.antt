-- The lines of the reasons of `explain synthesize fewest`, and of the plan below them.
use Rattle.std.proofs.Common.{◌≡◌, ℕ, true, false, List, [], ◌∷◌, ◌++◌, refl, sym, subst, inl, inr, drop, length}
use Rattle.std.specs.Prelude.{All, codes, nat_lt}
use Rattle.std.specs.List.{flat_map}
use Rattle.std.proofs.lemmas.Bool.{cases_Bool}
use Rattle.attr_sets.specs.Attributes.{Attributes}
use Rattle.attr_sets.specs.declared.set.AttrSet.{AttrSet}
use Rattle.dep_model.specs.Dependencies.{Dependency}
use Rattle.dep_model.specs.Plans.{schemes_of}
use Rattle.schema_model.specs.Names.{IsName}
use Rattle.schema_model.specs.Schemas.{Schema, names_of}
use Rattle.schema_model.proofs.PlainLemmas.{IsPlain, plain_both}
use Rattle.plans.specs.Containing.{without_contained}
use Rattle.plan_printer.specs.Printing.{plan_text}
use Rattle.schema_printer.specs.Printing.{dependency_text, set_text}
use Rattle.schema_printer.specs.Spelling.{printed_names_of}
use Rattle.fewest_tables.specs.MergedPlans.{left_out, merged_scheme}
use Rattle.desk_designs.specs.FewestReasons.{AreFewestReasons, ExplainsFewest, alike_text, fewer_text, following_text, joined_sets, merged_text, merging_text, next_set}
use Rattle.desk_designs.specs.FewestTables.{SynthesizesFewest}
use Rattle.desk_designs.specs.LeftOut.{left_out_text}
use Rattle.desk_designs.specs.SynthesisReasons.{cover_text, key_text, member_text, synthesis_text}
use Rattle.desk_responses.specs.ResponseValues.{ResponseValue}
use Rattle.desk_responses.specs.declared.status.Status.TheVariants.{Yes}
use Rattle.desk_texts.specs.Texts.{line}
use Rattle.reason_laws.specs.ReasonLines.{LeavesAnswer, is_reason}
use Rattle.reason_laws.proofs.LineLemmas.{AreLines, both_lines, each_lines, leaves_answer, no_lines, one_line}
use Rattle.reason_laws.proofs.NameTexts.{IsPrinted, dependency_plain, set_plain}
use Rattle.reason_laws.proofs.ReasonTexts.{key_told, left_out_told, member_told, plan_own, printed, synthesis_told, text_is, word_set}

module _ (names : List (List ℕ)) (all : All IsPrinted names) where
  -- ---- what is alike
  more_plain : (sets : List Attributes) → IsPlain (flat_map (next_set names) sets)
  more_plain [] = refl
  more_plain (x ∷ sets) =
      plain_both (next_set names x) (flat_map (next_set names) sets) (word_set names all (codes " and ") x refl) (more_plain sets)

  joined_plain : (sets : List Attributes) → IsPlain (joined_sets names sets)
  joined_plain [] = refl
  joined_plain (x ∷ sets) =
      plain_both (set_text names x) (flat_map (next_set names) sets) (set_plain names x all) (more_plain sets)

  alike_lines : (group : List Attributes) → AreLines true (alike_text names group)
  alike_lines group = elim (cases_Bool (nat_lt 1 (length group))) [
    | inl several ↦ rw several
        (one_line true (codes "# alike: " ++ joined_sets names group)
        (plain_both (codes "# alike: ") (joined_sets names group) refl (joined_plain group)) refl)
    | inr one ↦ rw one (no_lines true)
  ]

  following_lines : (d : Dependency) → AreLines true (following_text names d)
  following_lines d =
      let front = codes "# cover: " ++ dependency_text names d in
      let word = codes " follows from the others and from what is alike" in
      one_line true (front ++ word)
      (plain_both front word (plain_both (codes "# cover: ") (dependency_text names d) refl (dependency_plain names d all)) refl) refl

  -- ---- the schemes
  -- a line of a group after such a word
  group_line : (word : List ℕ) (kept : List Dependency) (group : List Attributes) → IsPlain word
      → is_reason (word ++ joined_sets names group ++ codes ": scheme " ++ set_text names (merged_scheme kept group)) ≡ true
      → AreLines true (line (word ++ joined_sets names group ++ codes ": scheme " ++ set_text names (merged_scheme kept group)))
  group_line word kept group plain is =
      let left = word ++ joined_sets names group in
      let front = left ++ codes ": scheme " in
      let scheme = set_text names (merged_scheme kept group) in
      one_line true (front ++ scheme)
      (plain_both front scheme
      (plain_both left (codes ": scheme ") (plain_both word (joined_sets names group) plain (joined_plain group)) refl)
      (set_plain names (merged_scheme kept group) all)) is

  merged_lines : (kept : List Dependency) (group : List Attributes) → AreLines true (merged_text names kept group)
  merged_lines kept group = elim (cases_Bool (nat_lt 1 (length group))) [
    | inl several ↦ rw several (group_line (codes "# left sides ") kept group refl refl)
    | inr one ↦ rw one (group_line (codes "# left side ") kept group refl refl)
  ]

  -- ---- the steps
  merging_lines : (cover : List Dependency) (groups : List (List Attributes)) (kept : List Dependency) (schemes : List AttrSet)
      → AreLines true (merging_text names cover groups kept schemes)
  merging_lines cover groups kept schemes =
      let a = cover_text names cover in
      let b = flat_map (alike_text names) groups in
      let d = flat_map (following_text names) (left_out kept cover) in
      let e = flat_map (merged_text names kept) groups in
      let f = left_out_text names schemes in
      let left = drop (length groups) (schemes_of schemes) in
      let two = both_lines true a b (each_lines true (member_text names) (member_told names all) cover)
      (each_lines true (alike_text names) alike_lines groups) in
      let three = both_lines true (a ++ b) d two (each_lines true (following_text names) following_lines (left_out kept cover)) in
      let four = both_lines true (a ++ b ++ d) e three (each_lines true (merged_text names kept) (merged_lines kept) groups) in
      let five = both_lines true (a ++ b ++ d ++ e) f four (left_out_told names all schemes) in
      both_lines true (a ++ b ++ d ++ e ++ f) (flat_map (key_text names) left) five
      (each_lines true (key_text names) (key_told names all) left)

  fewer_lines : (cover : List Dependency) (schemes grouped : List AttrSet) → AreLines true (fewer_text names cover schemes grouped)
  fewer_lines cover schemes grouped =
      elim (cases_Bool (nat_lt (length (without_contained grouped)) (length (without_contained schemes)))) [
        | inl fewer ↦ rw fewer
            (both_lines true (line (codes "# synthesize has fewer")) (synthesis_text names cover grouped)
            (one_line true (codes "# synthesize has fewer") refl refl) (synthesis_told names all cover grouped))
        | inr other ↦ rw other (no_lines true)
      ]

-- ---- the explanation
module _ (s : Schema) (are_names : All IsName (names_of s)) where
  fewest_reasons : (text : List ℕ) → AreFewestReasons s text → AreLines true text
  fewest_reasons text are =
      let names = printed_names_of s in
      let each = printed s are_names in
      subst (λ (t : List ℕ). AreLines true t) (sym are.reads)
      (both_lines true (merging_text names are.cover are.groups are.kept are.all) (fewer_text names are.cover are.all are.grouped)
      (merging_lines names each are.cover are.groups are.kept are.all) (fewer_lines names each are.cover are.all are.grouped))

  fewest_plain : (plain : ResponseValue) → SynthesizesFewest s plain → plain.status ≡ Yes → AreLines false plain.text
  fewest_plain plain (plan, is, says) agrees =
      text_is s are_names (plan_text (printed_names_of s) (schemes_of plan)) plain says
      (plan_own (printed_names_of s) (printed s are_names) (schemes_of plan))

  pub fewest_leaves : (response : ResponseValue) → ExplainsFewest s response → LeavesAnswer (SynthesizesFewest s) response
  fewest_leaves = leaves_answer (AreFewestReasons s) (SynthesizesFewest s) fewest_reasons fewest_plain
