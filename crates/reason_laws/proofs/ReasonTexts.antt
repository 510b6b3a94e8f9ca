-- The lines of the reasons that explanations tell, and of what the commands print below them.
use Rattle.std.proofs.Common.{◌≡◌, ℕ, true, false, List, [], ◌∷◌, ◌++◌, refl, sym, ap, subst, ◌∙◌, append-nil, inl, inr, drop, length}
use Rattle.std.specs.Prelude.{All, codes}
use Rattle.std.specs.List.{flat_map}
use Rattle.std.proofs.lemmas.Bool.{cases_Bool}
use Rattle.attr_sets.specs.Attributes.{Attributes, difference, union}
use Rattle.attr_sets.specs.Sets.{attributes}
use Rattle.attr_sets.specs.declared.set.AttrSet.{AttrSet}
use Rattle.dep_model.specs.Dependencies.{Dependency}
use Rattle.schema_model.specs.Names.{IsName}
use Rattle.dep_model.specs.Plans.{schemes_of}
use Rattle.schema_model.specs.Schemas.{names_of}
use Rattle.schema_model.specs.Schemas.{Schema}
use Rattle.schema_model.proofs.PlainLemmas.{IsPlain, plain_both}
use Rattle.dep_model.specs.declared.form.Form.{Form}
use Rattle.dep_model.specs.declared.form.Form.TheVariants.{Third, Bcnf, Fourth}
use Rattle.plans.specs.Containing.{lies_within, without_contained}
use Rattle.plan_printer.specs.Printing.{plan_text, scheme_text}
use Rattle.schema_printer.specs.Printing.{dependency_text, members_from, set_text, words_text}
use Rattle.schema_printer.specs.Spelling.{printed_names_of}
use Rattle.split_forms.specs.Steps.{Cutting}
use Rattle.synthesis_3nf.specs.Groups.{group_scheme, left_sides_after}
use Rattle.desk_designs.specs.Decompositions.{SplitStops, Splits}
use Rattle.desk_designs.specs.NormalForms.{form_word, violation_of}
use Rattle.desk_designs.specs.Synthesis.{Synthesizes}
use Rattle.desk_keys.specs.KeyReasons.{AreKeyReasons, ExplainsKeys}
use Rattle.desk_keys.specs.Keys.{ListsKeys, sets_text}
use Rattle.desk_designs.specs.LeftOut.{contained_after, holder_text, left_out_text, within_text}
use Rattle.desk_designs.specs.SplitReasons.{AreSplitReasons, ExplainsSplit, breach_text, cut_text, parts_text}
use Rattle.desk_designs.specs.SynthesisReasons.{AreSynthesisReasons, ExplainsSynthesis, added_text, cover_text, group_text, groups_text, key_text, member_text}
use Rattle.desk_responses.specs.ResponseValues.{ResponseValue, Says}
use Rattle.desk_responses.specs.declared.status.Status.TheVariants.{Yes}
use Rattle.desk_texts.specs.Texts.{line, set_line}
use Rattle.desk_designs.proofs.StatusLemmas.{refused_not_yes}
use Rattle.reason_laws.specs.ReasonLines.{LeavesAnswer, is_reason}
use Rattle.reason_laws.proofs.LineLemmas.{AreLines, both_lines, each_lines, leaves_answer, no_lines, one_line}
use Rattle.reason_laws.proofs.NameTexts.{IsPrinted, dependency_plain, names_printed, scheme_plain, set_own, set_plain}

module _ (names : List (List ℕ)) (all : All IsPrinted names) where
  -- a word and a set
  pub word_set : (word : List ℕ) (x : Attributes) → IsPlain word → IsPlain (word ++ set_text names x)
  word_set word x plain = plain_both word (set_text names x) plain (set_plain names x all)

  -- ---- what is left out
  holder_plain : (x : AttrSet) (kept : List AttrSet) → IsPlain (holder_text names x kept)
  holder_plain x [] = refl
  holder_plain x (y ∷ kept) = elim (cases_Bool (lies_within x y)) [
    | inl within ↦ rw within (set_plain names (attributes y) all)
    | inr other ↦ rw other (holder_plain x kept)
  ]

  within_told : (kept : List AttrSet) (x : AttrSet) → AreLines true (within_text names kept x)
  within_told kept x =
      let scheme = codes "# scheme " ++ set_text names (attributes x) in
      let front = scheme ++ codes " lies within scheme " in
      let holder = holder_text names x kept in
      one_line true (front ++ holder)
      (plain_both front holder (plain_both scheme (codes " lies within scheme ") (word_set (codes "# scheme ") (attributes x) refl) refl) (holder_plain x kept)) refl

  pub left_out_told : (schemes : List AttrSet) → AreLines true (left_out_text names schemes)
  left_out_told schemes =
      each_lines true (within_text names (without_contained schemes)) (within_told (without_contained schemes)) (contained_after [] schemes)

  -- ---- a synthesis
  pub member_told : (d : Dependency) → AreLines true (member_text names d)
  member_told d =
      one_line true (codes "# cover: " ++ dependency_text names d) (plain_both (codes "# cover: ") (dependency_text names d) refl (dependency_plain names d all)) refl

  group_told : (cover : List Dependency) (x : Attributes) → AreLines true (group_text names cover x)
  group_told cover x =
      let left = codes "# left side " ++ set_text names x in
      let front = left ++ codes ": scheme " in
      let scheme = set_text names (group_scheme cover x) in
      one_line true (front ++ scheme)
      (plain_both front scheme (plain_both left (codes ": scheme ") (word_set (codes "# left side ") x refl) refl) (set_plain names (group_scheme cover x) all)) refl

  pub key_told : (x : Attributes) → AreLines true (key_text names x)
  key_told x =
      one_line true (codes "# no scheme holds a key: scheme " ++ set_text names x) (word_set (codes "# no scheme holds a key: scheme ") x refl) refl

  pub synthesis_told : (cover : List Dependency) (schemes : List AttrSet)
      → AreLines true (cover_text names cover ++ groups_text names cover ++ left_out_text names schemes ++ added_text names cover (schemes_of schemes))
  synthesis_told cover schemes =
      let lefts = left_sides_after [] cover in
      let two = cover_text names cover ++ groups_text names cover in
      let first = both_lines true (cover_text names cover) (groups_text names cover) (each_lines true (member_text names) member_told cover)
      (each_lines true (group_text names cover) (group_told cover) lefts) in
      let second = both_lines true two (left_out_text names schemes) first (left_out_told schemes) in
      both_lines true (two ++ left_out_text names schemes) (added_text names cover (schemes_of schemes)) second
      (each_lines true (key_text names) key_told (drop (length lefts) (schemes_of schemes)))

  -- ---- a split
  word_plain : (form : Form) → IsPlain (form_word form)
  word_plain Third = refl
  word_plain Bcnf = refl
  word_plain Fourth = refl

  breach_told : (form : Form) (cut : Cutting) → AreLines true (breach_text names form cut)
  breach_told form cut =
      let d = violation_of form cut.x cut.y in
      let scheme = codes "# scheme " ++ set_text names cut.scheme in
      let front = scheme ++ codes ": " in
      let violation = front ++ dependency_text names d in
      let violates = violation ++ codes " violates " in
      one_line true (violates ++ form_word form)
      (plain_both violates (form_word form)
      (plain_both violation (codes " violates ")
      (plain_both front (dependency_text names d) (plain_both scheme (codes ": ") (word_set (codes "# scheme ") cut.scheme refl) refl) (dependency_plain names d all))
      refl)
      (word_plain form)) refl

  parts_told : (cut : Cutting) → AreLines true (parts_text names cut)
  parts_told cut =
      let both = codes "# so scheme " ++ set_text names (union cut.x cut.y) in
      let front = both ++ codes " and scheme " in
      let rest = set_text names (difference cut.scheme cut.y) in
      one_line true (front ++ rest)
      (plain_both front rest (plain_both both (codes " and scheme ") (word_set (codes "# so scheme ") (union cut.x cut.y) refl) refl)
      (set_plain names (difference cut.scheme cut.y) all)) refl

  split_told : (form : Form) (cuts : List Cutting) (schemes : List AttrSet)
      → AreLines true (flat_map (cut_text names form) cuts ++ left_out_text names schemes)
  split_told form cuts schemes =
      both_lines true (flat_map (cut_text names form) cuts) (left_out_text names schemes)
      (each_lines true (cut_text names form)
      (λ cut. both_lines true (breach_text names form cut) (parts_text names cut) (breach_told form cut) (parts_told cut)) cuts)
      (left_out_told schemes)

  -- ---- keys
  common_told : (x : Attributes) → AreLines true (set_line (codes "# in every key: ") names x)
  common_told x = one_line true (codes "# in every key: " ++ set_text names x) (word_set (codes "# in every key: ") x refl) refl

  absent_told : (x : Attributes) → AreLines true (set_line (codes "# in no key: ") names x)
  absent_told x = one_line true (codes "# in no key: " ++ set_text names x) (word_set (codes "# in no key: ") x refl) refl

  -- ---- what the commands print
  key_own : (x : AttrSet) → AreLines false (line (set_text names (attributes x)))
  key_own x =
      let set = set_text names (attributes x) in
      one_line false set (set_plain names (attributes x) all) (ap is_reason (sym (append-nil set)) ∙ set_own names (attributes x) [] all)

  keys_own : (keys : List AttrSet) → AreLines false (sets_text names keys)
  keys_own keys = each_lines false (λ (x : AttrSet). line (set_text names (attributes x))) key_own keys

  pub plan_own : (schemes : List Attributes) → AreLines false (plan_text names schemes)
  plan_own [] = no_lines false
  plan_own (x ∷ schemes) =
      both_lines false (line (scheme_text names x)) (plan_text names schemes)
      (one_line false (scheme_text names x) (plain_both (codes "scheme") (words_text (members_from x 0 names)) refl (scheme_plain names x all)) refl)
      (plan_own schemes)

-- ---- the explanations
module _ (s : Schema) (are_names : All IsName (names_of s)) where
  pub printed : All IsPrinted (printed_names_of s)
  printed = names_printed s are_names

  pub text_is : (text : List ℕ) (plain : ResponseValue) → Says Yes text plain → AreLines false text → AreLines false plain.text
  text_is text plain says own = subst (λ (t : List ℕ). AreLines false t) (sym (ap (λ (r : ResponseValue). r.text) says)) own

  keys_reasons : (text : List ℕ) → AreKeyReasons s text → AreLines true text
  keys_reasons text are =
      let names = printed_names_of s in
      subst (λ (t : List ℕ). AreLines true t) (sym are.reads)
      (both_lines true (set_line (codes "# in every key: ") names are.common) (set_line (codes "# in no key: ") names are.absent)
      (common_told names printed are.common) (absent_told names printed are.absent))

  keys_plain : (plain : ResponseValue) → ListsKeys s plain → plain.status ≡ Yes → AreLines false plain.text
  keys_plain plain (inl (keys, is, most, narrow, says)) agrees = text_is (sets_text (printed_names_of s) keys) plain says (keys_own (printed_names_of s) printed keys)
  keys_plain plain (inr (inl (wide, says))) agrees = absurd (refused_not_yes _ plain says agrees)
  keys_plain plain (inr (inr (narrow, many, says))) agrees = absurd (refused_not_yes _ plain says agrees)

  pub keys_leave : (response : ResponseValue) → ExplainsKeys s response → LeavesAnswer (ListsKeys s) response
  keys_leave = leaves_answer (AreKeyReasons s) (ListsKeys s) keys_reasons keys_plain

  synthesis_reasons : (text : List ℕ) → AreSynthesisReasons s text → AreLines true text
  synthesis_reasons text are =
      subst (λ (t : List ℕ). AreLines true t) (sym are.reads) (synthesis_told (printed_names_of s) printed are.cover are.all)

  synthesis_plain : (plain : ResponseValue) → Synthesizes s plain → plain.status ≡ Yes → AreLines false plain.text
  synthesis_plain plain (plan, is, says) agrees = text_is (plan_text (printed_names_of s) (schemes_of plan)) plain says (plan_own (printed_names_of s) printed (schemes_of plan))

  pub synthesis_leaves : (response : ResponseValue) → ExplainsSynthesis s response → LeavesAnswer (Synthesizes s) response
  synthesis_leaves = leaves_answer (AreSynthesisReasons s) (Synthesizes s) synthesis_reasons synthesis_plain

  split_reasons : (form : Form) (text : List ℕ) → AreSplitReasons s form text → AreLines true text
  split_reasons form text are =
      subst (λ (t : List ℕ). AreLines true t) (sym are.reads) (split_told (printed_names_of s) printed form are.cuts are.all)

  stops_plain : (form : Form) (plain : ResponseValue) → SplitStops s form plain → plain.status ≡ Yes → AreLines false plain.text
  stops_plain form plain (inl (scheme, wide, says)) agrees = absurd (refused_not_yes _ plain says agrees)
  stops_plain form plain (inr (many, says)) agrees = absurd (refused_not_yes _ plain says agrees)

  bcnf_plain : (plain : ResponseValue) → Splits s Bcnf plain → plain.status ≡ Yes → AreLines false plain.text
  bcnf_plain plain (inl stops) agrees = stops_plain Bcnf plain stops agrees
  bcnf_plain plain (inr (plan, is, says)) agrees = text_is (plan_text (printed_names_of s) (schemes_of plan)) plain says (plan_own (printed_names_of s) printed (schemes_of plan))

  fourth_plain : (plain : ResponseValue) → Splits s Fourth plain → plain.status ≡ Yes → AreLines false plain.text
  fourth_plain plain (inl stops) agrees = stops_plain Fourth plain stops agrees
  fourth_plain plain (inr (plan, is, says)) agrees = text_is (plan_text (printed_names_of s) (schemes_of plan)) plain says (plan_own (printed_names_of s) printed (schemes_of plan))

  third_split : (response : ResponseValue) → LeavesAnswer (Synthesizes s) response → LeavesAnswer (Splits s Third) response
  third_split response leaves = record {
    plain = leaves.plain;
    answered = inr leaves.answered;
    status = leaves.status;
    explained = leaves.explained;
    else = leaves.else;
  }

  pub split_leaves : (form : Form) (response : ResponseValue) → ExplainsSplit s form response → LeavesAnswer (Splits s form) response
  split_leaves Third response explains = third_split response (synthesis_leaves response explains)
  split_leaves Bcnf response explains = leaves_answer (AreSplitReasons s Bcnf) (Splits s Bcnf) (split_reasons Bcnf) bcnf_plain response explains
  split_leaves Fourth response explains = leaves_answer (AreSplitReasons s Fourth) (Splits s Fourth) (split_reasons Fourth) fourth_plain response explains
