-- The commands on implication have one answer each, but for the derivation of a goal.
use Rattle.std.proofs.Common.{◌≡◌, ◌+◌, ◌<◌, ◌≤◌, ◌⊎◌, ℕ, true, false, List, ◌++◌, length, take, get_or, sym, ap, subst, ◌∙◌, inl, inr, Ok, Err, Result, arith}
use Rattle.std.specs.Prelude.{codes, Contains}
use Rattle.std.proofs.lemmas.Bool.{cases_order, true≢false, cases_lt}
use Rattle.std.proofs.lemmas.List.{length-map, length-take-le, get_or-take}
use Rattle.std.proofs.lemmas.List.Elements.{All-contains}
use Rattle.std.proofs.lemmas.Option.{slice_get_within, get_or_from_slice_get}
use Rattle.attr_sets.specs.Attributes.{Attributes, IsBefore}
use Rattle.attr_sets.specs.Sets.{attributes}
use Rattle.attr_sets.specs.declared.set.AttrSet.{AttrSet}
use Rattle.armstrong_rel.specs.ClosedSets.{IsIrreducible}
use Rattle.armstrong_rel.specs.Refusals.{IsFirstMvd, AreTooMany}
use Rattle.armstrong_rel.proofs.OneExhibit.{exhibit_same}
use Rattle.armstrong_rel.proofs.TupleLemmas.{length-tuples_for}
use Rattle.csv_text.specs.Rows.{rows_text}
use Rattle.dep_basis.proofs.DecidingLemmas.{least_same}
use Rattle.dep_basis.specs.Traces.{blocks_of}
use Rattle.dep_model.specs.Dependencies.{Dependency, mvd, is_fd, functional_part}
use Rattle.dep_model.specs.Keys.{IsKey}
use Rattle.dep_model.specs.Plans.{schemes_of}
use Rattle.schema_model.specs.Schemas.{names_of, width_of, theory_of, universe_of, types_of, naming_of, theory_in}
use Rattle.dep_model.specs.Tuples.{Relation}
use Rattle.schema_model.specs.Schemas.{Schema}
use Rattle.derivation.specs.Trees.{Tree}
use Rattle.derivation.proofs.ConclusionLemmas.{Proves-one}
use Rattle.derivation.proofs.RuleTableLemmas.{the_ok}
use Rattle.fd_closure.proofs.ClosedSets.{all_functional}
use Rattle.headed_rows.specs.Headings.{HeadedRows}
use Rattle.key_listing.specs.Listing.{AreAllKeys, AreManyKeys}
use Rattle.key_listing.specs.declared.refusal.TheConstants.{MOST_KEYS}
use Rattle.schema_model.specs.declared.naming.Naming.{Naming}
use Rattle.schema_grammar.specs.Sets.{MeansSet, read_set}
use Rattle.schema_grammar.specs.declared.refusal.SchemaRefusal.{SchemaRefusal}
use Rattle.schema_grammar.proofs.OneTextRefusal.{goal-refusal-law}
use Rattle.schema_grammar.proofs.SetLaws.{set-law, set-refusal-law}
use Rattle.schema_match.specs.Columns.{SameNames, undeclared_attributes}
use Rattle.schema_printer.specs.Printing.{schema_text, set_text}
use Rattle.schema_printer.specs.Spelling.{printed_names_of}
use Rattle.desk_responses.specs.Lines.{attribute_name}
use Rattle.desk_responses.specs.ResponseValues.{ResponseValue, Allowed}
use Rattle.desk_responses.specs.declared.status.Status.TheVariants.{Yes, No, Refused}
use Rattle.desk_implication.specs.Conclusions.{concludes_text}
use Rattle.desk_texts.specs.Texts.{line, set_line}
use Rattle.desk_refusals.specs.Refusals.{goal_refusal_text, set_refusal_text}
use Rattle.desk_implication.specs.Bases.{TellsBasis, GivesBasis, blocks_text}
use Rattle.desk_implication.specs.Certificates.{Checked, ChecksProof}
use Rattle.desk_covers.specs.Covering.{GivesCanonicalCover, GivesCover}
use Rattle.desk_discovery.specs.Discoveries.{FindsRules, FindsSmallRules, GivesRules, GivesSmallRules, RefusesRules, found_text, left_sides_text}
use Rattle.near_rules.specs.NearRules.{IsFirstExceeded}
use Rattle.near_rules.specs.declared.found.TooManyTried.{TooManyTried}
use Rattle.desk_discovery.specs.AllDiscoveries.{FindsAllRules}
use Rattle.desk_discovery.specs.NearDiscoveries.{FindsNearRules, near_text}
use Rattle.desk_discovery.specs.KeyDiscoveries.{FindsRowKeys, GivesRowKeys, RefusesRowKeys, row_keys_text}
use Rattle.desk_discovery.specs.declared.discovering.TheConstants.{WIDEST_TRIED}
use Rattle.desk_exhibits.specs.Exhibits.{Exhibits, IsExample}
use Rattle.desk_responses.specs.Multivalued.{multivalued_text}
use Rattle.desk_arguments.specs.Goals.{GoalStops, IsGoal, SetStops, IsSetText, WithGoal}
use Rattle.desk_keys.specs.Keys.{ListsKeys}
use Rattle.desk_covers.specs.Sameness.{LacksName, NameStops, Compares, ChecksSame, different_text, not_in_text}
use Rattle.implication_laws.specs.OneAnswer.{AllowsOne}
use Rattle.implication_laws.proofs.AlikeLaws.{none_lacking, names_go}
use Rattle.implication_laws.proofs.GoalLemmas.{one_goal, goal_goes}
use Rattle.implication_laws.proofs.OneBasis.{one_closed, one_blocks}
use Rattle.implication_laws.proofs.OneCover.{one_canonical_cover, one_whole_cover}
use Rattle.implication_laws.proofs.OneKey.{one_keys, before_one_way, ascends, each_key, key_listed}
use Rattle.implication_laws.proofs.OneList.{one_differences, one_near_rules, one_row_keys, one_rules, one_small_rules, one_list_of_all}
use Rattle.dep_model.proofs.OrderedLists.{no_longer}
use Rattle.implication_laws.proofs.StepLaws.{same_says, With-one, Unless-one, same_texts}
use Rattle.typed_rows.specs.Shown.{shown_relation}
use Rattle.typed_rows.specs.Typed.{typed_tuple}

-- ---- goals and sets
one_refusal : {A E : Type 0} (e f : E) → ◌≡◌ {A = Result A E} (Err e) (Err f) → e ≡ f
one_refusal e f same = cc

pub one_goal_stop : (schema : Schema) (goal : List ℕ) → AllowsOne (GoalStops schema goal)
one_goal_stop schema goal one other (inl (long, says)) (inl (also, said)) = says ∙ sym said
one_goal_stop schema goal one other (inl (long, says)) (inr (refusal, is, said)) =
    let within = is.within_limit in absurd (omega (arith, within, long))
one_goal_stop schema goal one other (inr (refusal, is, says)) (inl (long, said)) =
    let within = is.within_limit in absurd (omega (arith, within, long))
one_goal_stop schema goal one other (inr (e, is, says)) (inr (f, also, said)) =
    let same : e ≡ f =
    one_refusal {A = Dependency} e f
    (sym ((goal-refusal-law (naming_of schema) (names_of schema) goal e).1 is.refused)
    ∙ (goal-refusal-law (naming_of schema) (names_of schema) goal f).1 also.refused) in
    same_says Refused _ _ one other says said (ap goal_refusal_text same)

pub one_after_goal : (schema : Schema) (goal : List ℕ) (rest : Dependency → Allowed)
    → ((d : Dependency) → AllowsOne (rest d)) → AllowsOne (WithGoal schema goal rest)
one_after_goal schema goal rest each =
    With-one (GoalStops schema goal) (IsGoal schema goal) rest (one_goal_stop schema goal)
    (λ d response is stops. goal_goes schema goal d response is stops)
    (λ d e is also. one_goal (naming_of schema) (names_of schema) goal d e is.means also.means) (λ d is. each d)

pub one_set_stop : (schema : Schema) (set : List ℕ) → AllowsOne (SetStops schema set)
one_set_stop schema set one other (inl (long, says)) (inl (also, said)) = says ∙ sym said
one_set_stop schema set one other (inl (long, says)) (inr (refusal, is, said)) =
    let within = is.within_limit in absurd (omega (arith, within, long))
one_set_stop schema set one other (inr (refusal, is, says)) (inl (long, said)) =
    let within = is.within_limit in absurd (omega (arith, within, long))
one_set_stop schema set one other (inr (e, is, says)) (inr (f, also, said)) =
    let same : e ≡ f =
    one_refusal {A = Attributes} e f
    (sym ((set-refusal-law (naming_of schema) (names_of schema) set e).1 is.refused)
    ∙ (set-refusal-law (naming_of schema) (names_of schema) set f).1 also.refused) in
    same_says Refused _ _ one other says said (ap set_refusal_text same)

pub set_goes : (schema : Schema) (set : List ℕ) (x : Attributes) (response : ResponseValue)
    → IsSetText schema set x → SetStops schema set response → ⊥
set_goes schema set x response is (inl (long, says)) = let within = is.within_limit in omega (arith, within, long)
set_goes schema set x response is (inr (refusal, refused, says)) =
    let reads = read_set (naming_of schema) (names_of schema) set in
    let read : reads ≡ Ok x = (set-law (naming_of schema) (names_of schema) set x).1 is.means in
    let not_read : reads ≡ Err refusal =
    (set-refusal-law (naming_of schema) (names_of schema) set refusal).1 refused.refused in cc

pub one_set : (naming : Naming) (names : List (List ℕ)) (set : List ℕ) (x y : Attributes)
    → MeansSet naming names set x → MeansSet naming names set y → x ≡ y
one_set naming names set x y first second =
    the_ok {A = Attributes} {E = SchemaRefusal} x y
    (sym ((set-law naming names set x).1 first) ∙ (set-law naming names set y).1 second)

-- ---- certificates
one_checked : (schema : Schema) (tree : Tree) (goal : Dependency) → AllowsOne (Checked schema tree goal)
one_checked schema tree goal one other (inl (proved, implied, says)) (inl (also, again, said)) = says ∙ sym said
one_checked schema tree goal one other (inl (proved, implied, says)) (inr (unproved, (d, concluded, said))) =
    absurd (unproved proved)
one_checked schema tree goal one other (inr (unproved, (d, concluded, says))) (inl (proved, implied, said)) =
    absurd (unproved proved)
one_checked schema tree goal one other (inr (unproved, (d, concluded, says))) (inr (also, (e, again, said))) =
    same_says No _ _ one other says said
    (ap (λ (f : Dependency). concludes_text (printed_names_of schema) f goal)
    (Proves-one (theory_in schema) tree d e concluded again))

pub one_certificate_answer : (schema : Schema) (tree : Tree) (goal : List ℕ) → AllowsOne (ChecksProof schema tree goal)
one_certificate_answer schema tree goal =
    one_after_goal schema goal (Checked schema tree) (λ d. one_checked schema tree d)

-- ---- covers
pub one_cover_answer : (schema : Schema) → AllowsOne (GivesCover schema)
one_cover_answer schema one other (whole, fixed, minimal, covers, says) (entire, also, minimal_too, covers_too, said) =
    same_says Yes _ _ one other says said
    (ap (schema_text schema) (one_whole_cover (width_of schema) (theory_of schema) whole entire fixed also))

pub one_canonical_answer : (schema : Schema) → AllowsOne (GivesCanonicalCover schema)
one_canonical_answer schema one other (cover, fixed, canonical, covers, says) (more, also, canonical_too, covers_too, said) =
    same_says Yes _ _ one other says said
    (ap (schema_text schema) (one_canonical_cover (width_of schema) (theory_of schema) cover more fixed also))

-- ---- bases
one_told : (schema : Schema) (x : Attributes) → AllowsOne (TellsBasis schema x)
one_told schema x one other (found, is, says) (blocks, also, said) =
    let n = width_of schema in
    let ds = theory_of schema in
    let names = printed_names_of schema in
    same_says Yes _ _ one other says said
    (ap (λ (closed : Attributes). set_line (codes "closure ") names closed ++ blocks_text names
    (blocks_of found)) (one_closed n ds x found blocks is also)
    ∙ ap (λ (text : List ℕ). set_line (codes "closure ") names (attributes blocks.closed) ++ text)
    (same_texts (set_line (codes "block ") names) (blocks_of found) (blocks_of blocks)
    (one_blocks n ds x found blocks is also)))

pub one_basis_answer : (schema : Schema) (set : List ℕ) → AllowsOne (GivesBasis schema set)
one_basis_answer schema set =
    With-one (SetStops schema set) (IsSetText schema set) (TellsBasis schema)
    (one_set_stop schema set) (λ x response is stops. set_goes schema set x response is stops)
    (λ x y is also. one_set (naming_of schema) (names_of schema) set x y is.means also.means) (λ x is. one_told schema x)

-- ---- keys
-- a scheme has no more keys than are listed
pub all_or_many : (n : ℕ) (ds : List Dependency) (scheme : Attributes) (keys found : List AttrSet)
    → AreAllKeys n ds scheme keys
    → length keys ≤ MOST_KEYS → AreManyKeys n ds scheme found → ⊥
all_or_many n ds scheme keys found all within many =
    let P = IsKey n ds scheme in
    let here = each_key n ds scheme found many.each in
    let there = each_key n ds scheme keys all.each in
    let fewer : length (schemes_of found) ≤ length (schemes_of keys) =
    no_longer P IsBefore (schemes_of found) (schemes_of keys) (before_one_way P) here there
    (ascends found many.ascending) (ascends keys all.ascending)
    (λ k has. key_listed n ds scheme keys all k (All-contains P (schemes_of found) k here has)) in
    let count = many.count in
    omega (arith, fewer, within, count, length-map found attributes, length-map keys attributes)

pub one_keys_answer : (schema : Schema) → AllowsOne (ListsKeys schema)
one_keys_answer schema one other (inl (keys, all, within, narrow, says)) (inl (others, also, low, again, said)) =
    same_says Yes _ _ one other says said
    (same_texts (λ key. line (set_text (printed_names_of schema) key)) keys others
    (one_keys (width_of schema) (theory_of schema) (universe_of schema) keys others all also))
one_keys_answer schema one other (inl (keys, all, within, narrow, says)) (inr (inl (wide, said))) = absurd (narrow wide)
one_keys_answer schema one other (inl (keys, all, within, narrow, says)) (inr (inr (also, (found, many), said))) =
    absurd (all_or_many (width_of schema) (theory_of schema) (universe_of schema) keys found all within many)
one_keys_answer schema one other (inr (inl (wide, says))) (inl (keys, all, within, narrow, said)) = absurd (narrow wide)
one_keys_answer schema one other (inr (inl (wide, says))) (inr (inl (also, said))) = says ∙ sym said
one_keys_answer schema one other (inr (inl (wide, says))) (inr (inr (narrow, many, said))) = absurd (narrow wide)
one_keys_answer schema one other (inr (inr (narrow, (found, many), says))) (inl (keys, all, within, also, said)) =
    absurd (all_or_many (width_of schema) (theory_of schema) (universe_of schema) keys found all within many)
one_keys_answer schema one other (inr (inr (narrow, many, says))) (inr (inl (wide, said))) = absurd (narrow wide)
one_keys_answer schema one other (inr (inr (narrow, many, says))) (inr (inr (also, more, said))) = says ∙ sym said

-- ---- exhibits
mvd_at : (ds : List Dependency) (k : ℕ) (d : Dependency) → IsFirstMvd ds k → is_fd (get_or ds k d) ≡ false
mvd_at ds k d is = ap is_fd (get_or_from_slice_get ds k (mvd is.lhs is.rhs) d is.given)

not_earlier : (ds : List Dependency) (j k : ℕ) → IsFirstMvd ds j → IsFirstMvd ds k → j < k → ⊥
not_earlier ds j k first second before =
    let d = mvd second.lhs second.rhs in
    let inside : k < length ds = slice_get_within ds k d second.given in
    let low : length (take k ds) ≡ k = length-take-le k ds (omega (arith, inside)) in
    let functional : is_fd (get_or (take k ds) j d) ≡ true = second.earlier j d (omega (arith, before, low)) in
    true≢false (sym functional ∙ ap is_fd (get_or-take k ds j d before) ∙ mvd_at ds j d first)

pub one_mvd : (ds : List Dependency) (j k : ℕ) → IsFirstMvd ds j → IsFirstMvd ds k → j ≡ k
one_mvd ds j k first second = elim (cases_lt j k) [
  | inl before ↦ absurd (not_earlier ds j k first second before)
  | inr from_on ↦ elim (cases_lt k j) [
    | inl after ↦ absurd (not_earlier ds k j second first after)
    | inr back ↦ omega (arith, from_on, back)
  ]
]

pub not_functional : (ds : List Dependency) (k : ℕ) → IsFirstMvd ds k → functional_part ds ≡ ds → ⊥
not_functional ds k is functional =
    let d = mvd is.lhs is.rhs in
    true≢false (sym (all_functional ds functional k d (slice_get_within ds k d is.given)) ∙ mvd_at ds k d is)

-- a relation of all irreducible closed sets has no more rows than are printed, or there are too many
exhibit_or_many : (schema : Schema) (rows : Relation) (sets : List Attributes) → IsExample schema rows
    → AreTooMany (width_of schema) (theory_of schema) sets → ⊥
exhibit_or_many schema rows sets example many =
    let P = IsIrreducible (width_of schema) (theory_of schema) in
    let irreducible = example.exhibit.irreducible in
    let own = example.exhibit.sets in
    let fewer : length sets ≤ length own =
    no_longer P IsBefore sets own (before_one_way P) many.each irreducible.each many.ascending irreducible.ascending
    (λ c has.
    let found = irreducible.all c (All-contains P sets c many.each has) in
    subst (λ (x : Attributes). Contains own x) found.4 (found.0, found.2, found.3)) in
    let short : length rows ≡ length own + 1 =
    ap length example.shown ∙ length-map example.numbers (typed_tuple (types_of schema)) ∙ ap length example.exhibit.tuples
    ∙ length-tuples_for (width_of schema) own in
    let within_limit = example.within_limit in
    let count = many.count in
    omega (arith, fewer, short, within_limit, count)

pub one_exhibit_answer : (schema : Schema) → AllowsOne (Exhibits schema)
one_exhibit_answer schema one other (inl (rows, example, says)) (inl (tuples, also, said)) =
    same_says Yes _ _ one other says said
    (ap (rows_text (names_of schema)) (example.shown
    ∙ ap (shown_relation schema) (exhibit_same (width_of schema) (theory_of schema) example.numbers also.numbers example.exhibit also.exhibit)
    ∙ sym also.shown))
one_exhibit_answer schema one other (inl (rows, example, says)) (inr (inl (dep, is, said))) = absurd (not_functional (theory_of schema) dep is example.functional)
one_exhibit_answer schema one other (inl (rows, example, says)) (inr (inr (inl (wide, said)))) = absurd (example.narrow wide.1)
one_exhibit_answer schema one other (inl (rows, example, says)) (inr (inr (inr (many, said)))) = absurd (exhibit_or_many schema rows many.2.0 example many.2.1)
one_exhibit_answer schema one other (inr (inl (dep, is, says))) (inl (rows, example, said)) = absurd (not_functional (theory_of schema) dep is example.functional)
one_exhibit_answer schema one other (inr (inl (dep, is, says))) (inr (inl (number, also, said))) =
    same_says Refused _ _ one other says said (ap (multivalued_text schema) (one_mvd (theory_of schema) dep number is also))
one_exhibit_answer schema one other (inr (inl (dep, is, says))) (inr (inr (inl (wide, said)))) = absurd (not_functional (theory_of schema) dep is wide.0)
one_exhibit_answer schema one other (inr (inl (dep, is, says))) (inr (inr (inr (many, said)))) = absurd (not_functional (theory_of schema) dep is many.0)
one_exhibit_answer schema one other (inr (inr (inl (wide, says)))) (inl (rows, example, said)) = absurd (example.narrow wide.1)
one_exhibit_answer schema one other (inr (inr (inl (wide, says)))) (inr (inl (dep, is, said))) = absurd (not_functional (theory_of schema) dep is wide.0)
one_exhibit_answer schema one other (inr (inr (inl (wide, says)))) (inr (inr (inl (also, said)))) = says ∙ sym said
one_exhibit_answer schema one other (inr (inr (inl (wide, says)))) (inr (inr (inr (many, said)))) = absurd (many.1 wide.1)
one_exhibit_answer schema one other (inr (inr (inr (many, says)))) (inl (rows, example, said)) = absurd (exhibit_or_many schema rows many.2.0 example many.2.1)
one_exhibit_answer schema one other (inr (inr (inr (many, says)))) (inr (inl (dep, is, said))) = absurd (not_functional (theory_of schema) dep is many.0)
one_exhibit_answer schema one other (inr (inr (inr (many, says)))) (inr (inr (inl (wide, said)))) = absurd (many.1 wide.1)
one_exhibit_answer schema one other (inr (inr (inr (many, says)))) (inr (inr (inr (more, said)))) = says ∙ sym said

-- ---- two schemas
one_lacking : (schema other : Schema) (file : List ℕ) → AllowsOne (LacksName schema other file)
one_lacking schema other file one two (a, first, says) (b, also, said) =
    same_says Refused _ _ one two says said
    (ap (λ (c : ℕ). not_in_text (attribute_name (printed_names_of schema) c) file)
    (least_same (undeclared_attributes schema other) a b first also))

pub one_name_stop : (schema other : Schema) (file other_file : List ℕ) → AllowsOne (NameStops schema other file other_file)
one_name_stop schema other file other_file one two (inl lacks) (inl also) =
    one_lacking schema other other_file one two lacks also
one_name_stop schema other file other_file one two (inl lacks) (inr (declared, also)) =
    absurd (none_lacking schema other other_file one declared lacks)
one_name_stop schema other file other_file one two (inr (declared, lacks)) (inl also) =
    absurd (none_lacking schema other other_file two declared also)
one_name_stop schema other file other_file one two (inr (declared, lacks)) (inr (again, also)) =
    one_lacking other schema file one two lacks also

one_compared : (schema other : Schema) (file other_file : List ℕ) → AllowsOne (Compares schema other file other_file)
one_compared schema other file other_file one two (inl (same, says)) (inl (also, said)) = says ∙ sym said
one_compared schema other file other_file one two (inl (same, says)) (inr (there, back, differ, said)) =
    absurd (differ.legal same.legal)
one_compared schema other file other_file one two (inr (there, back, differ, says)) (inl (same, said)) =
    absurd (differ.legal same.legal)
one_compared schema other file other_file one two (inr (there, back, differ, says))
    (inr (of_schema, of_other, also, said)) =
    same_says No _ _ one two says said
    (ap (λ (ks : List ℕ). different_text schema other file other_file ks back)
    (one_differences schema other there of_schema differ.there also.there)
    ∙ ap (different_text schema other file other_file of_schema)
    (one_differences other schema back of_other differ.back also.back))

pub one_same_answer : (schema other : Schema) (file other_file : List ℕ)
    → AllowsOne (ChecksSame schema other file other_file)
one_same_answer schema other file other_file =
    Unless-one (NameStops schema other file other_file) (SameNames schema other) (Compares schema other file other_file)
    (one_name_stop schema other file other_file)
    (λ response names. names_go schema other file other_file response names)
    (λ names. one_compared schema other file other_file)

-- ---- discovered rules
one_rules_given : (headed : HeadedRows) → AllowsOne (GivesRules headed)
one_rules_given headed one other (ds, rules, says) (es, also, said) =
    same_says Yes _ _ one other says said
    (ap (found_text headed.names)
    (one_rules (length headed.names) headed.rows ds es rules.minimal also.minimal))

pub one_rules_answer : (file : List ℕ) (headed : HeadedRows) (one other : ResponseValue) → FindsRules file headed one
    → FindsRules file headed other → (one ≡ other) ⊎ (RefusesRules (length headed.names) file headed one
    ⊎ RefusesRules (length headed.names) file headed other)
one_rules_answer file headed one other (inl first) (inl second) = inl (one_rules_given headed one other first second)
one_rules_answer file headed one other (inl first) (inr second) = inr (inr second)
one_rules_answer file headed one other (inr first) second = inr (inl first)

few_not_refused : (most : ℕ) (file : List ℕ) (headed : HeadedRows) (response : ResponseValue)
    → length headed.names ≤ WIDEST_TRIED → RefusesRules most file headed response → ⊥
few_not_refused most file headed response few (refusal, many, says) = absurd (omega (arith, few, many.wide))

pub few_rules_answer : (file : List ℕ) (headed : HeadedRows) → length headed.names ≤ WIDEST_TRIED
    → AllowsOne (FindsRules file headed)
few_rules_answer file headed few one other (inl first) (inl second) = one_rules_given headed one other first second
few_rules_answer file headed few one other (inl first) (inr second) = absurd (few_not_refused (length headed.names) file headed other few second)
few_rules_answer file headed few one other (inr first) second = absurd (few_not_refused (length headed.names) file headed one few first)

-- ---- all that holds
pub one_whole_answer : (headed : HeadedRows) → AllowsOne (FindsAllRules headed)
one_whole_answer headed one other (ds, rules, says) (es, also, said) =
    same_says Yes _ _ one other says said
    (ap (found_text headed.names)
    (one_list_of_all (length headed.names) headed.rows ds es rules.rules also.rules))

-- ---- few attributes on the left
one_small_given : (most : ℕ) (headed : HeadedRows) → AllowsOne (GivesSmallRules most headed)
one_small_given most headed one other (ds, rules, says) (es, also, said) =
    same_says Yes _ _ one other says said
    (ap (found_text headed.names)
    (one_small_rules (length headed.names) most headed.rows ds es rules also))

pub one_small_answer : (most : ℕ) (file : List ℕ) (headed : HeadedRows) (one other : ResponseValue)
    → FindsSmallRules most file headed one → FindsSmallRules most file headed other
    → (one ≡ other) ⊎ (RefusesRules most file headed one ⊎ RefusesRules most file headed other)
one_small_answer most file headed one other (inl first) (inl second) = inl (one_small_given most headed one other first second)
one_small_answer most file headed one other (inl first) (inr second) = inr (inr second)
one_small_answer most file headed one other (inr first) second = inr (inl first)

pub few_small_answer : (most : ℕ) (file : List ℕ) (headed : HeadedRows) → length headed.names ≤ WIDEST_TRIED
    → AllowsOne (FindsSmallRules most file headed)
few_small_answer most file headed few one other (inl first) (inl second) = one_small_given most headed one other first second
few_small_answer most file headed few one other (inl first) (inr second) =
    absurd (few_not_refused most file headed other few second)
few_small_answer most file headed few one other (inr first) second = absurd (few_not_refused most file headed one few first)

-- ---- keys of rows
one_row_keys_given : (headed : HeadedRows) → AllowsOne (GivesRowKeys headed)
one_row_keys_given headed one other (keys, are, says) (others, also, said) =
    same_says Yes _ _ one other says said
    (ap (row_keys_text headed.names)
    (one_row_keys (length headed.names) headed.rows keys others are also))

pub one_row_keys_answer : (file : List ℕ) (headed : HeadedRows) (one other : ResponseValue)
    → FindsRowKeys file headed one → FindsRowKeys file headed other
    → (one ≡ other) ⊎ (RefusesRowKeys file headed one ⊎ RefusesRowKeys file headed other)
one_row_keys_answer file headed one other (inl first) (inl second) = inl (one_row_keys_given headed one other first second)
one_row_keys_answer file headed one other (inl first) (inr second) = inr (inr second)
one_row_keys_answer file headed one other (inr first) second = inr (inl first)

-- ---- dependencies that nearly hold
same_first : (n most limit : ℕ) (rows : Relation) (p q : TooManyTried) → IsFirstExceeded n most limit rows p
    → IsFirstExceeded n most limit rows q → p.right ≡ q.right
same_first n most limit rows p q one other = elim (cases_order p.right q.right) [
  | inl same ↦ same
  | inr apart ↦ elim apart [
    | inl less ↦ absurd (other.first p.right less one.exceeds)
    | inr more ↦ absurd (one.first q.right more other.exceeds)
  ]
]

pub one_near_answer : (limit most : ℕ) (file : List ℕ) (headed : HeadedRows) → AllowsOne (FindsNearRules limit most file headed)
one_near_answer limit most file headed one other (inl (ds, es, rules, whole, says)) (inl (fs, gs, also, too, said)) =
    let same = one_near_rules (length headed.names) most limit headed.rows ds fs es gs rules also in
    same_says Yes _ _ one other says said
    (ap (λ (l : List Dependency). near_text headed.names l es) same.0 ∙ ap (near_text headed.names fs) same.1)
one_near_answer limit most file headed one other (inl (ds, es, rules, whole, says)) (inr (refusal, is, said)) =
    absurd (whole refusal.right is.right is.exceeds)
one_near_answer limit most file headed one other (inr (refusal, is, says)) (inl (ds, es, rules, whole, said)) =
    absurd (whole refusal.right is.right is.exceeds)
one_near_answer limit most file headed one other (inr (p, is, says)) (inr (q, also, said)) =
    same_says Refused _ _ one other says said
    (ap (left_sides_text file headed.names) (same_first (length headed.names) most limit headed.rows p q is also))
