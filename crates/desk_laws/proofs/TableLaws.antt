-- Where the inputs of a command on forms, plans or tables have their meaning, it answers yes or no.
use Rattle.std.proofs.Common.{◌≡◌, ◌<◌, ◌≤◌, ◌-◌, ◌^◌, ◌⊎◌, ℕ, true, List, [], ◌∷◌, map, length, inl, inr, sym, ap, refl, subst, arith}
use Rattle.std.specs.Prelude.{codes, All, Contains, Some}
use Rattle.std.proofs.lemmas.List.Elements.{All-contains, Contains-append_right}
use Rattle.std.proofs.Math.Nat.{pow-le-pow_right}
use Rattle.attr_sets.proofs.AttributesLemmas.{count_below-le, count_below-low, count_below-within}
use Rattle.attr_sets.specs.Attributes.{Attributes, below, intersection, IsSubset, count_below}
use Rattle.attr_sets.specs.declared.set.TheConstants.{MOST_ATTRIBUTES}
use Rattle.attr_sets.specs.declared.set.AttrSet.{AttrSet}
use Rattle.armstrong_rel.specs.Refusals.{IsFirstMvd, HasTooManyRows, IsTooWideToExhibit}
use Rattle.dep_model.specs.Dependencies.{Dependency}
use Rattle.dep_model.specs.Plans.{schemes_of}
use Rattle.schema_model.specs.Schemas.{width_of, theory_of, nullable_of, theory_in}
use Rattle.dep_model.specs.Tuples.{Relation}
use Rattle.schema_model.specs.Schemas.{Schema}
use Rattle.fd_closure.specs.LeftSides.{left_sides, IsWideScheme}
use Rattle.ddl_text.specs.Designs.{keyed}
use Rattle.missing_values.proofs.FindingLemmas.{found_missing}
use Rattle.dep_model.specs.declared.form.Form.{Form}
use Rattle.dep_model.specs.declared.form.Form.TheVariants.{Third, Bcnf, Fourth}
use Rattle.split_forms.proofs.SplitLemmas.{too_many_short}
use Rattle.split_forms.specs.Splitting.{IsTooWideAt, HasTooManySchemes}
use Rattle.table_names.specs.TableNames.{GivenNames}
use Rattle.plan_printer.specs.NamedPlans.{NamedSchemes}
use Rattle.desk_outside.specs.Files.{Files}
use Rattle.desk_designs.specs.declared.decomposition.TheConstants.{MOST_SPLIT_SCHEMES}
use Rattle.desk_responses.specs.ResponseValues.{ResponseValue, Allowed}
use Rattle.desk_designs.specs.Decompositions.{SplitStops, WithPlanInForm, ShowsPlan, SplitsWide}
use Rattle.desk_designs.specs.Designs.{WithoutMissing, WritesPlan, WritesSchemes, WritesTables}
use Rattle.desk_exhibits.specs.Exhibits.{Exhibits}
use Rattle.desk_words.specs.Forms.{form_of, form_over_rows, form_over_schema, after_check, after_check_form, after_split, after_ddl, after_migrate, after_migrate_form, after_migrate_plan, normal_form, schema_alone, persons_alone, schema_and_plan, tested_form}
use Rattle.desk_inputs.specs.FileKinds.{IsFile, WithFile}
use Rattle.desk_inputs.specs.Inputs.{schema_file}
use Rattle.desk_designs.specs.Joins.{WithoutLoss, IsTooLarge}
use Rattle.desk_designs.specs.Keeping.{JudgesKeeping}
use Rattle.desk_tables.specs.Legality.{WithLegal}
use Rattle.desk_tables.specs.Migrations.{GivesTables, MigratesPlan, MigratesRows, Samples}
use Rattle.desk_tables.specs.Tidiness.{WithTidy}
use Rattle.desk_tables.specs.Overwriting.{KeepsFiles, MigratesHere, MigratesPlanHere}
use Rattle.desk_words.specs.Numbers.{is_count}
use Rattle.lexer.specs.Bytes.{number_of}
use Rattle.sample_rows.specs.Sample.{sample_relation}
use Rattle.desk_designs.specs.NormalForms.{JudgesForm, form_word, tested_word}
use Rattle.which_form.specs.declared.forms.TestedForm.{TestedForm}
use Rattle.which_form.specs.declared.forms.TestedForm.TheVariants.{Second, Higher}
use Rattle.desk_cli.specs.Performs.{Answers, Performs, Does, AnswersSchema, AnswersPlan, SamplesFew}
use Rattle.desk_inputs.specs.Plans.{plan_file}
use Rattle.desk_inputs.specs.Readings.{known_files}
use Rattle.desk_inputs.specs.Rows.{rows_file}
use Rattle.desk_laws.specs.Completeness.{IsYesOrNo, IsAnswered, IsSplittable, HasPlanInForm, NamesNoTable, RequiresAll}
use Rattle.desk_designs.proofs.SplitLemmas.{stuck_within}
use Rattle.desk_laws.proofs.CompleteLaws.{after_schema, after_rows, after_plan}
use Rattle.desk_tables.specs.OwnFolders.{Looks}

-- ---- steps
split_goes : (s : Schema) (form : Form) (response : ResponseValue) → IsSplittable s form → SplitStops s form response → ⊥
split_goes s form response can (inl (scheme, wide, says)) = can.narrow scheme wide
split_goes s form response can (inr (many, says)) = can.within_limit many

pub after_form : (s : Schema) (form : Form) (rest : List AttrSet → Allowed) (response : ResponseValue) → HasPlanInForm s form
    → ((plan : List AttrSet) → rest plan response → IsYesOrNo response.status) → WithPlanInForm s form rest response → IsYesOrNo response.status
after_form s Third rest response can go (inl exit) = absurd exit
after_form s Bcnf rest response can go (inl exit) = absurd (split_goes s Bcnf response can exit)
after_form s Fourth rest response can go (inl exit) = absurd (split_goes s Fourth response can exit)
after_form s Third rest response can go (inr (plan, is, more)) = go plan more
after_form s Bcnf rest response can go (inr (plan, is, more)) = go plan more
after_form s Fourth rest response can go (inr (plan, is, more)) = go plan more

pub after_loss : (s : Schema) (plan : List Attributes) (rest : Allowed) (response : ResponseValue) → (IsTooLarge s plan → ⊥)
    → (rest response → IsYesOrNo response.status) → WithoutLoss s plan rest response → IsYesOrNo response.status
after_loss s plan rest response small go (inl (inl (fits, lossy, found))) = inr (ap (λ (a : ResponseValue). a.status) found.2)
after_loss s plan rest response small go (inl (inr (large, says))) = absurd (small large)
after_loss s plan rest response small go (inr (lossless, more)) = go more

pub after_missing : (s : Schema) (names : GivenNames) (plan : List Attributes) (rest : Allowed) (response : ResponseValue) → RequiresAll s
    → (rest response → IsYesOrNo response.status) → WithoutMissing s names plan rest response → IsYesOrNo response.status
after_missing s names plan rest response none go (inl (tables, design, found)) =
    let (a, missing) = found_missing (nullable_of s) (map keyed tables) found.0 found.1 in absurd (none a missing)
after_missing s names plan rest response none go (inr (never, more)) = go more

after_legal : (r : Schema) (rows : Relation) (rest : Allowed) (response : ResponseValue)
    → (rest response → IsYesOrNo response.status) → WithLegal r rows rest response → IsYesOrNo response.status
after_legal r rows rest response go (inl (broken, found)) = inr (ap (λ (a : ResponseValue). a.status) found.2)
after_legal r rows rest response go (inr (legal, more)) = go more

after_tidy : (r : Schema) (plan : List Attributes) (rows : Relation) (rest : Allowed) (response : ResponseValue)
    → (rest response → IsYesOrNo response.status) → WithTidy r plan rows rest response → IsYesOrNo response.status
after_tidy r plan rows rest response go (inl (design, keyed, (lost, (found, are, says)))) = inr (ap (λ (a : ResponseValue). a.status) says)
after_tidy r plan rows rest response go (inr (tidy, more)) = go more

-- ---- answers
pub MigratesRows-yes_or_no : (r : Schema) (names : GivenNames) (plan : List Attributes) (rows : Relation) (response : ResponseValue) → MigratesRows r names plan rows response → IsYesOrNo response.status
MigratesRows-yes_or_no r names plan rows response migrates =
    after_legal r rows (WithTidy r plan rows (GivesTables r names plan rows)) response
    (after_tidy r plan rows (GivesTables r names plan rows) response (λ found. inl (ap (λ (a : ResponseValue). a.status) found.2))) migrates

WritesTables-yes_or_no : (r : Schema) (names : GivenNames) (plan : List AttrSet) (response : ResponseValue) → WritesTables r names plan response → IsYesOrNo response.status
WritesTables-yes_or_no r names plan response found = inl (ap (λ (a : ResponseValue). a.status) found.2)

JudgesKeeping-yes_or_no : (r : Schema) (plan : List Attributes) (response : ResponseValue) → JudgesKeeping r plan response → IsYesOrNo response.status
JudgesKeeping-yes_or_no r plan response (inl (kept, says)) = inl (ap (λ (a : ResponseValue). a.status) says)
JudgesKeeping-yes_or_no r plan response (inr (lost, found)) = inr (ap (λ (a : ResponseValue). a.status) found.4)

JudgesForm-yes_or_no : (s : Schema) (form : TestedForm) (plan : List Attributes) (response : ResponseValue) → All (λ scheme. IsWideScheme (theory_of s) scheme → ⊥) plan
    → JudgesForm s form plan response → IsYesOrNo response.status
JudgesForm-yes_or_no s form plan response narrow (inl (all, says)) = inl (ap (λ (a : ResponseValue). a.status) says)
JudgesForm-yes_or_no s form plan response narrow (inr (scheme, first, inl (wide, says))) =
    let at : Contains plan scheme = subst (λ (l : List Attributes). Contains l scheme) (sym first.list)
    (Contains-append_right first.earlier (scheme ∷ first.later) scheme (0, omega arith, refl)) in
    absurd (All-contains (λ (x : Attributes). IsWideScheme (theory_of s) x → ⊥) plan scheme narrow at wide)
JudgesForm-yes_or_no s form plan response narrow (inr (scheme, first, inr (narrow_one, found))) = inr (ap (λ (a : ResponseValue). a.status) found.3)

Exhibits-yes_or_no : (s : Schema) (response : ResponseValue) → ((k : ℕ) → IsFirstMvd (theory_of s) k → ⊥) → (IsTooWideToExhibit (theory_in s) → ⊥) → (HasTooManyRows (theory_in s) → ⊥)
    → Exhibits s response → IsYesOrNo response.status
Exhibits-yes_or_no s response functional narrow few (inl found) = inl (ap (λ (a : ResponseValue). a.status) found.2)
Exhibits-yes_or_no s response functional narrow few (inr (inl (k, first, says))) = absurd (functional k first)
Exhibits-yes_or_no s response functional narrow few (inr (inr (inl (wide, says)))) = absurd (narrow wide.1)
Exhibits-yes_or_no s response functional narrow few (inr (inr (inr (many, says)))) = absurd (few many.2)

-- ---- small universes
-- over at most 13 attributes splitting meets no limit
small_split : (n : ℕ) (ds : List Dependency) (form : Form) → 0 < n → n ≤ 13 → (form ≡ Third → ⊥) → HasTooManySchemes n ds form MOST_SPLIT_SCHEMES → ⊥
small_split n ds form not_empty within_limit other many =
    let short : MOST_SPLIT_SCHEMES < 2 ^ (n - 1) = too_many_short n ds form not_empty other MOST_SPLIT_SCHEMES many in
    let bound : n - 1 ≤ 12 = omega (arith, within_limit) in
    let grown : 2 ^ (n - 1) ≤ 2 ^ 12 = pow-le-pow_right (omega arith) bound in
    omega (arith, short, grown)

small_narrow : (n : ℕ) (ds : List Dependency) (form : Form) (scheme : Attributes) → 0 < n → n ≤ 13 → (form ≡ Third → ⊥)
    → IsTooWideAt n ds form MOST_SPLIT_SCHEMES scheme → ⊥
small_narrow n ds form scheme not_empty within_limit other wide =
    let within : IsSubset scheme (below n) = stuck_within n ds form MOST_SPLIT_SCHEMES scheme not_empty other wide in
    let low : count_below scheme MOST_ATTRIBUTES ≡ count_below scheme n = count_below-low MOST_ATTRIBUTES n scheme within (omega (arith, within_limit)) in
    let fewer = count_below-within MOST_ATTRIBUTES (intersection scheme (left_sides ds)) scheme (λ k m. grind (arith, m)) in
    omega (arith, within_limit, low, count_below-le n scheme, fewer, wide.stuck.stuck.wide)

third_is_not : (form : Form) → (form ≡ Bcnf) ⊎ (form ≡ Fourth) → form ≡ Third → ⊥
third_is_not form (inl is) e = cc
third_is_not form (inr is) e = cc

pub small_is_splittable : (s : Schema) (form : Form) → width_of s ≤ 13 → (form ≡ Bcnf) ⊎ (form ≡ Fourth) → IsSplittable s form
small_is_splittable s form within_limit which = record {
  narrow = λ scheme wide. small_narrow (width_of s) (theory_of s) form scheme s.valid.names_not_empty within_limit (third_is_not form which) wide;
  within_limit = λ many. small_split (width_of s) (theory_of s) form s.valid.names_not_empty within_limit (third_is_not form which) many;
}

-- ---- commands
-- each asks what `Performs` says of its words, and then what it reads and finds is there
check_form_asks : (form : TestedForm) (files : Files) (name file : List ℕ) (looks : Looks) (response : ResponseValue) → Answers looks (known_files files) (codes "check" ∷ codes "form" ∷ tested_word form ∷ name ∷ file ∷ []) response
    → WithFile schema_file (known_files files) name (λ r. WithFile (plan_file r) (known_files files) file (λ p. JudgesForm r form p.schemes)) response
unfolding form_of form_over_schema after_check after_check_form tested_form normal_form schema_and_plan Performs Does AnswersPlan
check_form_asks Second files name file looks response answered = answered
check_form_asks (Higher Third) files name file looks response answered = answered
check_form_asks (Higher Bcnf) files name file looks response answered = answered
check_form_asks (Higher Fourth) files name file looks response answered = answered

pub check_answered : (form : TestedForm) (files : Files) (name file : List ℕ)
    → (schema : Schema) (plan : NamedSchemes)
    → IsFile schema_file (known_files files) name schema → IsFile (plan_file schema) (known_files files) file plan
    → All (λ scheme. IsWideScheme (theory_of schema) scheme → ⊥) plan.schemes → IsAnswered files (codes "check" ∷ codes "form" ∷ tested_word form ∷ name ∷ file ∷ [])
check_answered form files name file schema plan held_schema held_plan narrow looks response answered =
    JudgesForm-yes_or_no schema form plan.schemes response narrow
    (after_plan files schema file plan (λ p. JudgesForm schema form p.schemes) response held_plan
    (after_schema files name schema (λ r. WithFile (plan_file r) (known_files files) file (λ p. JudgesForm r form p.schemes)) response held_schema
    (check_form_asks form files name file looks response answered)))

-- a command over a schema alone that finds a plan in a form and goes on with it
pub form_answered : (files : Files) (words : List (List ℕ)) (name : List ℕ) (form : Form) (rest : Schema → List AttrSet → Allowed)
    → ((r : Schema) (plan : List AttrSet) (response : ResponseValue) → rest r plan response → IsYesOrNo response.status)
    → ((looks : Looks) (response : ResponseValue) → Answers looks (known_files files) words response
    → WithFile schema_file (known_files files) name (λ r. WithPlanInForm r form (rest r)) response)
    → (schema : Schema) → IsFile schema_file (known_files files) name schema → HasPlanInForm schema form
    → IsAnswered files words
form_answered files words name form rest says asks schema file can looks response answered =
    after_form schema form (rest schema) response can (λ plan found. says schema plan response found)
    (after_schema files name schema (λ r. WithPlanInForm r form (rest r)) response file (asks looks response answered))

-- the tables of a plan, where no value is missing in them where it must not be
abbrev pub WritesRequired : Schema → List AttrSet → Allowed
WritesRequired r plan = WithoutMissing r [] (schemes_of plan) (WritesTables r [] plan)

pub ddl_asks : (form : Form) (files : Files) (name : List ℕ) (looks : Looks) (response : ResponseValue) → Answers looks (known_files files) (codes "ddl" ∷ form_word form ∷ name ∷ []) response
    → WithFile schema_file (known_files files) name (λ r. WithPlanInForm r form (WritesRequired r)) response
unfolding form_of form_over_schema after_ddl normal_form schema_alone Performs Does AnswersSchema
ddl_asks Third files name looks response answered = answered
ddl_asks Bcnf files name looks response answered = answered
ddl_asks Fourth files name looks response answered = answered

pub ddl_answered : (form : Form) (files : Files) (name : List ℕ)
    → (schema : Schema) → IsFile schema_file (known_files files) name schema → RequiresAll schema → HasPlanInForm schema form
    → IsAnswered files (codes "ddl" ∷ form_word form ∷ name ∷ [])
ddl_answered form files name schema file none can looks response answered =
    after_form schema form (WritesRequired schema) response can
    (λ plan found. after_missing schema [] (schemes_of plan) (WritesTables schema [] plan) response none
    (WritesTables-yes_or_no schema [] plan response) found)
    (after_schema files name schema (λ r. WithPlanInForm r form (WritesRequired r)) response file
    (ddl_asks form files name looks response answered))

-- files of which none is a table's stay as they are
abbrev EachNamesNoTable : GivenNames → List (List ℕ) → Type 0
EachNamesNoTable names [] = Unit {0}
EachNamesNoTable names (file ∷ files) = NamesNoTable names file × EachNamesNoTable names files

keeps_files : (names : GivenNames) (tables : ℕ) (files : List (List ℕ)) (rest : Allowed) (response : ResponseValue)
    → EachNamesNoTable names files → KeepsFiles names tables files rest response → rest response
keeps_files names tables [] rest response none kept = kept
keeps_files names tables (file ∷ files) rest response none (inl (is, says)) = absurd (none.0 tables is)
keeps_files names tables (file ∷ files) rest response none (inr (passed, kept)) =
    keeps_files names tables files rest response none.1 kept

migrate_asks : (form : Form) (files : Files) (name file : List ℕ) (looks : Looks) (response : ResponseValue)
    → Answers looks (known_files files) (codes "migrate" ∷ form_word form ∷ name ∷ file ∷ []) response
    → WithFile schema_file (known_files files) name
    (λ r. WithFile (rows_file r) (known_files files) file (MigratesHere r form (name ∷ file ∷ []))) response
unfolding form_of form_over_schema form_over_rows after_migrate after_migrate_form normal_form Performs Does
migrate_asks Third files name file looks response answered = answered
migrate_asks Bcnf files name file looks response answered = answered
migrate_asks Fourth files name file looks response answered = answered

pub migrate_answered : (form : Form) (files : Files) (name file : List ℕ)
    → (schema : Schema) (rows : Relation)
    → IsFile schema_file (known_files files) name schema → IsFile (rows_file schema) (known_files files) file rows
    → NamesNoTable [] name → NamesNoTable [] file → RequiresAll schema → HasPlanInForm schema form
    → IsAnswered files (codes "migrate" ∷ form_word form ∷ name ∷ file ∷ [])
migrate_answered form files name file schema rows held_schema held_rows own other none can looks response answered =
    let read = name ∷ file ∷ [] in
    let kept : List AttrSet → Allowed =
    λ plan. KeepsFiles [] (length (schemes_of plan)) read (MigratesRows schema [] (schemes_of plan) rows) in
    after_form schema form (λ plan. WithoutMissing schema [] (schemes_of plan) (kept plan)) response can
    (λ plan found. after_missing schema [] (schemes_of plan) (kept plan) response none
    (λ stays. MigratesRows-yes_or_no schema [] (schemes_of plan) rows response
    (keeps_files [] (length (schemes_of plan)) read (MigratesRows schema [] (schemes_of plan) rows) response (own, (other, tt)) stays))
    found)
    (after_rows files schema file rows (MigratesHere schema form read) response held_rows
    (after_schema files name schema (λ r. WithFile (rows_file r) (known_files files) file (MigratesHere r form read)) response
    held_schema (migrate_asks form files name file looks response answered)))

pub split_answered : (files : Files) (words : List (List ℕ)) (name : List ℕ) (form : Form)
    → ((looks : Looks) (response : ResponseValue) → Answers looks (known_files files) words response
    → WithFile schema_file (known_files files) name (λ r. WithPlanInForm r form (ShowsPlan r)) response)
    → (schema : Schema) → IsFile schema_file (known_files files) name schema → HasPlanInForm schema form
    → IsAnswered files words
split_answered files words name form asks =
    form_answered files words name form ShowsPlan (λ r plan response says. inl (ap (λ (a : ResponseValue). a.status) says)) asks

pub split_bcnf_asks : (files : Files) (name : List ℕ) (looks : Looks) (response : ResponseValue) → Answers looks (known_files files) (codes "split" ∷ codes "bcnf" ∷ name ∷ []) response
    → WithFile schema_file (known_files files) name (λ r. WithPlanInForm r Bcnf (ShowsPlan r)) response
unfolding form_of form_over_schema after_split schema_alone Performs Does AnswersSchema
split_bcnf_asks files name looks response answered = answered

pub split_fourth_asks : (files : Files) (name : List ℕ) (looks : Looks) (response : ResponseValue) → Answers looks (known_files files) (codes "split" ∷ codes "4nf" ∷ name ∷ []) response
    → WithFile schema_file (known_files files) name (λ r. WithPlanInForm r Fourth (ShowsPlan r)) response
unfolding form_of form_over_schema after_split schema_alone Performs Does AnswersSchema
split_fourth_asks files name looks response answered = answered

split_wide_asks : (files : Files) (name : List ℕ) (looks : Looks) (response : ResponseValue) → Answers looks (known_files files) (codes "split" ∷ codes "wide-bcnf" ∷ name ∷ []) response
    → WithFile schema_file (known_files files) name SplitsWide response
unfolding form_of form_over_schema after_split schema_alone Performs Does AnswersSchema
split_wide_asks files name looks response answered = answered

pub split_wide_answered : (files : Files) (name : List ℕ) (schema : Schema) → IsFile schema_file (known_files files) name schema
    → IsAnswered files (codes "split" ∷ codes "wide-bcnf" ∷ name ∷ [])
split_wide_answered files name schema file looks response answered =
    let found = after_schema files name schema SplitsWide response file (split_wide_asks files name looks response answered) in
    inl (ap (λ (a : ResponseValue). a.status) found.2)

exhibit_asks : (files : Files) (name : List ℕ) (looks : Looks) (response : ResponseValue) → Answers looks (known_files files) (codes "exhibit" ∷ name ∷ []) response
    → WithFile schema_file (known_files files) name Exhibits response
unfolding form_of form_over_schema schema_alone Performs Does AnswersSchema
exhibit_asks files name looks response answered = answered

pub exhibit_answered : (files : Files) (name : List ℕ) (schema : Schema) → IsFile schema_file (known_files files) name schema
    → ((k : ℕ) → IsFirstMvd (theory_of schema) k → ⊥) → (IsTooWideToExhibit (theory_in schema) → ⊥) → (HasTooManyRows (theory_in schema) → ⊥) → IsAnswered files (codes "exhibit" ∷ name ∷ [])
exhibit_answered files name schema file functional narrow few looks response answered =
    Exhibits-yes_or_no schema response functional narrow few
    (after_schema files name schema Exhibits response file (exhibit_asks files name looks response answered))

check_keeps_asks : (files : Files) (name file : List ℕ) (looks : Looks) (response : ResponseValue) → Answers looks (known_files files) (codes "check" ∷ codes "keeps" ∷ name ∷ file ∷ []) response
    → WithFile schema_file (known_files files) name (λ r. WithFile (plan_file r) (known_files files) file (λ p. JudgesKeeping r p.schemes)) response
unfolding form_of form_over_schema after_check schema_and_plan Performs Does AnswersPlan
check_keeps_asks files name file looks response answered = answered

pub check_keeps_answered : (files : Files) (name file : List ℕ) (schema : Schema) (plan : NamedSchemes)
    → IsFile schema_file (known_files files) name schema → IsFile (plan_file schema) (known_files files) file plan
    → IsAnswered files (codes "check" ∷ codes "keeps" ∷ name ∷ file ∷ [])
check_keeps_answered files name file schema plan held_schema held_plan looks response answered =
    JudgesKeeping-yes_or_no schema plan.schemes response
    (after_plan files schema file plan (λ p. JudgesKeeping schema p.schemes) response held_plan
    (after_schema files name schema (λ r. WithFile (plan_file r) (known_files files) file (λ p. JudgesKeeping r p.schemes)) response held_schema
    (check_keeps_asks files name file looks response answered)))

pub ddl_plan_asks : (files : Files) (name file : List ℕ) (looks : Looks) (response : ResponseValue) → Answers looks (known_files files) (codes "ddl" ∷ codes "plan" ∷ name ∷ file ∷ []) response
    → WithFile schema_file (known_files files) name (λ r. WithFile (plan_file r) (known_files files) file (λ p. WritesPlan r p.names p.schemes)) response
unfolding form_of form_over_schema after_ddl schema_and_plan Performs Does AnswersPlan
ddl_plan_asks files name file looks response answered = answered

pub ddl_plan_answered : (files : Files) (name file : List ℕ) (schema : Schema) (plan : NamedSchemes)
    → IsFile schema_file (known_files files) name schema → IsFile (plan_file schema) (known_files files) file plan
    → RequiresAll schema → (IsTooLarge schema plan.schemes → ⊥)
    → IsAnswered files (codes "ddl" ∷ codes "plan" ∷ name ∷ file ∷ [])
ddl_plan_answered files name file schema plan held_schema held_plan none small looks response answered =
    let writes = WritesSchemes schema plan.names plan.schemes in
    after_missing schema plan.names plan.schemes (WithoutLoss schema plan.schemes writes) response none
    (λ kept. after_loss schema plan.schemes writes response small
    (λ found. WritesTables-yes_or_no schema plan.names found.0 response found.2) kept)
    (after_plan files schema file plan (λ p. WritesPlan schema p.names p.schemes) response held_plan
    (after_schema files name schema (λ r. WithFile (plan_file r) (known_files files) file (λ p. WritesPlan r p.names p.schemes)) response held_schema
    (ddl_plan_asks files name file looks response answered)))

migrate_plan_asks : (files : Files) (name planned file : List ℕ) (looks : Looks) (response : ResponseValue)
    → Answers looks (known_files files) (codes "migrate" ∷ codes "plan" ∷ name ∷ planned ∷ file ∷ []) response
    → WithFile schema_file (known_files files) name
    (λ r. WithFile (plan_file r) (known_files files) planned
    (λ plan. WithFile (rows_file r) (known_files files) file
    (MigratesPlanHere r plan.names plan.schemes (name ∷ planned ∷ file ∷ [])))) response
unfolding form_of form_over_schema form_over_rows after_migrate after_migrate_plan Performs Does
migrate_plan_asks files name planned file looks response answered = answered

pub migrate_plan_answered : (files : Files) (name planned file : List ℕ) (schema : Schema) (plan : NamedSchemes)
    (rows : Relation)
    → IsFile schema_file (known_files files) name schema
    → IsFile (plan_file schema) (known_files files) planned plan
    → IsFile (rows_file schema) (known_files files) file rows
    → NamesNoTable plan.names name → NamesNoTable plan.names planned → NamesNoTable plan.names file
    → RequiresAll schema → (IsTooLarge schema plan.schemes → ⊥)
    → IsAnswered files (codes "migrate" ∷ codes "plan" ∷ name ∷ planned ∷ file ∷ [])
migrate_plan_answered files name planned file schema plan rows held_schema held_plan held_rows own also other none small
    looks response answered =
    let read = name ∷ planned ∷ file ∷ [] in
    let count = length plan.schemes in
    let moves = MigratesPlan schema plan.names plan.schemes rows in
    after_missing schema plan.names plan.schemes (KeepsFiles plan.names count read moves) response none
    (λ kept. after_loss schema plan.schemes (MigratesRows schema plan.names plan.schemes rows) response small
    (MigratesRows-yes_or_no schema plan.names plan.schemes rows response)
    (keeps_files plan.names count read moves response (own, (also, (other, tt))) kept))
    (after_rows files schema file rows (MigratesPlanHere schema plan.names plan.schemes read) response held_rows
    (after_plan files schema planned plan
    (λ p. WithFile (rows_file schema) (known_files files) file (MigratesPlanHere schema p.names p.schemes read)) response held_plan
    (after_schema files name schema
    (λ r. WithFile (plan_file r) (known_files files) planned
    (λ p. WithFile (rows_file r) (known_files files) file (MigratesPlanHere r p.names p.schemes read))) response held_schema
    (migrate_plan_asks files name planned file looks response answered))))

sample_asks : (files : Files) (word : List ℕ) (looks : Looks) (response : ResponseValue) → is_count word ≡ true → Answers looks (known_files files) (codes "sample" ∷ word ∷ []) response → Samples (number_of word) response
unfolding form_of persons_alone Performs
sample_asks files word looks response is answered =
    let found : SamplesFew (number_of word) response = (rw is at answered) in
    found.1

pub sample_answered : (files : Files) (word : List ℕ) → is_count word ≡ true → IsAnswered files (codes "sample" ∷ word ∷ [])
sample_answered files word is looks response answered =
    let (schema, of_sample, found) = sample_asks files word looks response is answered in
    let within_limit : width_of schema ≤ 13 = omega (arith, ap length of_sample.names) in
    let rows = sample_relation (number_of word) in
    after_form schema Fourth (λ plan. MigratesRows schema [] (schemes_of plan) rows) response
    (small_is_splittable schema Fourth within_limit (inr refl))
    (λ plan gives. MigratesRows-yes_or_no schema [] (schemes_of plan) rows response gives) found
