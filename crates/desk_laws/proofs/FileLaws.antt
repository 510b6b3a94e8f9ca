-- Where the files of `discover`, `import csv` and `rejoin` have their meaning, these commands answer yes or no.
use Rattle.std.proofs.Common.{◌≡◌, ◌≤◌, ◌<◌, ◌⊎◌, ℕ, true, false, List, [], ◌∷◌, length, inl, inr, refl, sym, ap, ◌∙◌, arith, true≢false}
use Rattle.std.proofs.lemmas.Bool.{cases_Bool}
use Rattle.std.proofs.lemmas.Slice.Eq.{bytes_eq-Decides}
use Rattle.std.specs.Prelude.{codes}
use Rattle.std.specs.Str.{bytes_eq}
use Rattle.attr_sets.specs.Sets.{attributes}
use Rattle.candidate_search.specs.declared.side.TooManyLeftSides.{TooManyLeftSides}
use Rattle.csv_rows.specs.declared.part.PartialRows.{PartialRows}
use Rattle.dep_model.specs.Projections.{Covers}
use Rattle.dep_model.specs.Tuples.{Relation}
use Rattle.schema_model.specs.Schemas.{nullable_of, width_of}
use Rattle.schema_model.specs.Schemas.{Schema}
use Rattle.headed_rows.specs.Headings.{HeadedRows, discovered}
use Rattle.lexer.specs.Bytes.{number_of}
use Rattle.near_rules.specs.NearRules.{IsTriedWhole}
use Rattle.fd_search.specs.Keys.{HasTooManyKeys}
use Rattle.headed_rows.specs.declared.headed_rows.Limits.{Limits}
use Rattle.table_join.specs.Answers.{IsBeyondLimit, IsWithinLimit, tables_from_last}
use Rattle.table_join.specs.declared.refusal.JoinRefusal.TheVariants.{NotCovered, TooManyRows}
use Rattle.table_join.specs.Tables.{PartialRelation, tables_of, plan_of_tables}
use Rattle.desk_outside.specs.Files.{Files}
use Rattle.desk_tables.specs.declared.rejoining.TheConstants.{MOST_JOINED_ROWS}
use Rattle.desk_responses.specs.ResponseValues.{ResponseValue, Allowed}
use Rattle.desk_discovery.specs.Discoveries.{FindsRules, FindsSmallRules, HasTooManyLeftSides}
use Rattle.desk_discovery.specs.AllDiscoveries.{FindsAllRules}
use Rattle.desk_discovery.specs.NearDiscoveries.{FindsNearRules}
use Rattle.desk_discovery.specs.KeyDiscoveries.{FindsRowKeys}
use Rattle.desk_inputs.specs.FileKinds.{AreFiles, IsFile, WithFile, WithFiles}
use Rattle.desk_inputs.specs.Headed.{headed_file, headed_file_for, imported, imported_file, whole_file, wholly_discovered}
use Rattle.desk_words.specs.Forms.{after_discover, discover_in_one, form_of, form_over_rows, form_over_schema, schema_and_several, are_one_to_64, after_import, word_alone}
use Rattle.desk_words.specs.Numbers.{is_left_bound, is_short_number, is_row_bound}
use Rattle.desk_imports.specs.Columns.{ImportsColumns}
use Rattle.desk_inputs.specs.Inputs.{schema_file}
use Rattle.desk_cli.specs.Performs.{Answers, AnswersRules, Performs, Does}
use Rattle.desk_inputs.specs.Readings.{known_files}
use Rattle.desk_inputs.specs.Parts.{part_file}
use Rattle.desk_tables.specs.Rejoining.{HaveLookUps, JoinsTables, joined_tables, looked_up_tables}
use Rattle.plan_laws.proofs.JoinAnswers.{answered_rows}
use Rattle.table_join.specs.LookUps.{AreJoinedAndLookedUp}
use Rattle.optional_tables.specs.declared.keyed.KeyedScheme.{KeyedScheme}
use Rattle.desk_laws.specs.Completeness.{IsYesOrNo, IsAnswered}
use Rattle.desk_laws.proofs.CompleteLaws.{after_schema}
use Rattle.desk_laws.proofs.OneFile.{after_file}
use Rattle.desk_laws.proofs.OneInput.{after_parts}
use Rattle.desk_laws.proofs.OneText.{headed_text_once}
use Rattle.desk_tables.specs.OwnFolders.{Looks}

-- ---- rows under a free header
-- each answer after such a file is one on its rows
after_headed : (files : Files) (command : List ℕ) (limits : Limits) (name : List ℕ) (headed : HeadedRows) (rest : HeadedRows → Allowed)
    (response : ResponseValue) → IsFile (headed_file_for command limits) (known_files files) name headed
    → WithFile (headed_file_for command limits) (known_files files) name rest response → rest headed response
after_headed files command limits name headed rest response is answered =
    after_file files name (headed_file_for command limits) (headed_text_once limits) headed rest response is answered

discover_asks : (files : Files) (file : List ℕ) (looks : Looks) (response : ResponseValue)
    → Answers looks (known_files files) (codes "discover" ∷ file ∷ []) response → WithFile headed_file (known_files files) file (FindsRules file) response
unfolding form_of after_discover discover_in_one Performs AnswersRules
discover_asks files file looks response answered = answered

-- a number of attributes is no `references`
references_no_bound : is_left_bound (codes "references") ≡ false
unfolding is_left_bound is_short_number
references_no_bound = refl

bound_no_references : (word : List ℕ) → is_left_bound word ≡ true → bytes_eq word (codes "references") ≡ false
bound_no_references word bounds = elim (cases_Bool (bytes_eq word (codes "references"))) [
  | inl same ↦ absurd (true≢false (sym bounds ∙ ap is_left_bound ((bytes_eq-Decides word (codes "references")).0 same) ∙ references_no_bound))
  | inr other ↦ other
]

small_asks : (files : Files) (word file : List ℕ) (looks : Looks) (response : ResponseValue) → is_left_bound word ≡ true
    → Answers looks (known_files files) (codes "discover" ∷ word ∷ file ∷ []) response
    → WithFile headed_file (known_files files) file (FindsSmallRules (number_of word) file) response
unfolding form_of after_discover discover_in_one Performs AnswersRules
small_asks files word file looks response bounds answered = (rw (bound_no_references word bounds, bounds) at answered)

no_bound : is_left_bound (codes "keys") ≡ false
unfolding is_left_bound is_short_number
no_bound = refl

keys_ask : (files : Files) (file : List ℕ) (looks : Looks) (response : ResponseValue)
    → Answers looks (known_files files) (codes "discover" ∷ codes "keys" ∷ file ∷ []) response
    → WithFile headed_file (known_files files) file (FindsRowKeys file) response
unfolding form_of after_discover discover_in_one Performs AnswersRules
keys_ask files file looks response answered = (rw no_bound at answered)

rules_given : (file : List ℕ) (headed : HeadedRows) (response : ResponseValue)
    → ((refusal : TooManyLeftSides) → HasTooManyLeftSides (length headed.names) headed refusal → ⊥)
    → FindsRules file headed response → IsYesOrNo response.status
rules_given file headed response not_many (inl found) = inl (ap (λ (a : ResponseValue). a.status) found.2)
rules_given file headed response not_many (inr (refusal, many, says)) = absurd (not_many refusal many)

small_given : (most : ℕ) (file : List ℕ) (headed : HeadedRows) (response : ResponseValue)
    → ((refusal : TooManyLeftSides) → HasTooManyLeftSides most headed refusal → ⊥)
    → FindsSmallRules most file headed response → IsYesOrNo response.status
small_given most file headed response not_many (inl found) = inl (ap (λ (a : ResponseValue). a.status) found.2)
small_given most file headed response not_many (inr (refusal, many, says)) = absurd (not_many refusal many)

keys_given : (file : List ℕ) (headed : HeadedRows) (response : ResponseValue)
    → (HasTooManyKeys (length headed.names) headed.rows → ⊥) → FindsRowKeys file headed response
    → IsYesOrNo response.status
keys_given file headed response not_many (inl found) = inl (ap (λ (a : ResponseValue). a.status) found.2)
keys_given file headed response not_many (inr (many, says)) = absurd (not_many many)

near_asks : (files : Files) (limit most file : List ℕ) (looks : Looks) (response : ResponseValue) → is_row_bound limit ≡ true
    → is_left_bound most ≡ true
    → Answers looks (known_files files) (codes "discover" ∷ codes "near" ∷ limit ∷ most ∷ file ∷ []) response
    → WithFile headed_file (known_files files) file (FindsNearRules (number_of limit) (number_of most) file) response
unfolding form_of after_discover discover_in_one Performs AnswersRules
near_asks files limit most file looks response rows bounds answered = (rw (rows, bounds) at answered)

near_given : (limit most : ℕ) (file : List ℕ) (headed : HeadedRows) (response : ResponseValue)
    → IsTriedWhole (length headed.names) most limit headed.rows → FindsNearRules limit most file headed response
    → IsYesOrNo response.status
near_given limit most file headed response whole (inl (ds, errors, rules, tried, says)) =
    inl (ap (λ (a : ResponseValue). a.status) says)
near_given limit most file headed response whole (inr (refusal, is, says)) =
    absurd (whole refusal.right is.right is.exceeds)

pub discover_near_answered : (files : Files) (limit most file : List ℕ) (headed : HeadedRows) → is_row_bound limit ≡ true
    → is_left_bound most ≡ true → IsFile headed_file (known_files files) file headed
    → IsTriedWhole (length headed.names) (number_of most) (number_of limit) headed.rows
    → IsAnswered files (codes "discover" ∷ codes "near" ∷ limit ∷ most ∷ file ∷ [])
discover_near_answered files limit most file headed rows bounds is whole looks response answered =
    near_given (number_of limit) (number_of most) file headed response whole
    (after_headed files (codes "discover") discovered file headed (FindsNearRules (number_of limit) (number_of most) file) response is
    (near_asks files limit most file looks response rows bounds answered))

pub discover_answered : (files : Files) (file : List ℕ) (headed : HeadedRows) → IsFile headed_file (known_files files) file headed
    → ((refusal : TooManyLeftSides) → HasTooManyLeftSides (length headed.names) headed refusal → ⊥)
    → IsAnswered files (codes "discover" ∷ file ∷ [])
discover_answered files file headed is not_many looks response answered =
    rules_given file headed response not_many
    (after_headed files (codes "discover") discovered file headed (FindsRules file) response is
    (discover_asks files file looks response answered))

pub discover_small_answered : (files : Files) (word file : List ℕ) (headed : HeadedRows) → is_left_bound word ≡ true
    → IsFile headed_file (known_files files) file headed
    → ((refusal : TooManyLeftSides) → HasTooManyLeftSides (number_of word) headed refusal → ⊥)
    → IsAnswered files (codes "discover" ∷ word ∷ file ∷ [])
discover_small_answered files word file headed bounds is not_many looks response answered =
    small_given (number_of word) file headed response not_many
    (after_headed files (codes "discover") discovered file headed (FindsSmallRules (number_of word) file) response is
    (small_asks files word file looks response bounds answered))

pub discover_keys_answered : (files : Files) (file : List ℕ) (headed : HeadedRows)
    → IsFile headed_file (known_files files) file headed
    → (HasTooManyKeys (length headed.names) headed.rows → ⊥)
    → IsAnswered files (codes "discover" ∷ codes "keys" ∷ file ∷ [])
discover_keys_answered files file headed is not_many looks response answered =
    keys_given file headed response not_many
    (after_headed files (codes "discover") discovered file headed (FindsRowKeys file) response is
    (keys_ask files file looks response answered))

-- `all` is no number of attributes
all_no_bound : is_left_bound (codes "all") ≡ false
unfolding is_left_bound is_short_number
all_no_bound = refl

all_asks : (files : Files) (file : List ℕ) (looks : Looks) (response : ResponseValue)
    → Answers looks (known_files files) (codes "discover" ∷ codes "all" ∷ file ∷ []) response
    → WithFile whole_file (known_files files) file FindsAllRules response
unfolding form_of after_discover discover_in_one Performs
all_asks files file looks response answered = (rw all_no_bound at answered)

pub discover_all_answered : (files : Files) (file : List ℕ) (headed : HeadedRows) → IsFile whole_file (known_files files) file headed
    → IsAnswered files (codes "discover" ∷ codes "all" ∷ file ∷ [])
discover_all_answered files file headed is looks response answered =
    let found = after_headed files (codes "discover") wholly_discovered file headed FindsAllRules response is (all_asks files file looks response answered) in
    inl (ap (λ (a : ResponseValue). a.status) found.2)

import_asks : (files : Files) (file : List ℕ) (looks : Looks) (response : ResponseValue)
    → Answers looks (known_files files) (codes "import" ∷ codes "csv" ∷ file ∷ []) response
    → WithFile imported_file (known_files files) file ImportsColumns response
unfolding form_of after_import word_alone Performs
import_asks files file looks response answered = answered

pub import_answered : (files : Files) (file : List ℕ) (headed : HeadedRows) → IsFile imported_file (known_files files) file headed
    → IsAnswered files (codes "import" ∷ codes "csv" ∷ file ∷ [])
import_answered files file headed is looks response answered =
    let found = after_headed files (codes "import") imported file headed ImportsColumns response is (import_asks files file looks response answered) in
    inl (ap (λ (a : ResponseValue). a.status) found.2)

-- ---- the join of tables of some columns
-- in their own order or from the last the joins of the first tables keep within the limit
abbrev KeepsInEither : ℕ → List PartialRelation → Type 0
KeepsInEither n tables = IsWithinLimit n MOST_JOINED_ROWS tables ⊎ IsWithinLimit n MOST_JOINED_ROWS (tables_from_last tables)

within_goes : (n : ℕ) (tables : List PartialRelation) → IsWithinLimit n MOST_JOINED_ROWS tables → IsBeyondLimit n MOST_JOINED_ROWS tables → ⊥
within_goes n tables within beyond = over_and_under _ MOST_JOINED_ROWS (within beyond.0 beyond.1.positive beyond.1.among) beyond.1.beyond
  where
    over_and_under : (m most : ℕ) → m ≤ most → most < m → ⊥
    over_and_under m most small many = omega (arith, small, many)

either_goes : (n : ℕ) (tables : List PartialRelation) → KeepsInEither n tables → IsBeyondLimit n MOST_JOINED_ROWS tables
    → IsBeyondLimit n MOST_JOINED_ROWS (tables_from_last tables) → ⊥
either_goes n tables (inl own) first second = within_goes n tables own first
either_goes n tables (inr last) first second = within_goes n (tables_from_last tables) last second

joins_tables : (s : Schema) (tables : List PartialRelation) (response : ResponseValue)
    → ((keyed : List KeyedScheme) (counts : List ℕ) → HaveLookUps s tables keyed counts → ⊥)
    → Covers (width_of s) (plan_of_tables tables) → KeepsInEither (width_of s) tables → JoinsTables s tables response
    → IsYesOrNo response.status
joins_tables s tables response none covers small (inl (keyed, (counts, have, looks_up))) = absurd (none keyed counts have)
joins_tables s tables response none covers small (inr (not_so, inl (rows, is, says))) = inl (ap (λ (a : ResponseValue). a.status) says)
joins_tables s tables response none covers small (inr (not_so, inr (NotCovered a, first, says))) =
    absurd (first.uncovered (covers a first.within))
joins_tables s tables response none covers small (inr (not_so, inr (TooManyRows k, large, says))) =
    absurd (either_goes (width_of s) tables small (k, large.1.0) large.1.1)

pub rejoin_asks : (files : Files) (name : List ℕ) (names : List (List ℕ)) (looks : Looks) (response : ResponseValue) → are_one_to_64 names ≡ true
    → Answers looks (known_files files) (codes "rejoin" ∷ name ∷ names) response
    → WithFile schema_file (known_files files) name (λ r. WithFiles (part_file r) (known_files files) names (λ parts. JoinsTables r (tables_of parts))) response
unfolding form_of form_over_schema form_over_rows schema_and_several Performs Does
rejoin_asks files name names looks response within_limit answered = (rw within_limit at answered)

pub rejoin_answered : (files : Files) (name : List ℕ) (names : List (List ℕ)) (schema : Schema) (parts : List PartialRows)
    → IsFile schema_file (known_files files) name schema → are_one_to_64 names ≡ true → AreFiles (part_file schema) (known_files files) names parts
    → ((keyed : List KeyedScheme) (counts : List ℕ) → HaveLookUps schema (tables_of parts) keyed counts → ⊥)
    → Covers (width_of schema) (plan_of_tables (tables_of parts))
    → KeepsInEither (width_of schema) (tables_of parts)
    → IsAnswered files (codes "rejoin" ∷ name ∷ names)
rejoin_answered files name names schema parts file within_limit are none covers small looks response answered =
    joins_tables schema (tables_of parts) response none covers small
    (after_parts files schema names parts (JoinsTables schema) response are
    (after_schema files name schema
    (λ r. WithFiles (part_file r) (known_files files) names (λ others. JoinsTables r (tables_of others))) response file
    (rejoin_asks files name names looks response within_limit answered)))

pub rejoin_answered_looking_up : (files : Files) (name : List ℕ) (names : List (List ℕ)) (schema : Schema) (parts : List PartialRows)
    (keyed : List KeyedScheme) (counts : List ℕ) (rows : Relation) → IsFile schema_file (known_files files) name schema
    → are_one_to_64 names ≡ true → AreFiles (part_file schema) (known_files files) names parts
    → HaveLookUps schema (tables_of parts) keyed counts → Covers (width_of schema) (plan_of_tables (tables_of parts))
    → AreJoinedAndLookedUp (width_of schema) (nullable_of schema) MOST_JOINED_ROWS
    (joined_tables schema (tables_of parts) keyed) (looked_up_tables schema (tables_of parts) keyed counts) rows
    → IsAnswered files (codes "rejoin" ∷ name ∷ names)
rejoin_answered_looking_up files name names schema parts keyed counts rows file within_limit are have covers joined looks response answered =
    inl (ap (λ (a : ResponseValue). a.status)
    (answered_rows schema (tables_of parts) keyed counts have rows response covers joined
    (after_parts files schema names parts (JoinsTables schema) response are
    (after_schema files name schema
    (λ r. WithFiles (part_file r) (known_files files) names (λ others. JoinsTables r (tables_of others))) response file
    (rejoin_asks files name names looks response within_limit answered)))))
