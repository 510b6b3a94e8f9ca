-- The refusals of what is asked of rows under names of their own, of SQL, and of rows of a schema; and pages, which
-- refuse nothing.
use Rattle.std.proofs.Common.{◌≡◌, ℕ, Bool, true, false, List, [], ◌++◌, Option, Some, None, Result, Ok, Err, take, refl, inl, inr}
use Rattle.std.specs.Prelude.{All, Contains, codes, slice_index_or}
use Rattle.std.specs.Fmt.{decimal}
use Rattle.dep_model.specs.Tuples.{Relation}
use Rattle.schema_model.specs.Names.{IsName}
use Rattle.schema_model.specs.Schemas.{Schema, names_of}
use Rattle.schema_model.proofs.PlainLemmas.{IsPlain, plain_both}
use Rattle.lexer.specs.Lines.{without_mark}
use Rattle.headed_rows.specs.Headers.{naming_under}
use Rattle.headed_rows.specs.Headings.{HeadedRows}
use Rattle.plan_printer.specs.NamedPlans.{NamedSchemes}
use Rattle.sql_lexemes.specs.Places.{column_after, line_after}
use Rattle.sql_lexemes.specs.declared.dialect.Dialect.{Dialect}
use Rattle.sql_definitions.specs.Wanted.{TableName, wanted_table}
use Rattle.sql_definitions.specs.declared.refusal.Reason.{Reason}
use Rattle.sql_definitions.specs.declared.refusal.Reason.TheVariants as reason
use Rattle.sql_definitions.specs.declared.refusal.Refusal.{Refusal}
use Rattle.sql_schemas.specs.Texts.{imported_text}
use Rattle.desk_discovery.specs.AllDiscoveries.{FindsAllRules}
use Rattle.desk_discovery.specs.Discoveries.{FindsRules, FindsSmallRules, GivesRules, GivesSmallRules, RefusesRules, column_text, left_sides_text}
use Rattle.desk_discovery.specs.KeyDiscoveries.{FindsRowKeys, too_many_row_keys_text}
use Rattle.desk_discovery.specs.NearDiscoveries.{FindsNearRules}
use Rattle.desk_imports.specs.Columns.{ImportsColumns}
use Rattle.desk_imports.specs.Imports.{ImportsTable, import_refusal_text, import_response, place_text, reason_number, reason_text, wanted_response}
use Rattle.desk_measures.specs.Findings.{status_of}
use Rattle.desk_measures.specs.Keeping.{KeepsRows}
use Rattle.desk_measures.specs.Measures.{MeasuresRows}
use Rattle.desk_measures.specs.Offences.{ListsOffences, ListsOffencesByRow}
use Rattle.desk_reports.specs.Reports.{ReportsPlan, ReportsSchema}
use Rattle.desk_responses.specs.ResponseValues.{ResponseValue, Says}
use Rattle.desk_responses.specs.declared.status.Status.TheVariants.{Refused}
use Rattle.reason_laws.proofs.NumberTexts.{decimal_plain}
use Rattle.refusal_laws.specs.Refusals.{IsRefusal}
use Rattle.refusal_laws.proofs.PlainTexts.{at_position, names_plain, numbered_plain, spelling_plain}
use Rattle.refusal_laws.proofs.QuestionRefusals.{multivalued}
use Rattle.refusal_laws.proofs.RefusalLemmas.{RefusesSo, more, named, refusal, says_no, says_plain, says_refused, says_yes}

-- ---- rows under names of their own
module _ (names : List (List ℕ)) (file : List ℕ) (given : Contains names file) (headed : HeadedRows)
    (are_names : All IsName headed.names) where
  column_plain : (a : ℕ) → IsPlain (column_text headed.names a)
  unfolding column_text
  column_plain a =
      let name = slice_index_or headed.names a [] in
      spelling_plain (naming_under headed.names) name
      (at_position IsPlain headed.names [] refl (names_plain headed.names are_names) a)

  sides_refused : (a : ℕ) → RefusesSo names (Says Refused (left_sides_text file headed.names a))
  sides_refused a =
      let front = codes "discover 7 at " ++ file in
      let column = column_text headed.names a in
      says_refused names (left_sides_text file headed.names a)
      (refusal names (front ++ codes ": too many left sides for " ++ column)
      (more names (front ++ codes ": too many left sides for ") column
      (more names front (codes ": too many left sides for ") (named names (codes "discover 7 at ") file refl given) refl) (column_plain a)))

  rules_refused : (most : ℕ) → RefusesSo names (RefusesRules most file headed)
  rules_refused most response (why, has, said) refused = sides_refused why.right response said refused

  pub rules_refuse : RefusesSo names (FindsRules file headed)
  rules_refuse response (inl (ds, are, said)) refused = says_yes names _ response said refused
  rules_refuse response (inr refuses) refused = rules_refused _ response refuses refused

  pub small_rules_refuse : (most : ℕ) → RefusesSo names (FindsSmallRules most file headed)
  small_rules_refuse most response (inl (ds, are, said)) refused = says_yes names _ response said refused
  small_rules_refuse most response (inr refuses) refused = rules_refused most response refuses refused

  pub near_rules_refuse : (limit most : ℕ) → RefusesSo names (FindsNearRules limit most file headed)
  near_rules_refuse limit most response (inl (ds, errors, are, tried, said)) refused = says_yes names _ response said refused
  near_rules_refuse limit most response (inr (why, first, said)) refused = sides_refused why.right response said refused

  pub row_keys_refuse : RefusesSo names (FindsRowKeys file headed)
  row_keys_refuse response (inl (keys, are, said)) refused = says_yes names _ response said refused
  row_keys_refuse response (inr (many, said)) refused =
      says_refused names (too_many_row_keys_text file)
      (refusal names (codes "discover 7 at " ++ file ++ codes ": too many keys")
      (more names (codes "discover 7 at " ++ file) (codes ": too many keys") (named names (codes "discover 7 at ") file refl given) refl))
      response said refused

pub all_rules_refuse : (names : List (List ℕ)) (headed : HeadedRows) → RefusesSo names (FindsAllRules headed)
all_rules_refuse names headed response (ds, are, said) refused = says_yes names _ response said refused

pub columns_refuse : (names : List (List ℕ)) (headed : HeadedRows) → RefusesSo names (ImportsColumns headed)
columns_refuse names headed response (s, is, said) refused = says_yes names _ response said refused

-- ---- SQL
reason_plain : (why : Reason) → IsPlain (reason_text why)
reason_plain reason.StrangeByte = refl
reason_plain reason.OpenQuote = refl
reason_plain reason.OpenComment = refl
reason_plain reason.NoSuchTable = refl
reason_plain reason.TableDefinedTwice = refl
reason_plain reason.BadName = refl
reason_plain reason.NameDeclaredTwice = refl
reason_plain reason.ExpectedName = refl
reason_plain reason.ExpectedBracket = refl
reason_plain reason.ExpectedCommaOrBracket = refl
reason_plain reason.ExpectedKey = refl
reason_plain reason.TooManyAttributes = refl
reason_plain reason.TooManyDependencies = refl
reason_plain reason.UnknownName = refl
reason_plain reason.TableAltered = refl

place_plain : (text : List ℕ) (why : Reason) (place : ℕ) → IsPlain (place_text text why place)
place_plain text reason.NoSuchTable place = refl
place_plain text why place =
    let line = decimal (line_after (take place text)) in
    plain_both (line ++ codes ":") (decimal (column_after (take place text)))
    (plain_both line (codes ":") (decimal_plain (line_after (take place text))) refl) (decimal_plain (column_after (take place text)))

module _ (names : List (List ℕ)) (file : List ℕ) (given : Contains names file) where
  import_refusal : (text : List ℕ) (why : Refusal) → IsRefusal names (import_refusal_text file text why)
  import_refusal text why =
      let number = reason_number why.reason in
      let front = codes "import " ++ decimal number ++ codes " at " in
      let place = place_text text why.reason why.place in
      let placed = front ++ file ++ codes ":" ++ place in
      refusal names (placed ++ codes " " ++ reason_text why.reason)
      (more names (placed ++ codes " ") (reason_text why.reason)
      (more names placed (codes " ")
      (more names (front ++ file ++ codes ":") place
      (more names (front ++ file) (codes ":")
      (named names front file (numbered_plain (codes "import ") number (codes " at ") refl refl) given) refl)
      (place_plain text why.reason why.place)) refl) (reason_plain why.reason))

  imported : (text : List ℕ) (read : Result (List ℕ) Refusal) (response : ResponseValue) → response ≡ import_response file text read
      → response.status ≡ Refused → IsRefusal names response.text
  imported text (Ok printed) response said refused = says_yes names printed response said refused
  imported text (Err why) response said refused =
      says_refused names (import_refusal_text file text why) (import_refusal text why) response said refused

  wanted : (dialect : Dialect) (text : List ℕ) (table : Option TableName) (response : ResponseValue)
      → response ≡ wanted_response dialect file text table → response.status ≡ Refused → IsRefusal names response.text
  wanted dialect text None response said refused = says_plain names (codes "bad table name") refl response said refused
  wanted dialect text (Some table) response said refused =
      imported (without_mark text) (imported_text dialect table (without_mark text)) response said refused

  pub import_refuses : (dialect : Dialect) (table text : List ℕ) → RefusesSo names (ImportsTable dialect table file text)
  import_refuses dialect table text response said refused = wanted dialect text (wanted_table table) response said refused

-- ---- rows of a schema
by_status : (names : List (List ℕ)) (clean : Bool) (text : List ℕ) → RefusesSo names (Says (status_of clean) text)
by_status names true text response said refused = says_yes names text response said refused
by_status names false text response said refused = says_no names text response said refused

module _ (names : List (List ℕ)) (s : Schema) (rows : Relation) where
  pub measure_refuses : RefusesSo names (MeasuresRows s rows)
  measure_refuses response (clean, text, finds, said) refused = by_status names clean text response said refused

  pub offences_refuse : RefusesSo names (ListsOffences s rows)
  offences_refuse response (clean, text, finds, said) refused = by_status names clean _ response said refused

  pub offences_by_row_refuse : RefusesSo names (ListsOffencesByRow s rows)
  offences_by_row_refuse response (clean, text, finds, said) refused = by_status names clean _ response said refused

  pub kept_refuses : All IsName (names_of s) → RefusesSo names (KeepsRows s rows)
  kept_refuses are_names response (inl (kept, are, said)) refused = says_yes names _ response said refused
  kept_refuses are_names response (inr (dep, first, said)) refused = multivalued names s are_names dep response said refused

-- ---- pages
module _ (names : List (List ℕ)) (s : Schema) where
  pub page_refuses : (file : List ℕ) → RefusesSo names (ReportsSchema file s)
  page_refuses file response (sections, are, said) refused = says_yes names _ response said refused

  pub plan_page_refuses : (file planned : List ℕ) (plan : NamedSchemes) → RefusesSo names (ReportsPlan file planned s plan)
  plan_page_refuses file planned plan response (sections, are, said) refused = says_yes names _ response said refused
