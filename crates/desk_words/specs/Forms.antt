-- The commands, and the words that form them: for `parse`, and for what words allow
-- (`desk_cli/Performs`).
use Rattle.std.specs.Prelude.{ℕ, Bool, ◌&&◌, Option, Some, None, List, [], ◌∷◌, length, nat_lt, nat_le, if◌then◌else◌, codes, option_map}
use Rattle.std.specs.Option.{option_and_then}
use Rattle.std.specs.Str.{bytes_eq}
use Rattle.dep_model.specs.declared.form.Form.{Form as NormalForm}
use Rattle.dep_model.specs.declared.form.Form.TheVariants.{Third, Bcnf, Fourth}
use Rattle.which_form.specs.declared.forms.TestedForm.{TestedForm}
use Rattle.which_form.specs.declared.forms.TestedForm.TheVariants.{Second, Higher}
use Rattle.sql_lexemes.specs.declared.dialect.Dialect.{Dialect}
use Rattle.sql_lexemes.specs.declared.dialect.Dialect.TheVariants.{Sqlite, Postgres}
use Rattle.lexer.specs.Bytes.{number_of}
use Rattle.desk_words.specs.Numbers.{is_count, is_left_bound, is_row_bound}
use Rattle.desk_words.specs.declared.command.TheConstants.{MOST_FILES}

-- what is asked of a schema alone, with the words that go with it
pub data SchemaQuestion : Type 0 where
  -- whether it implies a goal
  implies : List ℕ → SchemaQuestion
  -- its cover
  cover : SchemaQuestion
  -- its cover, with one functional dependency for each left side
  cover_canonical : SchemaQuestion
  -- what a set of attributes determines, and its blocks
  basis : List ℕ → SchemaQuestion
  -- how the closure of a set of attributes comes about
  closure : List ℕ → SchemaQuestion
  -- the functional dependencies inside a set of attributes
  project : List ℕ → SchemaQuestion
  -- its keys
  keys : SchemaQuestion
  -- the normal form of the scheme of all its attributes
  form_of_all : SchemaQuestion
  -- whether a set of attributes is a key
  check_key : List ℕ → SchemaQuestion
  -- a plan in third normal form
  synthesize : SchemaQuestion
  -- a plan in third normal form, of the fewest schemes
  synthesize_fewest : SchemaQuestion
  -- a plan in Boyce-Codd or fourth normal form
  split : NormalForm → SchemaQuestion
  -- a plan in Boyce-Codd normal form, at any width
  split_wide : SchemaQuestion
  -- a relation that obeys just what it implies
  exhibit : SchemaQuestion
  -- whether it implies a goal, with a short derivation
  explain_implies : List ℕ → SchemaQuestion
  -- its cover, and how that comes about
  explain_cover : SchemaQuestion
  -- its keys, what they have in common, and what is in none of them
  explain_keys : SchemaQuestion
  -- a plan in third normal form, and how it comes about
  explain_synthesize : SchemaQuestion
  -- a plan in third normal form, of the fewest schemes, and how it comes about
  explain_fewest : SchemaQuestion
  -- a plan in Boyce-Codd or fourth normal form, and how it comes about
  explain_split : NormalForm → SchemaQuestion
  -- SQL tables in a normal form
  ddl : NormalForm → SchemaQuestion
  -- queries for what breaks each rule in a table of this name
  sql_check : List ℕ → SchemaQuestion
  -- queries for how far a table of this name is from legal
  sql_measure : List ℕ → SchemaQuestion
  -- statements that make the tables of a normal form from a table of this name
  sql_migrate : NormalForm → List ℕ → SchemaQuestion
  -- a picture of the tables of a normal form
  draw : NormalForm → SchemaQuestion

-- what is asked of a schema and a plan
pub data PlanQuestion : Type 0 where
  -- whether the plan loses nothing
  check_join : PlanQuestion
  -- whether its schemes are in a normal form
  check_form : TestedForm → PlanQuestion
  -- whether it keeps the functional dependencies
  check_keeps : PlanQuestion
  -- the keys of its schemes
  keys_of_plan : PlanQuestion
  -- the normal forms of its schemes
  forms_of_plan : PlanQuestion
  -- its SQL tables
  ddl_plan : PlanQuestion
  -- statements that make its tables from a table of this name
  sql_migrate_plan : List ℕ → PlanQuestion
  -- a picture of its tables
  draw_plan : PlanQuestion

-- what is asked of a schema and another
pub data PairQuestion : Type 0 where
  -- whether the two say the same
  check_same : PairQuestion
  -- whether the other is a minimal cover of it
  check_cover : PairQuestion
  -- whether the other is a canonical cover of it
  check_cover_canonical : PairQuestion

-- what is asked of a schema and rows
pub data RowsQuestion : Type 0 where
  -- whether they are legal
  check_rows : RowsQuestion
  -- which of them break a rule, by classes
  offences : RowsQuestion
  -- which of them break a rule, row by row
  offences_by_row : RowsQuestion
  -- those that break no rule
  kept : RowsQuestion

-- which rules are sought in the rows of a file
pub data RulesQuestion : Type 0 where
  -- the minimal functional dependencies
  minimal_rules : RulesQuestion
  -- those of at most so many attributes on the left
  small_rules : ℕ → RulesQuestion
  -- the minimal keys
  keys_of_rows : RulesQuestion
  -- those that hold but for so many rows, of so many attributes on the left
  near_rules : ℕ → ℕ → RulesQuestion

-- what is asked of a schema, with the files that are read after its own, in their order
pub data Task : Type 0 where
  -- a question to it alone
  of_schema : SchemaQuestion → Task
  -- a question to it and the plan of a file
  of_plan : List ℕ → PlanQuestion → Task
  -- a question to it and the rows of a file
  of_rows : List ℕ → RowsQuestion → Task
  -- how far the rows of a file are from legal, whatever their values are
  measure : List ℕ → Task
  -- the rows of the second file, as tables in a normal form of it, in the first file
  migrate : List ℕ → List ℕ → NormalForm → Task
  -- the rows of the third file, as tables of the plan of the second; it is in the first file
  migrate_plan : List ℕ → List ℕ → List ℕ → Task
  -- the rows of a file, as tables in a normal form of it, in a folder of their own
  migrate_into : List ℕ → NormalForm → List ℕ → Task
  -- the rows of the second file, as tables of the plan of the first, in a folder of their own
  migrate_plan_into : List ℕ → List ℕ → List ℕ → Task
  -- whether the certificate of a file proves a goal
  check_proof : List ℕ → List ℕ → Task
  -- whether the derivation of a file ends with a goal
  check_derivation : List ℕ → List ℕ → Task
  -- a question to it, in the first file, and the schema of a second file
  of_pair : List ℕ → List ℕ → PairQuestion → Task
  -- the natural join of the tables of files
  rejoin : List (List ℕ) → Task
  -- a page of what is said of it, in the first file
  report : List ℕ → Task
  -- a page of what is said of it, in the first file, and of the plan of a second file
  report_plan : List ℕ → List ℕ → Task

-- a command
pub data CommandForm : Type 0 where
  -- a schema file, and what is asked of it
  over_schema : List ℕ → Task → CommandForm
  -- the rules that the rows of a file obey
  discover : RulesQuestion → List ℕ → CommandForm
  -- all dependencies that the rows of a file obey
  discover_all : List ℕ → CommandForm
  -- which columns of files reference which, over the rows of all of them
  discover_references : List (List ℕ) → CommandForm
  -- whether each row of a file, by columns of these names, has its match in a second file, by columns of others
  check_references : List ℕ → List ℕ → List ℕ → List ℕ → CommandForm
  -- a schema of the columns of a file of rows
  import_csv : List ℕ → CommandForm
  -- a schema of a table that the SQL of a file defines
  import_sql : Dialect → List ℕ → List ℕ → CommandForm
  -- so many invented persons, as tables in fourth normal form
  sample : ℕ → CommandForm
  -- the commands, in a few lines
  help : CommandForm
  -- the number of the release
  version : CommandForm

-- ---- words after those of a command
-- a schema alone
unfoldable pub schema_alone : SchemaQuestion → List (List ℕ) → Option CommandForm
schema_alone question (schema ∷ []) = Some (over_schema schema (of_schema question))
schema_alone question _ = None

-- a schema, and one word more that goes with the question
unfoldable pub schema_and_word : (List ℕ → SchemaQuestion) → List (List ℕ) → Option CommandForm
schema_and_word question (schema ∷ word ∷ []) = Some (over_schema schema (of_schema (question word)))
schema_and_word question _ = None

-- a schema and a plan
unfoldable pub schema_and_plan : PlanQuestion → List (List ℕ) → Option CommandForm
schema_and_plan question (schema ∷ plan ∷ []) = Some (over_schema schema (of_plan plan question))
schema_and_plan question _ = None

-- a schema, a plan, and one word more that goes with the question
unfoldable pub schema_and_plan_and_word : (List ℕ → PlanQuestion) → List (List ℕ) → Option CommandForm
schema_and_plan_and_word question (schema ∷ plan ∷ word ∷ []) =
    Some (over_schema schema (of_plan plan (question word)))
schema_and_plan_and_word question _ = None

-- a schema and rows
unfoldable pub schema_and_rows : RowsQuestion → List (List ℕ) → Option CommandForm
schema_and_rows question (schema ∷ rows ∷ []) = Some (over_schema schema (of_rows rows question))
schema_and_rows question _ = None

-- a schema, and one file more
unfoldable pub schema_and_file : (List ℕ → Task) → List (List ℕ) → Option CommandForm
schema_and_file task (schema ∷ file ∷ []) = Some (over_schema schema (task file))
schema_and_file task _ = None

-- a schema and two words more
unfoldable pub schema_and_two : (List ℕ → List ℕ → Task) → List (List ℕ) → Option CommandForm
schema_and_two task (schema ∷ first ∷ second ∷ []) = Some (over_schema schema (task first second))
schema_and_two task _ = None

-- two schemas
unfoldable pub two_schemas : PairQuestion → List (List ℕ) → Option CommandForm
two_schemas question (schema ∷ other ∷ []) = Some (over_schema schema (of_pair schema other question))
two_schemas question _ = None

-- from one word to the most files
abbrev pub are_one_to_64 : List (List ℕ) → Bool
are_one_to_64 words = nat_lt 0 (length words) && nat_le (length words) MOST_FILES

-- a schema, and from one word to the most files more
unfoldable pub schema_and_several : (List (List ℕ) → Task) → List (List ℕ) → Option CommandForm
schema_and_several task [] = None
schema_and_several task (schema ∷ words) = if are_one_to_64 words then Some (over_schema schema (task words)) else None

-- from one file to the most files
unfoldable pub several_files : (List (List ℕ) → CommandForm) → List (List ℕ) → Option CommandForm
several_files form words = if are_one_to_64 words then Some (form words) else None

-- two files, each with names of its columns
unfoldable pub two_named_files : (List ℕ → List ℕ → List ℕ → List ℕ → CommandForm) → List (List ℕ) → Option CommandForm
two_named_files form (file ∷ names ∷ other ∷ other_names ∷ []) = Some (form file names other other_names)
two_named_files form _ = None

-- one word
unfoldable pub word_alone : (List ℕ → CommandForm) → List (List ℕ) → Option CommandForm
word_alone form (word ∷ []) = Some (form word)
word_alone form _ = None

-- no word
unfoldable pub no_more_arguments : CommandForm → List (List ℕ) → Option CommandForm
no_more_arguments form [] = Some form
no_more_arguments form _ = None

-- ---- words with a meaning of their own
-- a normal form
unfoldable pub normal_form : List ℕ → Option NormalForm
normal_form word =
    if bytes_eq word (codes "3nf") then Some Third
    else if bytes_eq word (codes "bcnf") then Some Bcnf
    else if bytes_eq word (codes "4nf") then Some Fourth
    else None

-- a normal form that a scheme is tested for
unfoldable pub tested_form : List ℕ → Option TestedForm
tested_form word =
    if bytes_eq word (codes "2nf") then Some Second
    else option_map (λ form. Higher form) (normal_form word)

-- so many persons
unfoldable pub persons_alone : List (List ℕ) → Option CommandForm
persons_alone (word ∷ []) = if is_count word then Some (sample (number_of word)) else None
persons_alone _ = None

-- ---- the words of a command
-- after `check form`
unfoldable pub after_check_form : List (List ℕ) → Option CommandForm
after_check_form [] = None
after_check_form (what ∷ rest) =
    option_and_then (λ form. schema_and_plan (check_form form) rest) (tested_form what)

-- after `check cover`, a word and two schemas
abbrev pub check_cover_after_word : List ℕ → List ℕ → List ℕ → Option CommandForm
check_cover_after_word what schema other =
    if bytes_eq what (codes "canonical") then Some (over_schema schema (of_pair schema other check_cover_canonical))
    else None

-- after `check cover`
unfoldable pub after_check_cover : List (List ℕ) → Option CommandForm
after_check_cover (schema ∷ other ∷ []) = Some (over_schema schema (of_pair schema other check_cover))
after_check_cover (what ∷ schema ∷ other ∷ []) = check_cover_after_word what schema other
after_check_cover _ = None

-- after `check`
unfoldable pub after_check : List (List ℕ) → Option CommandForm
after_check [] = None
after_check (what ∷ rest) =
    if bytes_eq what (codes "proof") then schema_and_two check_proof rest
    else if bytes_eq what (codes "derivation") then schema_and_two check_derivation rest
    else if bytes_eq what (codes "rows") then schema_and_rows check_rows rest
    else if bytes_eq what (codes "key") then schema_and_word check_key rest
    else if bytes_eq what (codes "join") then schema_and_plan check_join rest
    else if bytes_eq what (codes "form") then after_check_form rest
    else if bytes_eq what (codes "keeps") then schema_and_plan check_keeps rest
    else if bytes_eq what (codes "same") then two_schemas check_same rest
    else if bytes_eq what (codes "cover") then after_check_cover rest
    else if bytes_eq what (codes "references") then two_named_files check_references rest
    else None

-- after `cover`, a word and a schema
abbrev pub cover_after_word : List ℕ → List ℕ → Option CommandForm
cover_after_word what schema =
    if bytes_eq what (codes "canonical") then Some (over_schema schema (of_schema cover_canonical)) else None

-- after `cover`
unfoldable pub after_cover : List (List ℕ) → Option CommandForm
after_cover (schema ∷ []) = Some (over_schema schema (of_schema cover))
after_cover (what ∷ schema ∷ []) = cover_after_word what schema
after_cover _ = None

-- after `keys`
unfoldable pub after_keys : List (List ℕ) → Option CommandForm
after_keys (schema ∷ []) = Some (over_schema schema (of_schema keys))
after_keys (schema ∷ plan ∷ []) = Some (over_schema schema (of_plan plan keys_of_plan))
after_keys _ = None

-- after `form`
unfoldable pub after_form : List (List ℕ) → Option CommandForm
after_form (schema ∷ []) = Some (over_schema schema (of_schema form_of_all))
after_form (schema ∷ plan ∷ []) = Some (over_schema schema (of_plan plan forms_of_plan))
after_form _ = None

-- after `synthesize`, a word and a schema
abbrev pub synthesize_after_word : List ℕ → List ℕ → Option CommandForm
synthesize_after_word what schema =
    if bytes_eq what (codes "fewest") then Some (over_schema schema (of_schema synthesize_fewest)) else None

-- after `synthesize`
unfoldable pub after_synthesize : List (List ℕ) → Option CommandForm
after_synthesize (schema ∷ []) = Some (over_schema schema (of_schema synthesize))
after_synthesize (what ∷ schema ∷ []) = synthesize_after_word what schema
after_synthesize _ = None

-- after `split`
unfoldable pub after_split : List (List ℕ) → Option CommandForm
after_split [] = None
after_split (what ∷ rest) =
    if bytes_eq what (codes "bcnf") then schema_alone (split Bcnf) rest
    else if bytes_eq what (codes "4nf") then schema_alone (split Fourth) rest
    else if bytes_eq what (codes "wide-bcnf") then schema_alone split_wide rest
    else None

-- after `explain synthesize`, a word and a schema
abbrev pub explain_synthesize_after_word : List ℕ → List ℕ → Option CommandForm
explain_synthesize_after_word what schema =
    if bytes_eq what (codes "fewest") then Some (over_schema schema (of_schema explain_fewest)) else None

-- after `explain synthesize`
unfoldable pub after_explain_synthesize : List (List ℕ) → Option CommandForm
after_explain_synthesize (schema ∷ []) = Some (over_schema schema (of_schema explain_synthesize))
after_explain_synthesize (what ∷ schema ∷ []) = explain_synthesize_after_word what schema
after_explain_synthesize _ = None

-- after `explain split`
unfoldable pub after_explain_split : List (List ℕ) → Option CommandForm
after_explain_split [] = None
after_explain_split (what ∷ rest) =
    if bytes_eq what (codes "bcnf") then schema_alone (explain_split Bcnf) rest
    else if bytes_eq what (codes "4nf") then schema_alone (explain_split Fourth) rest
    else None

-- after `explain`
unfoldable pub after_explain : List (List ℕ) → Option CommandForm
after_explain [] = None
after_explain (what ∷ rest) =
    if bytes_eq what (codes "implies") then schema_and_word explain_implies rest
    else if bytes_eq what (codes "cover") then schema_alone explain_cover rest
    else if bytes_eq what (codes "keys") then schema_alone explain_keys rest
    else if bytes_eq what (codes "synthesize") then after_explain_synthesize rest
    else if bytes_eq what (codes "split") then after_explain_split rest
    else None

-- after `ddl`
unfoldable pub after_ddl : List (List ℕ) → Option CommandForm
after_ddl [] = None
after_ddl (what ∷ rest) =
    if bytes_eq what (codes "plan") then schema_and_plan ddl_plan rest
    else option_and_then (λ form. schema_alone (ddl form) rest) (normal_form what)

-- a schema and what is asked of it, where a word is `into`
abbrev pub where_into : List ℕ → List ℕ → Task → Option CommandForm
where_into word schema task = if bytes_eq word (codes "into") then Some (over_schema schema task) else None

-- after `migrate plan`
unfoldable pub after_migrate_plan : List (List ℕ) → Option CommandForm
after_migrate_plan (schema ∷ plan ∷ rows ∷ []) = Some (over_schema schema (migrate_plan schema plan rows))
after_migrate_plan (schema ∷ plan ∷ rows ∷ word ∷ folder ∷ []) =
    where_into word schema (migrate_plan_into plan rows folder)
after_migrate_plan _ = None

-- after `migrate` and a normal form
unfoldable pub after_migrate_form : NormalForm → List (List ℕ) → Option CommandForm
after_migrate_form form (schema ∷ rows ∷ []) = Some (over_schema schema (migrate schema rows form))
after_migrate_form form (schema ∷ rows ∷ word ∷ folder ∷ []) = where_into word schema (migrate_into rows form folder)
after_migrate_form form _ = None

-- after `migrate`
unfoldable pub after_migrate : List (List ℕ) → Option CommandForm
after_migrate [] = None
after_migrate (what ∷ rest) =
    if bytes_eq what (codes "plan") then after_migrate_plan rest
    else option_and_then (λ form. after_migrate_form form rest) (normal_form what)

-- after `offences`, a word, a schema and rows
abbrev pub offences_after_word : List ℕ → List ℕ → List ℕ → Option CommandForm
offences_after_word what schema rows =
    if bytes_eq what (codes "rows") then Some (over_schema schema (of_rows rows offences_by_row)) else None

-- after `offences`
unfoldable pub after_offences : List (List ℕ) → Option CommandForm
after_offences (schema ∷ rows ∷ []) = Some (over_schema schema (of_rows rows offences))
after_offences (what ∷ schema ∷ rows ∷ []) = offences_after_word what schema rows
after_offences _ = None

-- after `sql migrate`
unfoldable pub after_sql_migrate : List (List ℕ) → Option CommandForm
after_sql_migrate [] = None
after_sql_migrate (what ∷ rest) =
    if bytes_eq what (codes "plan") then schema_and_plan_and_word sql_migrate_plan rest
    else option_and_then (λ form. schema_and_word (sql_migrate form) rest) (normal_form what)

-- after `sql`
unfoldable pub after_sql : List (List ℕ) → Option CommandForm
after_sql [] = None
after_sql (what ∷ rest) =
    if bytes_eq what (codes "check") then schema_and_word sql_check rest
    else if bytes_eq what (codes "measure") then schema_and_word sql_measure rest
    else if bytes_eq what (codes "migrate") then after_sql_migrate rest
    else None

-- after `draw`
unfoldable pub after_draw : List (List ℕ) → Option CommandForm
after_draw [] = None
after_draw (what ∷ rest) =
    if bytes_eq what (codes "plan") then schema_and_plan draw_plan rest
    else option_and_then (λ form. schema_alone (draw form) rest) (normal_form what)

-- after `report`
unfoldable pub after_report : List (List ℕ) → Option CommandForm
after_report (schema ∷ []) = Some (over_schema schema (report schema))
after_report (schema ∷ plan ∷ []) = Some (over_schema schema (report_plan schema plan))
after_report _ = None

-- after `discover`, a word and rows
abbrev pub discover_after_word : List ℕ → List ℕ → Option CommandForm
discover_after_word what rows =
    if is_left_bound what then Some (discover (small_rules (number_of what)) rows)
    else if bytes_eq what (codes "keys") then Some (discover keys_of_rows rows)
    else if bytes_eq what (codes "all") then Some (discover_all rows)
    else None

-- after `discover`, a word, two numbers and rows
abbrev pub discover_after_numbers : List ℕ → List ℕ → List ℕ → List ℕ → Option CommandForm
discover_after_numbers what limit most rows =
    if bytes_eq what (codes "near") && (is_row_bound limit && is_left_bound most)
    then Some (discover (near_rules (number_of limit) (number_of most)) rows)
    else None

-- after `discover`, what is asked of one file
unfoldable pub discover_in_one : List (List ℕ) → Option CommandForm
discover_in_one (rows ∷ []) = Some (discover minimal_rules rows)
discover_in_one (what ∷ rows ∷ []) = discover_after_word what rows
discover_in_one (what ∷ limit ∷ most ∷ rows ∷ []) = discover_after_numbers what limit most rows
discover_in_one _ = None

-- after `discover`; `references` alone is a file of this name
unfoldable pub after_discover : List (List ℕ) → Option CommandForm
after_discover [] = None
after_discover (what ∷ rest) =
    if nat_lt 0 (length rest) && bytes_eq what (codes "references") then several_files discover_references rest
    else discover_in_one (what ∷ rest)

-- what is asked of a schema, to the rows of a file
unfoldable pub form_over_rows : List ℕ → List (List ℕ) → Option CommandForm
form_over_rows verb rest =
    if bytes_eq verb (codes "migrate") then after_migrate rest
    else if bytes_eq verb (codes "measure") then schema_and_file measure rest
    else if bytes_eq verb (codes "offences") then after_offences rest
    else if bytes_eq verb (codes "kept") then schema_and_rows kept rest
    else if bytes_eq verb (codes "rejoin") then schema_and_several rejoin rest
    else None

-- what is asked of a schema
unfoldable pub form_over_schema : List ℕ → List (List ℕ) → Option CommandForm
form_over_schema verb rest =
    if bytes_eq verb (codes "implies") then schema_and_word implies rest
    else if bytes_eq verb (codes "check") then after_check rest
    else if bytes_eq verb (codes "cover") then after_cover rest
    else if bytes_eq verb (codes "basis") then schema_and_word basis rest
    else if bytes_eq verb (codes "closure") then schema_and_word closure rest
    else if bytes_eq verb (codes "project") then schema_and_word project rest
    else if bytes_eq verb (codes "keys") then after_keys rest
    else if bytes_eq verb (codes "form") then after_form rest
    else if bytes_eq verb (codes "synthesize") then after_synthesize rest
    else if bytes_eq verb (codes "split") then after_split rest
    else if bytes_eq verb (codes "exhibit") then schema_alone exhibit rest
    else if bytes_eq verb (codes "explain") then after_explain rest
    else if bytes_eq verb (codes "ddl") then after_ddl rest
    else if bytes_eq verb (codes "sql") then after_sql rest
    else if bytes_eq verb (codes "draw") then after_draw rest
    else if bytes_eq verb (codes "report") then after_report rest
    else form_over_rows verb rest

-- the engine that a word names
unfoldable pub dialect_of : List ℕ → Option Dialect
dialect_of word =
    if bytes_eq word (codes "sqlite") then Some Sqlite
    else if bytes_eq word (codes "postgres") then Some Postgres
    else None

-- a file and a table
unfoldable pub file_and_table : Dialect → List (List ℕ) → Option CommandForm
file_and_table dialect (file ∷ table ∷ []) = Some (import_sql dialect file table)
file_and_table dialect _ = None

-- after `import`
unfoldable pub after_import : List (List ℕ) → Option CommandForm
after_import [] = None
after_import (what ∷ rest) =
    if bytes_eq what (codes "csv") then word_alone import_csv rest
    else option_and_then (λ dialect. file_and_table dialect rest) (dialect_of what)

-- the command that the words form, if they form one
unfoldable pub form_of : List (List ℕ) → Option CommandForm
form_of [] = None
form_of (verb ∷ rest) =
    if bytes_eq verb (codes "discover") then after_discover rest
    else if bytes_eq verb (codes "import") then after_import rest
    else if bytes_eq verb (codes "sample") then persons_alone rest
    else if bytes_eq verb (codes "help") then no_more_arguments help rest
    else if bytes_eq verb (codes "--help") then no_more_arguments help rest
    else if bytes_eq verb (codes "-h") then no_more_arguments help rest
    else if bytes_eq verb (codes "--version") then no_more_arguments version rest
    else form_over_schema verb rest
