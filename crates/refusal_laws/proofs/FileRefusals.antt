-- The refusals of files, of goals and of sets.
use Rattle.std.proofs.Common.{◌≡◌, ℕ, List, [], ◌++◌, Some, refl, inl, inr}
use Rattle.std.specs.Prelude.{All, Contains, codes, slice_get}
use Rattle.std.specs.Fmt.{decimal}
use Rattle.std.proofs.lemmas.List.Elements.{All-from_get_or}
use Rattle.std.proofs.lemmas.Option.{get_or_from_slice_get, slice_get_within}
use Rattle.attr_sets.specs.Attributes.{Attributes}
use Rattle.dep_model.specs.Dependencies.{Dependency}
use Rattle.dep_model.specs.Tuples.{Relation}
use Rattle.schema_model.specs.Names.{IsName}
use Rattle.schema_model.specs.Schemas.{Schema, names_of}
use Rattle.schema_model.proofs.PlainLemmas.{IsPlain, plain_both}
use Rattle.schema_printer.specs.Spelling.{printed_names_of}
use Rattle.schema_grammar.specs.DiagnosticKinds.{diagnostic_kind, number_of}
use Rattle.schema_grammar.specs.RefusalTexts.{place_and_reason}
use Rattle.schema_grammar.specs.Texts.{declarations_of}
use Rattle.schema_grammar.specs.declared.refusal.SchemaRefusal.{SchemaRefusal}
use Rattle.schema_grammar.proofs.DeclaredNames.{declared_are_names}
use Rattle.derivation.specs.Trees.{Tree}
use Rattle.derivation_grammar.specs.Lines.{DerivationLine}
use Rattle.proof_grammar.specs.Diagnostics.{LineDiagnostic}
use Rattle.proof_grammar.specs.RefusalTexts.{diagnostic_number, diagnostic_text, position_text}
use Rattle.plan_grammar.specs.Refusals.{plan_diagnostic_kind}
use Rattle.plan_grammar.specs.RefusalTexts.{plan_reason_text}
use Rattle.plan_grammar.specs.declared.refusal.PlanRefusal.{PlanRefusal}
use Rattle.plan_printer.specs.NamedPlans.{NamedSchemes}
use Rattle.csv_rows.specs.RefusalTexts.{row_reason_text, row_refusal_number}
use Rattle.csv_rows.specs.declared.part.PartialRows.{PartialRows}
use Rattle.csv_rows.specs.declared.refusal.RowRefusal.{RowRefusal}
use Rattle.headed_rows.specs.Headings.{HeadedRows}
use Rattle.headed_rows.specs.RefusalTexts.{headed_reason_text, headed_refusal_number}
use Rattle.headed_rows.specs.declared.headed_rows.Limits.{Limits}
use Rattle.headed_rows.specs.declared.refusal.HeaderRefusal.{HeaderRefusal}
use Rattle.desk_arguments.specs.Goals.{GoalStops, IsGoal, IsSetText, SetStops, WithGoal, WithSet}
use Rattle.desk_inputs.specs.FileKinds.{FileKind, AreFiles, FileStops, FilesStop, IsFile, LoadStops, WithFile, WithFiles}
use Rattle.desk_inputs.specs.Headed.{headed_file, headed_file_for, headed_refusal_text}
use Rattle.desk_inputs.specs.Inputs.{derivation_file, proof_file, schema_file}
use Rattle.desk_inputs.specs.Parts.{part_file}
use Rattle.desk_inputs.specs.Plans.{plan_file, plan_refusal_text}
use Rattle.desk_inputs.specs.Readings.{Reading}
use Rattle.desk_inputs.specs.Rows.{row_refusal_text, rows_file}
use Rattle.desk_inputs.specs.Sql.{sql_file}
use Rattle.desk_refusals.specs.ProofTexts.{derivation_refusal_text, proof_refusal_text}
use Rattle.desk_refusals.specs.Refusals.{goal_refusal_text, refusal_text, set_refusal_text}
use Rattle.desk_responses.specs.ResponseValues.{Allowed, ResponseValue}
use Rattle.desk_texts.specs.Texts.{cannot_read_text, too_long_text}
use Rattle.reason_laws.proofs.NameTexts.{names_printed}
use Rattle.refusal_laws.specs.Refusals.{HoldsName, IsRefusal}
use Rattle.refusal_laws.proofs.PlainTexts.{diagnostic_plain, headed_reason_plain, numbered_plain, place_plain, plan_reason_plain, plain_three, position_plain, row_reason_plain}
use Rattle.refusal_laws.proofs.RefusalLemmas.{RefusesSo, more, named, no_name, refusal, says_plain, says_refused, says_unread, with_refuses}
use Rattle.refusal_laws.proofs.TableTexts.{IsPlainIfGiven, planned_plain}

-- what stands at a position is listed
listed : (names : List (List ℕ)) (position : ℕ) (name : List ℕ) → slice_get names position ≡ Some name → Contains names name
listed names position name is = (position, slice_get_within names position name is, get_or_from_slice_get names position name name is)

module _ (names : List (List ℕ)) where
  -- ---- texts
  -- a number, and a file
  at_file : (word : List ℕ) (number : ℕ) (file : List ℕ) → IsPlain word → Contains names file
      → HoldsName names (word ++ decimal number ++ codes " at " ++ file)
  at_file word number file plain given =
      named names (word ++ decimal number ++ codes " at ") file (numbered_plain word number (codes " at ") plain refl) given

  -- and what is said of it
  said_of_file : (word : List ℕ) (number : ℕ) (file mark reason : List ℕ) → IsPlain word → Contains names file → IsPlain mark
      → IsPlain reason → HoldsName names (word ++ decimal number ++ codes " at " ++ file ++ mark ++ reason)
  said_of_file word number file mark reason plain given marked reasoned =
      let front = word ++ decimal number ++ codes " at " ++ file in
      more names (front ++ mark) reason (more names front mark (at_file word number file plain given) marked) reasoned

  long_refusal : (file : List ℕ) → Contains names file → IsRefusal names (too_long_text file)
  long_refusal file given =
      refusal names (file ++ codes " is too long") (more names file (codes " is too long") (named names [] file refl given) refl)

  schema_refusal : (file : List ℕ) (why : SchemaRefusal) → Contains names file → IsRefusal names (refusal_text (codes "schema") file why)
  schema_refusal file why given =
      let number = number_of (diagnostic_kind why.kind) in
      refusal names (codes "schema " ++ decimal number ++ codes " at " ++ file ++ codes ":" ++ place_and_reason why)
      (said_of_file (codes "schema ") number file (codes ":") (place_and_reason why) refl given refl (place_plain why))

  rows_refusal : (s : Schema) → All IsName (names_of s) → (file : List ℕ) (why : RowRefusal) → Contains names file
      → IsRefusal names (row_refusal_text s file why)
  rows_refusal s are_names file why given =
      let number = row_refusal_number why in
      refusal names (codes "rows " ++ decimal number ++ codes " at " ++ file ++ codes ": " ++ row_reason_text s why)
      (said_of_file (codes "rows ") number file (codes ": ") (row_reason_text s why) refl given refl (row_reason_plain s are_names why))

  headed_refusal : (command : List ℕ) (file : List ℕ) (why : HeaderRefusal) → IsPlain command → Contains names file
      → IsRefusal names (headed_refusal_text command file why)
  headed_refusal command file why plain given =
      let number = headed_refusal_number why in
      let word = command ++ codes " " in
      refusal names (word ++ decimal number ++ codes " at " ++ file ++ codes ": " ++ headed_reason_text why)
      (said_of_file word number file (codes ": ") (headed_reason_text why) (plain_both command (codes " ") plain refl) given refl
      (headed_reason_plain why))

  plan_refusal : (s : Schema) → All IsName (names_of s) → (file : List ℕ) (why : PlanRefusal) → Contains names file
      → IsRefusal names (plan_refusal_text (printed_names_of s) file why)
  plan_refusal s are_names file why given =
      let number = number_of (plan_diagnostic_kind why) in
      let reason = plan_reason_text (printed_names_of s) why in
      refusal names (codes "plan " ++ decimal number ++ codes " at " ++ file ++ codes ":" ++ reason)
      (said_of_file (codes "plan ") number file (codes ":") reason refl given refl
      (plan_reason_plain (printed_names_of s) (names_printed s are_names) why))

  -- a line of a certificate or a derivation
  module _ (s : Schema) (are_names : All IsName (names_of s)) (file : List ℕ) (why : LineDiagnostic) (given : Contains names file) where
    abbrev of_line : List ℕ → List ℕ
    of_line word =
        word ++ decimal (diagnostic_number why.diagnostic) ++ codes " at " ++ file ++ codes ":"
        ++ position_text why.line why.diagnostic ++ codes " " ++ diagnostic_text (printed_names_of s) why.diagnostic

    line_holds : (word : List ℕ) → IsPlain word → HoldsName names (of_line word)
    line_holds word plain =
        let position = position_text why.line why.diagnostic in
        let reason = diagnostic_text (printed_names_of s) why.diagnostic in
        let front = word ++ decimal (diagnostic_number why.diagnostic) ++ codes " at " ++ file ++ codes ":" ++ position in
        more names (front ++ codes " ") reason
        (more names front (codes " ")
        (said_of_file word (diagnostic_number why.diagnostic) file (codes ":") position plain given refl
        (position_plain why.line why.diagnostic)) refl)
        (diagnostic_plain (printed_names_of s) (names_printed s are_names) why.diagnostic)

    proof_refusal : IsRefusal names (proof_refusal_text (printed_names_of s) file why)
    proof_refusal = refusal names (of_line (codes "proof ")) (line_holds (codes "proof ") refl)

    derivation_refusal : IsRefusal names (derivation_refusal_text (printed_names_of s) file why)
    derivation_refusal = refusal names (of_line (codes "derivation ")) (line_holds (codes "derivation ") refl)

  -- ---- files
  load_refuses : (r : Reading) (file : List ℕ) (limit : ℕ) → Contains names file → RefusesSo names (LoadStops r file limit)
  load_refuses r file limit given response (inl (unread, said)) refused = says_unread names (cannot_read_text file) response said refused
  load_refuses r file limit given response (inr (long, said)) refused =
      says_refused names (too_long_text file) (long_refusal file given) response said refused

  module _ {Value Refusal : Type 0} (kind : FileKind Value Refusal) (r : Reading) (file : List ℕ) (given : Contains names file)
      (each : (why : Refusal) → IsRefusal names (kind.refusal_text file why)) where
    file_refuses : RefusesSo names (FileStops kind r file)
    file_refuses response (inl stops) refused = load_refuses r file kind.limit given response stops refused
    file_refuses response (inr (why, is, said)) refused = says_refused names (kind.refusal_text file why) (each why) response said refused

    after_file : (rest : Value → Allowed) → ((v : Value) → IsFile kind r file v → RefusesSo names (rest v))
        → RefusesSo names (WithFile kind r file rest)
    after_file rest later = with_refuses names (FileStops kind r file) (IsFile kind r file) rest file_refuses later

  -- ---- each kind
  module _ (r : Reading) (file : List ℕ) (given : Contains names file) where
    pub after_schema : (rest : Schema → Allowed) → ((s : Schema) → All IsName (names_of s) → RefusesSo names (rest s))
        → RefusesSo names (WithFile schema_file r file rest)
    after_schema rest later =
        after_file schema_file r file given (λ why. schema_refusal file why given) rest
        (λ s is. later s (declared_are_names is.bytes (declarations_of s) is.means).each)

    pub after_headed : (command : List ℕ) (limits : Limits) (rest : HeadedRows → Allowed) → IsPlain command
        → ((headed : HeadedRows) → All IsName headed.names → RefusesSo names (rest headed))
        → RefusesSo names (WithFile (headed_file_for command limits) r file rest)
    after_headed command limits rest plain later =
        after_file (headed_file_for command limits) r file given (λ why. headed_refusal command file why plain given) rest
        (λ headed is. later headed
        (All-from_get_or IsName headed.names [] (λ i low. (is.means.header.named i low).0)))

    pub after_sql : (rest : List ℕ → Allowed) → ((text : List ℕ) → RefusesSo names (rest text))
        → RefusesSo names (WithFile sql_file r file rest)
    after_sql rest later = after_file sql_file r file given (λ why. absurd why) rest (λ text is. later text)

    module _ (s : Schema) (are_names : All IsName (names_of s)) where
      pub after_rows : (rest : Relation → Allowed) → ((rows : Relation) → RefusesSo names (rest rows))
          → RefusesSo names (WithFile (rows_file s) r file rest)
      after_rows rest later =
          after_file (rows_file s) r file given (λ why. rows_refusal s are_names file why given) rest (λ rows is. later rows)

      pub after_plan : (rest : NamedSchemes → Allowed)
          → ((plan : NamedSchemes) → All IsPlainIfGiven plan.names → RefusesSo names (rest plan))
          → RefusesSo names (WithFile (plan_file s) r file rest)
      after_plan rest later =
          after_file (plan_file s) r file given (λ why. plan_refusal s are_names file why given) rest
          (λ plan is. later plan (planned_plain s is.bytes plan is.means))

      pub after_proof : (rest : Tree → Allowed) → ((tree : Tree) → RefusesSo names (rest tree))
          → RefusesSo names (WithFile (proof_file s) r file rest)
      after_proof rest later =
          after_file (proof_file s) r file given (λ why. proof_refusal s are_names file why given) rest (λ tree is. later tree)

      pub after_derivation : (rest : List DerivationLine → Allowed) → ((lines : List DerivationLine) → RefusesSo names (rest lines))
          → RefusesSo names (WithFile (derivation_file s) r file rest)
      after_derivation rest later =
          after_file (derivation_file s) r file given (λ why. derivation_refusal s are_names file why given) rest
          (λ lines is. later lines)

  -- ---- several files, all of which are named
  module _ {Value Refusal : Type 0} (kind : FileKind Value Refusal) (r : Reading) (files : List (List ℕ))
      (are_named : (file : List ℕ) → Contains files file → Contains names file)
      (each : (file : List ℕ) (why : Refusal) → Contains names file → IsRefusal names (kind.refusal_text file why)) where
    files_refuse : RefusesSo names (FilesStop kind r files)
    files_refuse response (first, stops) refused =
        let given = are_named first.name (listed files first.position first.name first.stands) in
        file_refuses kind r first.name given (λ why. each first.name why given) response stops refused

    after_files : (rest : List Value → Allowed) → ((values : List Value) → RefusesSo names (rest values))
        → RefusesSo names (WithFiles kind r files rest)
    after_files rest later = with_refuses names (FilesStop kind r files) (AreFiles kind r files) rest files_refuse (λ values are. later values)

  -- files of tables
  pub after_parts : (r : Reading) (s : Schema) → All IsName (names_of s) → (files : List (List ℕ))
      → ((file : List ℕ) → Contains files file → Contains names file) → (rest : List PartialRows → Allowed)
      → ((parts : List PartialRows) → RefusesSo names (rest parts)) → RefusesSo names (WithFiles (part_file s) r files rest)
  after_parts r s are_names files are_named rest later =
      after_files (part_file s) r files are_named (λ file why given. rows_refusal s are_names file why given) rest later

  -- files of rows under names of their own
  pub after_headed_files : (r : Reading) (files : List (List ℕ)) → ((file : List ℕ) → Contains files file → Contains names file)
      → (rest : List HeadedRows → Allowed) → ((heads : List HeadedRows) → RefusesSo names (rest heads))
      → RefusesSo names (WithFiles headed_file r files rest)
  after_headed_files r files are_named rest later =
      after_files headed_file r files are_named (λ file why given. headed_refusal (codes "discover") file why refl given) rest later

  -- ---- goals and sets
  -- a refusal of a word at its place
  word_refusal : (word : List ℕ) (why : SchemaRefusal) → IsPlain word → IsRefusal names (refusal_text word word why)
  word_refusal word why plain =
      let front = word ++ codes " " ++ decimal (number_of (diagnostic_kind why.kind)) ++ codes " at " in
      let placed = front ++ word ++ codes ":" in
      refusal names (placed ++ place_and_reason why)
      (no_name names (placed ++ place_and_reason why)
      (plain_both placed (place_and_reason why)
      (plain_three front word (codes ":")
      (numbered_plain (word ++ codes " ") (number_of (diagnostic_kind why.kind)) (codes " at ") (plain_both word (codes " ") plain refl) refl)
      plain refl) (place_plain why)))

  goal_refuses : (s : Schema) (goal : List ℕ) → RefusesSo names (GoalStops s goal)
  goal_refuses s goal response (inl (long, said)) refused = says_plain names (codes "goal is too long") refl response said refused
  goal_refuses s goal response (inr (why, is, said)) refused =
      says_refused names (goal_refusal_text why) (word_refusal (codes "goal") why refl) response said refused

  pub after_goal : (s : Schema) (goal : List ℕ) (rest : Dependency → Allowed) → ((d : Dependency) → RefusesSo names (rest d))
      → RefusesSo names (WithGoal s goal rest)
  after_goal s goal rest later =
      with_refuses names (GoalStops s goal) (IsGoal s goal) rest (goal_refuses s goal) (λ d is. later d)

  set_refuses : (s : Schema) (set : List ℕ) → RefusesSo names (SetStops s set)
  set_refuses s set response (inl (long, said)) refused = says_plain names (codes "set is too long") refl response said refused
  set_refuses s set response (inr (why, is, said)) refused =
      says_refused names (set_refusal_text why) (word_refusal (codes "set") why refl) response said refused

  pub after_set : (s : Schema) (set : List ℕ) (rest : Attributes → Allowed) → ((x : Attributes) → RefusesSo names (rest x))
      → RefusesSo names (WithSet s set rest)
  after_set s set rest later =
      with_refuses names (SetStops s set) (IsSetText s set) rest (set_refuses s set) (λ x is. later x)
