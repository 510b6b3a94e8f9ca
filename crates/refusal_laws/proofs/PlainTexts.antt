-- What refusals say beside the names of files has no line feed: places, reasons and names of attributes.
use Rattle.std.proofs.Common.{◌≡◌, ℕ, zero, suc, true, List, [], ◌∷◌, ◌++◌, length, refl, subst, inl, inr}
use Rattle.std.specs.Prelude.{All, codes, if◌then◌else◌, not, slice_index_or, ◌&&◌}
use Rattle.std.specs.Fmt.{decimal}
use Rattle.std.proofs.lemmas.Bool.{cases_Bool}
use Rattle.std.proofs.lemmas.List.Elements.{All-head, All-tail, All-weaker}
use Rattle.schema_model.specs.Columns.{is_column_type}
use Rattle.schema_model.specs.Names.{IsName, is_bare_name, quoted}
use Rattle.schema_model.specs.Schemas.{Schema, naming_of, names_of, types_of}
use Rattle.schema_model.specs.declared.column_type.ColumnType.{ColumnType}
use Rattle.schema_model.specs.declared.column_type.ColumnType.TheVariants.{Text}
use Rattle.schema_model.specs.declared.naming.Naming.{Naming}
use Rattle.schema_model.specs.declared.naming.Naming.TheVariants.{Bare, Any}
use Rattle.schema_model.proofs.PlainLemmas.{IsPlain, name_plain, plain_both, quoted_plain}
use Rattle.schema_printer.specs.Printing.{dependency_text, type_word}
use Rattle.schema_printer.specs.Spelling.{is_schema_word, printed_names_of, spelling}
use Rattle.derivation.specs.FaultTexts.{fault_number, fault_text}
use Rattle.derivation.specs.declared.fault.FaultKind.{FaultKind}
use Rattle.derivation.specs.declared.fault.FaultKind.TheVariants as fault
use Rattle.schema_grammar.specs.RefusalTexts.{kind_text, place_and_reason, span_text, what_text}
use Rattle.schema_grammar.specs.declared.refusal.SchemaRefusal.{SchemaRefusal}
use Rattle.schema_grammar.specs.declared.refusal.SchemaRefusalKind.{SchemaRefusalKind}
use Rattle.schema_grammar.specs.declared.refusal.SchemaRefusalKind.TheVariants as kind
use Rattle.schema_grammar.specs.declared.refusal.Span.{Span}
use Rattle.schema_grammar.specs.declared.refusal.What.{What}
use Rattle.schema_grammar.specs.declared.refusal.What.TheVariants as what
use Rattle.proof_grammar.specs.Diagnostics.{Diagnostic, bad_line, wrong_number, no_such_line, used_twice, never_used, too_many_lines, too_deep, unsound, states_other, empty_proof}
use Rattle.proof_grammar.specs.RefusalTexts.{diagnostic_text, position_text}
use Rattle.plan_grammar.specs.RefusalTexts.{plan_reason_text}
use Rattle.plan_grammar.specs.declared.refusal.PlanRefusal.{PlanRefusal}
use Rattle.plan_grammar.specs.declared.refusal.PlanRefusal.TheVariants as plan
use Rattle.csv_rows.specs.RefusalTexts.{row_reason_text, type_of}
use Rattle.csv_rows.specs.declared.refusal.RowRefusal.{RowRefusal}
use Rattle.csv_rows.specs.declared.refusal.RowRefusal.TheVariants as row
use Rattle.headed_rows.specs.RefusalTexts.{headed_reason_text}
use Rattle.headed_rows.specs.declared.refusal.HeaderRefusal.{HeaderRefusal}
use Rattle.headed_rows.specs.declared.refusal.HeaderRefusal.TheVariants as header
use Rattle.table_join.specs.RefusalTexts.{join_reason_text}
use Rattle.table_join.specs.declared.refusal.JoinRefusal.{JoinRefusal}
use Rattle.table_join.specs.declared.refusal.JoinRefusal.TheVariants as join
use Rattle.reason_laws.proofs.NameTexts.{IsPrinted, dependency_plain, names_printed}
use Rattle.reason_laws.proofs.NumberTexts.{decimal_plain, type_plain}

-- ---- lists
-- what holds of each element and of the value in place of one holds of what stands at a position
pub at_position : {X : Type 0} (P : X → Type 0) (xs : List X) (other : X) → P other → All P xs → (k : ℕ)
    → P (slice_index_or xs k other)
at_position P [] other own all k = own
at_position P (x ∷ xs) other own all zero = All-head P x xs all
at_position P (x ∷ xs) other own all (suc k) = at_position P xs other own (All-tail P x xs all) k

-- three texts in a row
pub plain_three : (one middle other : List ℕ) → IsPlain one → IsPlain middle → IsPlain other → IsPlain (one ++ middle ++ other)
plain_three one middle other first second third =
    plain_both (one ++ middle) other (plain_both one middle first second) third

-- a number between two texts
pub numbered_plain : (one : List ℕ) (number : ℕ) (other : List ℕ) → IsPlain one → IsPlain other
    → IsPlain (one ++ decimal number ++ other)
numbered_plain one number other first last = plain_three one (decimal number) other first (decimal_plain number) last

-- ---- names of attributes
pub spelling_plain : (naming : Naming) (name : List ℕ) → IsPlain name → IsPlain (spelling naming name)
unfolding spelling
spelling_plain Bare name plain = plain
spelling_plain Any name plain = elim (cases_Bool (is_bare_name name && not (is_schema_word name))) [
  | inl own ↦ rw own plain
  | inr other ↦ rw other (quoted_plain name plain)
]

pub names_plain : (names : List (List ℕ)) → All IsName names → All IsPlain names
names_plain names all = All-weaker IsName IsPlain name_plain names all

pub printed_plain : (names : List (List ℕ)) → All IsPrinted names → (k : ℕ) → IsPlain (slice_index_or names k [])
printed_plain names all k =
    at_position IsPlain names [] refl (All-weaker IsPrinted IsPlain (λ name is. is.plain) names all) k

-- ---- texts
expected_plain : (w : What) → IsPlain (codes "expected " ++ what_text w)
expected_plain what.Name = refl
expected_plain what.Side = refl
expected_plain what.Arrow = refl
expected_plain what.LineEnd = refl
expected_plain what.Number = refl
expected_plain what.Colon = refl
expected_plain what.Rule = refl
expected_plain what.With = refl
expected_plain what.Scheme = refl
expected_plain what.Type = refl

kind_plain : (k : SchemaRefusalKind) → IsPlain (kind_text k)
kind_plain kind.StrangeByte = refl
kind_plain kind.BadName = refl
kind_plain kind.ReservedName = refl
kind_plain kind.DoubleName = refl
kind_plain kind.UnknownName = refl
kind_plain (kind.Expected w) = expected_plain w
kind_plain kind.TooManyAttributes = refl
kind_plain kind.TooManyDependencies = refl
kind_plain kind.NoAttributes = refl
kind_plain kind.UnknownVersion = refl
kind_plain kind.NoScale = refl
kind_plain kind.NoType = refl

span_plain : (span : Span) → IsPlain (span_text span)
span_plain span =
    plain_three (decimal span.line) (codes ":") (decimal span.column) (decimal_plain span.line) refl (decimal_plain span.column)

pub place_plain : (refusal : SchemaRefusal) → IsPlain (place_and_reason refusal)
place_plain refusal =
    plain_three (span_text refusal.span) (codes " ") (kind_text refusal.kind) (span_plain refusal.span) refl (kind_plain refusal.kind)

-- ---- certificates and derivations
fault_plain : (k : FaultKind) → IsPlain (fault_text k)
fault_plain fault.NoSuchGiven = refl
fault_plain fault.NotWithin = refl
fault_plain fault.WrongKind = refl
fault_plain fault.MiddleDiffers = refl
fault_plain fault.NotDisjoint = refl

pub position_plain : (at : ℕ) (d : Diagnostic) → IsPlain (position_text at d)
position_plain at (bad_line refusal) = span_plain refusal.span
position_plain at d = decimal_plain at

pub diagnostic_plain : (names : List (List ℕ)) → All IsPrinted names → (d : Diagnostic) → IsPlain (diagnostic_text names d)
diagnostic_plain names all (bad_line refusal) = kind_plain refusal.kind
diagnostic_plain names all wrong_number = refl
diagnostic_plain names all no_such_line = refl
diagnostic_plain names all used_twice = refl
diagnostic_plain names all never_used = refl
diagnostic_plain names all too_many_lines = refl
diagnostic_plain names all too_deep = refl
diagnostic_plain names all (unsound why) =
    plain_both (codes "rule does not apply: " ++ decimal (fault_number why.kind) ++ codes " ") (fault_text why.kind)
    (numbered_plain (codes "rule does not apply: ") (fault_number why.kind) (codes " ") refl refl) (fault_plain why.kind)
diagnostic_plain names all (states_other stated concluded) =
    plain_both (codes "line states " ++ dependency_text names stated ++ codes " but concludes ") (dependency_text names concluded)
    (plain_three (codes "line states ") (dependency_text names stated) (codes " but concludes ") refl
    (dependency_plain names stated all) refl) (dependency_plain names concluded all)
diagnostic_plain names all empty_proof = refl

-- ---- plans
pub plan_reason_plain : (names : List (List ℕ)) → All IsPrinted names → (why : PlanRefusal) → IsPlain (plan_reason_text names why)
plan_reason_plain names all (plan.Text refusal) = place_plain refusal
plan_reason_plain names all (plan.EmptyScheme at) = plain_both (decimal at) (codes " empty scheme") (decimal_plain at) refl
plan_reason_plain names all (plan.NotCovered attribute) =
    plain_three (codes " ") (slice_index_or names attribute []) (codes " is in no scheme") refl (printed_plain names all attribute) refl
plan_reason_plain names all (plan.TooManySchemes at) =
    plain_both (decimal at) (codes " too many schemes") (decimal_plain at) refl

-- ---- rows
module _ (s : Schema) (are_names : All IsName (names_of s)) where
  pub attribute_plain : (attribute : ℕ) → IsPlain (slice_index_or (printed_names_of s) attribute [])
  attribute_plain attribute = printed_plain (printed_names_of s) (names_printed s are_names) attribute

  column_plain : (attribute : ℕ) → IsPlain (type_word (type_of s attribute))
  column_plain attribute =
      type_plain (type_of s attribute)
      (at_position (λ (c : ColumnType). is_column_type c ≡ true) (types_of s) Text refl s.typed.each attribute)

  pub row_reason_plain : (why : RowRefusal) → IsPlain (row_reason_text s why)
  row_reason_plain row.NoHeader = refl
  row_reason_plain (row.UnknownColumn column) = plain_both (codes "unknown column ") (decimal column) refl (decimal_plain column)
  row_reason_plain (row.DoubleColumn column) = numbered_plain (codes "column ") column (codes " repeated") refl refl
  row_reason_plain (row.MissingColumn attribute) =
      plain_both (codes "missing column ") (slice_index_or (printed_names_of s) attribute []) refl (attribute_plain attribute)
  row_reason_plain (row.UnevenRow number) = numbered_plain (codes "row ") number (codes " has the wrong length") refl refl
  row_reason_plain row.TooManyRows = refl
  row_reason_plain (row.NotOfType number attribute) =
      let name = slice_index_or (printed_names_of s) attribute [] in
      let front = codes "row " ++ decimal number ++ codes ": " in
      plain_three (front ++ name) (codes " is no ") (type_word (type_of s attribute))
      (plain_both front name (numbered_plain (codes "row ") number (codes ": ") refl refl) (attribute_plain attribute))
      refl (column_plain attribute)
  row_reason_plain row.OpenHeader = refl
  row_reason_plain (row.OpenRow number) = numbered_plain (codes "row ") number (codes " has an open quote") refl refl

  pub join_reason_plain : (most : ℕ) (why : JoinRefusal) → IsPlain (join_reason_text (printed_names_of s) most why)
  join_reason_plain most (join.NotCovered attribute) =
      plain_both (slice_index_or (printed_names_of s) attribute []) (codes " is in no file") (attribute_plain attribute) refl
  join_reason_plain most (join.TooManyRows after) =
      plain_both (codes "more than " ++ decimal most ++ codes " rows after file ") (decimal after)
      (numbered_plain (codes "more than ") most (codes " rows after file ") refl refl) (decimal_plain after)

pub headed_reason_plain : (why : HeaderRefusal) → IsPlain (headed_reason_text why)
headed_reason_plain header.NoHeader = refl
headed_reason_plain header.TooManyColumns = refl
headed_reason_plain (header.BadColumn column) = plain_both (codes "bad column ") (decimal column) refl (decimal_plain column)
headed_reason_plain (header.DoubleColumn column) = numbered_plain (codes "column ") column (codes " repeated") refl refl
headed_reason_plain (header.UnevenRow number) = numbered_plain (codes "row ") number (codes " has the wrong length") refl refl
headed_reason_plain header.TooManyRows = refl
headed_reason_plain header.OpenHeader = refl
headed_reason_plain (header.OpenRow number) = numbered_plain (codes "row ") number (codes " has an open quote") refl refl
