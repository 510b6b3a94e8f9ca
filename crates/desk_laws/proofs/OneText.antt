-- Every text of a file has one reading: it means one value, or is refused in one way, and never both.
use Rattle.std.proofs.Common.{◌≡◌, ℕ, List, ◌∷◌, Ok, Err, Result, sym, ap, ◌∙◌, Option, subst}
use Rattle.attr_sets.specs.Attributes.{Attributes}
use Rattle.attr_sets.specs.Sets.{attributes}
use Rattle.csv_rows.proofs.UniqueRows.{table_same, whole_header_same, part_header_same}
use Rattle.csv_rows.specs.Columns.{columns_of_header, with_columns, IsHeaderOf}
use Rattle.csv_rows.specs.Reading.{HasScheme, PartOf, RowsOf}
use Rattle.csv_rows.specs.Quotes.{open_record}
use Rattle.csv_rows.specs.Records.{records_of}
use Rattle.csv_rows.specs.declared.part.PartialRows.{PartialRows}
use Rattle.csv_rows.specs.declared.refusal.RowRefusal.{RowRefusal}
use Rattle.schema_model.specs.Schemas.{names_of, width_of, naming_of, theory_of}
use Rattle.dep_model.specs.Tuples.{Relation}
use Rattle.schema_model.specs.Schemas.{Schema}
use Rattle.schema_model.proofs.SchemaLemmas.{same_schema}
use Rattle.derivation.proofs.RuleTableLemmas.{the_ok}
use Rattle.derivation_grammar.proofs.TextLaws.{reading_law, refusal_law}
use Rattle.derivation_grammar.specs.Meanings.{MeansDerivation}
use Rattle.derivation_grammar.specs.Refusals.{IsRefusedDerivation}
use Rattle.derivation_grammar.specs.Texts.{read_derivation}
use Rattle.headed_rows.proofs.UniqueHeaded.{headed_same, refused_same, never_both}
use Rattle.headed_rows.specs.Headings.{HeadedRows, IsHeadedWithin, IsRefusedWithin}
use Rattle.headed_rows.specs.declared.headed_rows.Limits.{Limits}
use Rattle.plan_grammar.proofs.ExactLaws.{plan_one_meaning, plan_one_refusal, plan_never_both}
use Rattle.plan_grammar.specs.Diagnostics.{RefusesPlan}
use Rattle.plan_grammar.specs.Meanings.{MeansPlan}
use Rattle.proof_grammar.proofs.CertificateLaws.{spelled_back}
use Rattle.proof_grammar.proofs.TextRefusals.{refused_back}
use Rattle.proof_grammar.specs.Refusals.{IsRefusedCertificate}
use Rattle.proof_grammar.specs.Spelling.{SpellsWithin}
use Rattle.proof_grammar.specs.Texts.{read_proof}
use Rattle.schema_grammar.proofs.OneTextRefusal.{schema-refusal-law}
use Rattle.schema_grammar.proofs.SchemaLaws.{schema-law}
use Rattle.schema_grammar.specs.Schemas.{MeansSchema, RefusesSchema}
use Rattle.schema_grammar.specs.Declarations.{Declarations}
use Rattle.schema_grammar.specs.Texts.{declarations_of, read_text}
use Rattle.table_join.specs.Tables.{PartialRelation, table_of_part}
use Rattle.plan_printer.specs.NamedPlans.{NamedSchemes}
use Rattle.design_order.specs.Order.{AreNamesInOrder}
use Rattle.design_order.proofs.OrderLemmas.{one_names}
use Rattle.desk_inputs.specs.Plans.{MeansTables}
use Rattle.desk_laws.specs.OneReading.{HasOneReading}
use Rattle.schema_model.specs.declared.naming.Naming.{Naming}

-- ---- one reading of each text
one_error : {A E : Type 0} (e f : E) → ◌≡◌ {A = Result A E} (Err e) (Err f) → e ≡ f
one_error e f same = cc

-- what is read by a function has one reading
read_once : {A E : Type 0} (read : Result A E) (Means : A → Type 0) (Refuses : E → Type 0)
    → ((a : A) → Means a → read ≡ Ok a) → ((e : E) → Refuses e → read ≡ Err e) → HasOneReading Means Refuses
read_once {A} {E} read Means Refuses means refuses = record {
  one_meaning = λ a b first second. the_ok {A = A} {E = E} a b (sym (means a first) ∙ means b second);
  one_refusal = λ e f first second. one_error {A = A} e f (sym (refuses e first) ∙ refuses f second);
  never_both = λ a e first second.
      let is : read ≡ Ok a = means a first in
      let not : read ≡ Err e = refuses e second in cc;
}

pub schema_text_once : (text : List ℕ) → HasOneReading (MeansSchema text) (RefusesSchema text)
schema_text_once text =
    read_once (read_text text) (MeansSchema text) (RefusesSchema text) (λ d means. (schema-law text d).1 means)
    (λ e refused. (schema-refusal-law text e).1 refused)

-- two schemas that declare the same are one
pub same_declared : (s t : Schema) → declarations_of s ≡ declarations_of t → s ≡ t
same_declared s t same =
    same_schema s t (ap (λ (d : Declarations). d.naming) same) (ap (λ (d : Declarations). d.names) same)
    (ap (λ (d : Declarations). d.columns) same) (ap (λ (d : Declarations). d.nullable) same)
    (ap (λ (d : Declarations). d.deps) same) (ap (λ (d : Declarations). d.lines) same)

-- so a text means one schema
pub schema_once : (text : List ℕ) → HasOneReading (λ (s : Schema). MeansSchema text (declarations_of s)) (RefusesSchema text)
schema_once text = record {
  one_meaning = λ s t first second.
      same_declared s t ((schema_text_once text).one_meaning (declarations_of s) (declarations_of t) first second);
  one_refusal = (schema_text_once text).one_refusal;
  never_both = λ s why means refused. (schema_text_once text).never_both (declarations_of s) why means refused;
}

pub proof_text_once : (s : Schema) (text : List ℕ) → HasOneReading (SpellsWithin s text) (IsRefusedCertificate s text)
proof_text_once s text =
    read_once (read_proof s text) (SpellsWithin s text) (IsRefusedCertificate s text) (spelled_back s text)
    (refused_back s text)

pub derivation_text_once : (s : Schema) (text : List ℕ) → HasOneReading (MeansDerivation s text) (IsRefusedDerivation s text)
derivation_text_once s text =
    read_once (read_derivation s text) (MeansDerivation s text) (IsRefusedDerivation s text)
    (λ lines means. (reading_law s text lines).1 means) (λ e refused. (refusal_law s text e).1 refused)

pub plan_text_once : (naming : Naming) (names : List (List ℕ)) (text : List ℕ)
    → HasOneReading (MeansPlan naming names text) (RefusesPlan naming names text)
plan_text_once naming names text = record {
  one_meaning = plan_one_meaning naming names text;
  one_refusal = plan_one_refusal naming names text;
  never_both = plan_never_both naming names text;
}

-- and so have the names of its tables in their order
pub plan_tables_once : (s : Schema) (text : List ℕ)
    → HasOneReading (MeansTables s text) (RefusesPlan (naming_of s) (names_of s) text)
plan_tables_once s text = record {
  one_meaning = one_meaning;
  one_refusal = plan_one_refusal (naming_of s) (names_of s) text;
  never_both = λ plan e means refused. plan_never_both (naming_of s) (names_of s) text means.read e means.means refused;
}
  where
    same_tables : (one other : NamedSchemes) → one.schemes ≡ other.schemes → one.names ≡ other.names → one ≡ other
    same_tables one other at also =
        ap (λ (schemes : List Attributes). record { schemes = schemes; names = one.names }) at
        ∙ ap (λ (names : List (Option (List ℕ))). record { schemes = other.schemes; names = names }) also

    one_meaning : (one other : NamedSchemes) → MeansTables s text one → MeansTables s text other → one ≡ other
    one_meaning one other first second =
        let read : first.read ≡ second.read = plan_one_meaning (naming_of s) (names_of s) text first.read second.read first.means second.means in
        let order : AreNamesInOrder (width_of s) (theory_of s) second.read.schemes second.read.names one.names =
        subst (λ (tables : NamedSchemes). AreNamesInOrder (width_of s) (theory_of s) tables.schemes tables.names one.names) read first.order in
        same_tables one other (first.schemes ∙ ap (λ (tables : NamedSchemes). tables.schemes) read ∙ sym second.schemes)
        (one_names (width_of s) (theory_of s) second.read.schemes second.read.names one.names other.names order second.order)

-- a relation to one result is one reading
one_result : {A E : Type 0} (Gives : Result A E → Type 0)
    → ((one other : Result A E) → Gives one → Gives other → one ≡ other)
    → HasOneReading (λ (a : A). Gives (Ok a)) (λ (e : E). Gives (Err e))
one_result {A} {E} Gives same = record {
  one_meaning = λ a b first second. the_ok {A = A} {E = E} a b (same (Ok a) (Ok b) first second);
  one_refusal = λ e f first second. one_error {A = A} e f (same (Err e) (Err f) first second);
  never_both = λ a e first second.
      let both : ◌≡◌ {A = Result A E} (Ok a) (Err e) = same (Ok a) (Err e) first second in cc;
}

one_rows : (s : Schema) (text : List ℕ) (one other : Result Relation RowRefusal) → RowsOf s text one
    → RowsOf s text other → one ≡ other
one_rows s text one other =
    table_same s (IsHeaderOf (width_of s) (names_of s)) (whole_header_same s) (open_record text) (records_of text) one other

one_part : (s : Schema) (text : List ℕ) (one other : Result Relation RowRefusal) → PartOf s text one
    → PartOf s text other → one ≡ other
one_part s text one other =
    table_same s (λ header columns. columns ≡ columns_of_header (names_of s) header) (part_header_same s)
    (open_record text) (records_of text) one other

pub rows_text_once : (s : Schema) (text : List ℕ)
    → HasOneReading (λ (rows : Relation). RowsOf s text (Ok rows)) (λ (why : RowRefusal). RowsOf s text (Err why))
rows_text_once s text = one_result (RowsOf s text) (one_rows s text)

-- ---- rows under a header of their own
pub headed_text_once : (limits : Limits) (text : List ℕ)
    → HasOneReading (IsHeadedWithin limits text) (IsRefusedWithin limits text)
headed_text_once limits text = record {
  one_meaning = headed_same limits text;
  one_refusal = refused_same limits text;
  never_both = never_both limits text;
}

-- ---- rows over some columns
abbrev pub MeansTable : Schema → List ℕ → PartialRelation → Type 0
MeansTable s text table =
    (part : PartialRows) × PartOf s text (Ok part.rows) × HasScheme s text part.scheme × (table_of_part part ≡ table)

one_scheme : (s : Schema) (text : List ℕ) (p q : PartialRows) → HasScheme s text p.scheme
    → HasScheme s text q.scheme → attributes p.scheme ≡ attributes q.scheme
one_scheme s text p q (header, records, read, columns, mean, is) (head, rest, also, others, means, are) =
    let same : header ∷ records ≡ head ∷ rest = sym read ∙ also in
    let heads : header ≡ head = cc in
    let both : ◌≡◌ {A = Result (List ℕ) RowRefusal} (Ok columns) (Ok others) =
    sym mean ∙ ap (λ (h : List (List ℕ)). columns_of_header (names_of s) h) heads ∙ means in
    is ∙ ap with_columns (the_ok {A = List ℕ} {E = RowRefusal} columns others both) ∙ sym are

pub part_text_once : (s : Schema) (text : List ℕ)
    → HasOneReading (MeansTable s text) (λ (why : RowRefusal). PartOf s text (Err why))
part_text_once s text = record {
  one_meaning = λ table other first second.
      let p = first.0 in
      let q = second.0 in
      sym first.3
      ∙ ap (λ (x : Attributes). table_over x p.rows) (one_scheme s text p q first.2 second.2)
      ∙ ap (λ (rows : Relation). table_over (attributes q.scheme) rows)
      ((one_result (PartOf s text) (one_part s text)).one_meaning p.rows q.rows first.1 second.1)
      ∙ second.3;
  one_refusal = (one_result (PartOf s text) (one_part s text)).one_refusal;
  never_both = λ table why first refused.
      (one_result (PartOf s text) (one_part s text)).never_both first.0.rows why first.1 refused;
}
  where
    table_over : Attributes → Relation → PartialRelation
    table_over x rows = record { scheme = x; rows = rows }
