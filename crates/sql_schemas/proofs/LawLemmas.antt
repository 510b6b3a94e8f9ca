-- The laws of the text of a table's schema.
use Rattle.std.proofs.Common.{◌≡◌, ◌<◌, ◌≤◌, ◌||◌, inl, inr, ℕ, Bool, true, false, cond, IsTrue, All, Result, Ok, Err, List, [], ◌∷◌, length, get_or, refl, sym, ap, subst, ◌∙◌, arith}
use Rattle.std.specs.Prelude.{◌⊎◌, filter}
use Rattle.std.proofs.lemmas.Bool.Decides.{nat_tests}
use Rattle.std.proofs.lemmas.List.Elements.{All-cons, All-filter, All-map, All-nil}
use Rattle.attr_sets.specs.Attributes.{Attributes, Disjoint, IsSubset, below}
use Rattle.attr_sets.specs.declared.set.TheConstants.{MOST_ATTRIBUTES}
use Rattle.attr_sets.proofs.AttributesLemmas.{is_disjoint-true}
use Rattle.schema_model.specs.Columns.{is_column_type}
use Rattle.schema_model.specs.Names.{IsName}
use Rattle.schema_model.specs.declared.naming.Naming.TheVariants.{Any}
use Rattle.dep_model.specs.declared.theory.TheConstants.{MOST_DEPENDENCIES}
use Rattle.schema_grammar.specs.Declarations.{Declarations}
use Rattle.schema_grammar.specs.Schemas.{MeansSchema}
use Rattle.sql_lexemes.specs.declared.dialect.Dialect.{Dialect}
use Rattle.sql_definitions.specs.Facts.{AreColumns, Facts, StatedColumn}
use Rattle.sql_definitions.specs.declared.refusal.Refusal.{Refusal}
use Rattle.sql_definitions.specs.declared.definition.KeyKind.{KeyKind}
use Rattle.sql_definitions.specs.declared.definition.KeyKind.TheVariants.{Primary, Unique, UniqueMissing}
use Rattle.sql_definitions.specs.Definitions.{definition_of}
use Rattle.sql_definitions.specs.Wanted.{TableName}
use Rattle.sql_schemas.proofs.ReadLemmas.{definition_reads}
use Rattle.sql_schemas.specs.Keys.{and_then, KeyColumns, compares_missing, is_dependency, keys_of, new_keys}
use Rattle.sql_schemas.specs.Meaning.{IsStatedKey, declared_table, whole_keys}
use Rattle.sql_schemas.specs.Texts.{column_names, column_types, columns_missing, imported_text, table_text, text_of_facts}
use Rattle.sql_schemas.proofs.LineLemmas.{stated}
use Rattle.sql_schemas.proofs.MeaningLemmas.{IsTable, table_means, whole_of}
use Rattle.sql_schemas.proofs.StatedLemmas.{keys_as_many, keys_stated, keys_within, new_all, new_count}
use Rattle.sql_schemas.proofs.TableLemmas.{missing_within, names_apart, names_count, types_count}

-- ---- what the text means
table_is : (columns : List StatedColumn) (keys : List KeyColumns) → AreColumns columns → 0 < length columns
    → length keys ≤ MOST_DEPENDENCIES → All (λ key. IsSubset key.columns (below (length columns))) keys
    → IsTable (column_names columns) (column_types columns) (columns_missing columns keys) (new_keys (length columns) (columns_missing columns keys) [] keys)
table_is columns keys are some room within =
    let names = names_count columns in
    let types = types_count columns in
    let limit = are.within_limit in
    let count = new_count (length columns) (columns_missing columns keys) [] keys in
    let each : All (λ (key : KeyColumns). IsSubset key.columns (below (length columns))) (new_keys (length columns) (columns_missing columns keys) [] keys) =
    new_all (λ (key : KeyColumns). IsSubset key.columns (below (length columns))) (length columns) (columns_missing columns keys) [] keys
    (All-nil (λ (key : KeyColumns). IsSubset key.columns (below (length columns)))) within in
    record {
      some = omega (arith, names, some);
      within_limit = omega (arith, names, limit);
      are = record { each = All-map IsName (λ c. c.name) columns are.names; differ = names_apart columns are.names_differ };
      one_each = types ∙ sym names;
      types = All-map (λ column. IsTrue (is_column_type column)) (λ c. c.kind) columns are.types;
      missing_within = missing_within columns keys (length (column_names columns)) (omega (arith, names));
      keys_within = subst (λ (n : ℕ). All (λ (key : KeyColumns). IsSubset key.columns (below n)) (new_keys (length columns) (columns_missing columns keys) [] keys)) (sym names) each;
      keys_within_limit = omega (arith, count, room);
    }

-- what is declared, by how many names there are
same_declared : (columns : List StatedColumn) (keys : List KeyColumns) (lines : List ℕ)
    → whole_of (column_names columns) (column_types columns) (columns_missing columns keys) (new_keys (length columns) (columns_missing columns keys) [] keys) lines
    ≡ declared_table columns keys lines
same_declared columns keys lines =
    ap (λ (n : ℕ). with_deps n) (names_count columns)
  where
    with_deps : ℕ → Declarations
    with_deps n = record {
      names = column_names columns;
      columns = column_types columns;
      deps = stated n (columns_missing columns keys) (new_keys (length columns) (columns_missing columns keys) [] keys);
      lines = lines;
      naming = Any;
      nullable = columns_missing columns keys;
    }

pub text_means : (f : Facts) (keys : List KeyColumns) → AreColumns f.columns → 0 < length f.columns
    → length f.keys ≤ MOST_DEPENDENCIES → keys_of f ≡ Ok keys
    → (lines : List ℕ) × MeansSchema (table_text f.columns keys) (declared_table f.columns keys lines)
unfolding table_text
text_means f keys are some room read =
    let many = keys_as_many f keys read in
    let is = table_is f.columns keys are some (omega (arith, many, room)) (keys_within f keys read) in
    let (lines, means) = table_means (column_names f.columns) (column_types f.columns) (columns_missing f.columns keys)
    (new_keys (length f.columns) (columns_missing f.columns keys) [] keys) is in (
      lines,
      subst (MeansSchema (table_text f.columns keys)) (same_declared f.columns keys lines) means,
    )

-- ---- the keys whose dependencies are printed
pub whole_stated : (f : Facts) (keys : List KeyColumns) → keys_of f ≡ Ok keys
    → All (IsStatedKey f) (whole_keys f.columns keys)
whole_stated f keys read =
    All-filter (is_dependency (columns_missing f.columns keys)) (IsStatedKey f) (new_keys (length f.columns) (columns_missing f.columns keys) [] keys)
    (new_all (IsStatedKey f) (length f.columns) (columns_missing f.columns keys) [] keys (All-nil (IsStatedKey f)) (keys_stated f keys read))

-- those of a filter pass it
filter_passes : (test : KeyColumns → Bool) (keys : List KeyColumns) → All (λ key. test key ≡ true) (filter test keys)
filter_passes test [] = All-nil (λ key. test key ≡ true)
filter_passes test (key ∷ keys) = by_test (test key) refl (filter_passes test keys)
  where
    by_test : (b : Bool) → test key ≡ b → All (λ k. test k ≡ true) (filter test keys)
        → All (λ k. test k ≡ true) (cond b (key ∷ filter test keys) (filter test keys))
    by_test true passes rest = All-cons (λ k. test k ≡ true) key (filter test keys) passes rest
    by_test false fails rest = rest

pub whole_never_missing : (f : Facts) (keys : List KeyColumns) → length f.columns ≤ MOST_ATTRIBUTES
    → keys_of f ≡ Ok keys
    → All (λ key. (key.kind ≡ UniqueMissing) ⊎ Disjoint key.columns (columns_missing f.columns keys))
    (whole_keys f.columns keys)
whole_never_missing f keys limit read i default low =
    by_kind (get_or (whole_keys f.columns keys) i default).kind _
    (filter_passes (is_dependency missing) kept i default low)
    (is_disjoint-true _ _ (λ k member. beyond k (inside i default low k member)))
  where
    by_kind : (kind : KeyKind) (disjoint : Bool) {T : Type 0} → (compares_missing kind || disjoint) ≡ true
        → (disjoint ≡ true → T) → (kind ≡ UniqueMissing) ⊎ T
    by_kind UniqueMissing disjoint is pass = inl refl
    by_kind Primary disjoint is pass = inr (pass is)
    by_kind Unique disjoint is pass = inr (pass is)

    missing : Attributes
    missing = columns_missing f.columns keys

    kept : List KeyColumns
    kept = new_keys (length f.columns) missing [] keys

    inside : All (λ (key : KeyColumns). IsSubset key.columns (below (length f.columns))) (whole_keys f.columns keys)
    inside =
        All-filter (is_dependency missing) (λ (key : KeyColumns). IsSubset key.columns (below (length f.columns))) kept
        (new_all (λ (key : KeyColumns). IsSubset key.columns (below (length f.columns))) (length f.columns) missing [] keys
        (All-nil (λ (key : KeyColumns). IsSubset key.columns (below (length f.columns)))) (keys_within f keys read))

    beyond : (k : ℕ) → below (length f.columns) k ≡ true → below MOST_ATTRIBUTES k ≡ true
    beyond k here = grind (arith, nat_tests, here, limit)

-- ---- of the SQL of a text
-- the facts and keys of a text, and what the text that is printed of them means
pub import_means : (d : Dialect) (wanted : TableName) (text printed : List ℕ) → imported_text d wanted text ≡ Ok printed
    → (f : Facts) × (keys : List KeyColumns) × (lines : List ℕ) × (definition_of d wanted text ≡ Ok f) × (keys_of f ≡ Ok keys)
    × MeansSchema printed (declared_table f.columns keys lines)
import_means d wanted text printed says = by_facts (definition_of d wanted text) refl says
  where
    by_keys : (f : Facts) → definition_of d wanted text ≡ Ok f → (known : Result (List KeyColumns) Refusal) → keys_of f ≡ known
        → and_then known (λ keys. Ok (table_text f.columns keys)) ≡ Ok printed
        → (f : Facts) × (keys : List KeyColumns) × (lines : List ℕ) × (definition_of d wanted text ≡ Ok f) × (keys_of f ≡ Ok keys)
        × MeansSchema printed (declared_table f.columns keys lines)
    by_keys f read (Ok keys) known goes =
        let is = definition_reads d wanted text f read in
        let same : table_text f.columns keys ≡ printed = cc in
        let (lines, means) = text_means f keys is.fine.columns is.some is.fine.keys known in
        (f, keys, lines, read, known, subst (λ (t : List ℕ). MeansSchema t (declared_table f.columns keys lines)) same means)
    by_keys f read (Err refusal) known goes = cc

    by_facts : (read : Result Facts Refusal) → definition_of d wanted text ≡ read → and_then read text_of_facts ≡ Ok printed
        → (f : Facts) × (keys : List KeyColumns) × (lines : List ℕ) × (definition_of d wanted text ≡ Ok f) × (keys_of f ≡ Ok keys)
        × MeansSchema printed (declared_table f.columns keys lines)
    by_facts (Ok f) read goes = by_keys f read (keys_of f) refl goes
    by_facts (Err refusal) read goes = cc

pub read_never_missing : (d : Dialect) (wanted : TableName) (text : List ℕ) (f : Facts) (keys : List KeyColumns)
    → definition_of d wanted text ≡ Ok f → keys_of f ≡ Ok keys
    → All (λ key. (key.kind ≡ UniqueMissing) ⊎ Disjoint key.columns (columns_missing f.columns keys))
    (whole_keys f.columns keys)
read_never_missing d wanted text f keys read known =
    let is = definition_reads d wanted text f read in
    whole_never_missing f keys is.fine.columns.within_limit known
