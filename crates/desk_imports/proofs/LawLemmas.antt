-- The schema of the columns of a file: the values that fit it, what its text means, and that it is one.
use Rattle.std.proofs.Common.{inl, inr, ◌≡◌, ◌<◌, ◌≤◌, ℕ, Bool, true, List, [], ◌++◌, length, map, get_or, refl, sym, ap, subst, ◌∙◌, arith}
use Rattle.std.proofs.lemmas.Bool.{cases_lt}
use Rattle.std.proofs.lemmas.Bool.Decides.{nat_tests}
use Rattle.std.proofs.lemmas.List.{ext_get_or, get_or_default}
use Rattle.std.proofs.lemmas.Option.{slice_get-get_or, slice_get_within}
use Rattle.attr_sets.specs.Attributes.{Attributes, below}
use Rattle.attr_sets.proofs.AttributesLemmas.{same_truth}
use Rattle.column_types.proofs.FirstLemmas.{type_once}
use Rattle.column_types.specs.FirstTypes.{AreTypesOf, HasEmpty, HaveEmpty, IsTypeOf, value_in}
use Rattle.column_values.specs.Values.{FitsColumn, FitsColumns}
use Rattle.schema_model.specs.Schemas.{names_of, naming_of, nullable_of, types_of}
use Rattle.dep_model.specs.Tuples.{Relation, Tuple, value_at}
use Rattle.schema_model.specs.declared.column_type.ColumnType.{ColumnType}
use Rattle.schema_model.specs.declared.column_type.ColumnType.TheVariants.{Text}
use Rattle.schema_model.specs.declared.naming.Naming.{Naming}
use Rattle.schema_model.specs.Schemas.{Schema}
use Rattle.headed_rows.specs.Headings.{HeadedRows}
use Rattle.schema_printer.specs.Printing.{lines_text, schema_lines, schema_text}
use Rattle.schema_printer.specs.Spelling.{printed_names_of, spelling}
use Rattle.desk_imports.specs.Columns.{ImportsColumns, IsSchemaOf}
use Rattle.desk_responses.specs.ResponseValues.{ResponseValue, text_only}
use Rattle.desk_responses.specs.declared.status.Status.TheVariants.{Yes}

-- ---- the values fit
value_fits : (rows : Relation) (k i : ℕ) (column : ColumnType) (nullable : Bool) → IsTypeOf rows k column
    → (HasEmpty rows k → nullable ≡ true) → i < length rows → FitsColumn column nullable (value_in rows k i)
value_fits rows k i column nullable (inl (empty, text)) told low =
    subst (λ (c : ColumnType). FitsColumn c nullable (value_in rows k i)) (sym text) (inr tt)
value_fits rows k i column nullable (inr (some, first)) told low = elim (first.all i low) [
  | inl missing ↦ inl (told (i, low, missing.1), missing.1)
  | inr value ↦ inr value
]

pub values_fit : (headed : HeadedRows) (s : Schema) → IsSchemaOf headed s → FitsColumns s headed.rows
values_fit headed s is i d low k column here =
    let rows = headed.rows in
    let within : k < length headed.names =
    omega (arith, slice_get_within (types_of s) k column here, s.typed.one_each, ap length is.names) in
    subst (λ (t : Tuple). FitsColumn column (nullable_of s k) (value_at t k)) (get_or_default rows i [] d low)
    (value_fits rows k i column (nullable_of s k) (is.types k column here) (is.nullable.each k within).1 low)

-- ---- there is one such schema
empty_once : (n : ℕ) (rows : Relation) (x y : Attributes) → HaveEmpty n rows x → HaveEmpty n rows y → (k : ℕ) → x k ≡ y k
empty_once n rows x y p q k = elim (cases_lt k n) [
  | inl low ↦ same_truth (x k) (y k) (λ in_x. (q.each k low).1 ((p.each k low).0 in_x)) (λ in_y. (p.each k low).1 ((q.each k low).0 in_y))
  | inr past ↦ same_truth (x k) (y k) (λ in_x. absurd (beyond past (p.within k in_x))) (λ in_y. absurd (beyond past (q.within k in_y)))
]
  where
    beyond : n ≤ k → below n k ≡ true → ⊥
    beyond past low = grind (arith, nat_tests, past, low)

types_once : (rows : Relation) (xs ys : List ColumnType) → length xs ≡ length ys → AreTypesOf rows xs → AreTypesOf rows ys → xs ≡ ys
types_once rows xs ys count p q =
    ext_get_or Text xs ys count (λ i low.
    type_once rows i (get_or xs i Text) (get_or ys i Text) (p i (get_or xs i Text) (slice_get-get_or xs i Text low))
    (q i (get_or ys i Text) (slice_get-get_or ys i Text (omega (arith, low, count)))))

-- the text of a schema without dependencies, where these are its parts
text_of : Naming → List ColumnType → List (List ℕ) → Attributes → List ℕ
text_of naming columns names nullable =
    lines_text (schema_lines naming columns (map (spelling naming) names) nullable ++ [])

text_parts : (s : Schema) → schema_text s [] ≡ text_of (naming_of s) (types_of s) (names_of s) (nullable_of s)
unfolding schema_text printed_names_of text_of
text_parts s = refl

pub text_once : (headed : HeadedRows) (s t : Schema) → IsSchemaOf headed s → IsSchemaOf headed t → schema_text s [] ≡ schema_text t []
text_once headed s t p q =
    let rows = headed.rows in
    let names : names_of s ≡ names_of t = p.names ∙ sym q.names in
    let count : length (types_of s) ≡ length (types_of t) = omega (arith, s.typed.one_each, t.typed.one_each, ap length names) in
    let types = types_once rows (types_of s) (types_of t) count p.types q.types in
    let each = empty_once (length headed.names) rows (nullable_of s) (nullable_of t) p.nullable q.nullable in
    let nullable : nullable_of s ≡ nullable_of t = (λ i k. each k i) in
    text_parts s
    ∙ ap (λ (naming : Naming). text_of naming (types_of s) (names_of s) (nullable_of s)) (p.naming ∙ sym q.naming)
    ∙ ap (λ (columns : List ColumnType). text_of (naming_of t) columns (names_of s) (nullable_of s)) types
    ∙ ap (λ (ns : List (List ℕ)). text_of (naming_of t) (types_of t) ns (nullable_of s)) names
    ∙ ap (λ (x : Attributes). text_of (naming_of t) (types_of t) (names_of t) x) nullable
    ∙ sym (text_parts t)

pub import_once : (headed : HeadedRows) (one other : ResponseValue) → ImportsColumns headed one → ImportsColumns headed other
    → one ≡ other
import_once headed one other (s, p, says) (t, q, said) = says ∙ ap (text_only Yes) (text_once headed s t p q) ∙ sym said
