-- The records of a text have one header with its rows, or one refusal.
use Rattle.std.proofs.Common.{inl, inr, ◌≡◌, ◌≢◌, ◌+◌, ◌<◌, ◌≤◌, ◌⊎◌, ℕ, Bool, true, false, if◌then◌else◌, Option, Some, List, [], ◌∷◌, length, take, refl, sym, ap, subst, ◌∙◌, arith, None}
use Rattle.std.proofs.lemmas.Bool.{cases_lt, true≢false}
use Rattle.schema_model.specs.Schemas.{attribute_named}
use Rattle.dep_model.specs.Tuples.{Relation, IsOver}
use Rattle.schema_model.specs.Names.{IsName}
use Rattle.headed_rows.specs.Headers.{NamesColumn, RefusesColumn, field_at, IsHeaderWithin, RefusesField, RefusesColumnHeader}
use Rattle.csv_rows.specs.Quotes.{open_record, is_open}
use Rattle.csv_rows.specs.Records.{records_of}
use Rattle.row_store.specs.Rows.{row_at}
use Rattle.headed_rows.specs.Headings.{FitsRow, HeadedRows, IsHeadedWithin, IsRefusedWithin, RefusesHeader, RefusesRecords, RefusesRow, RefusesRows, is_open_at}
use Rattle.headed_rows.specs.declared.headed_rows.Limits.{Limits}
use Rattle.headed_rows.specs.declared.refusal.HeaderRefusal.{HeaderRefusal}
use Rattle.headed_rows.specs.declared.refusal.HeaderRefusal.TheVariants as refusal

at_most_not_beyond : (n most : ℕ) → n ≤ most → most < n → ⊥
at_most_not_beyond n most within beyond = omega (arith, within, beyond)

-- ---- columns
-- the refusal of a field is that of a bad name, or of a name that stands before it
abbrev SeenColumn : List (List ℕ) → List ℕ → ℕ → HeaderRefusal → Type 0
SeenColumn before field column e =
    ((e ≡ refusal.BadColumn column) × (IsName field → ⊥))
    ⊎ ((e ≡ refusal.DoubleColumn column) × IsName field × (attribute_named before field ≢ None))

seen_column : (before : List (List ℕ)) (field : List ℕ) (column : ℕ) (e : HeaderRefusal)
    → RefusesColumn before field column e → SeenColumn before field column e
seen_column before field column (refusal.BadColumn c) p = inl (ap refusal.BadColumn p.0, p.1)
seen_column before field column (refusal.DoubleColumn c) p = inr (ap refusal.DoubleColumn p.0, p.1, p.2)
seen_column before field column refusal.NoHeader p = absurd p
seen_column before field column refusal.TooManyColumns p = absurd p
seen_column before field column (refusal.UnevenRow r) p = absurd p
seen_column before field column refusal.TooManyRows p = absurd p
seen_column before field column refusal.OpenHeader p = absurd p
seen_column before field column (refusal.OpenRow r) p = absurd p

named_not_refused : (before : List (List ℕ)) (field : List ℕ) (column : ℕ) (e : HeaderRefusal)
    → NamesColumn before field → RefusesColumn before field column e → ⊥
named_not_refused before field column e named p = by (seen_column before field column e p)
  where
    by : SeenColumn before field column e → ⊥
    by (inl (is, bad)) = bad named.0
    by (inr (is, good, double)) = double named.1

column_same : (before : List (List ℕ)) (field : List ℕ) (column : ℕ) (e f : HeaderRefusal)
    → RefusesColumn before field column e → RefusesColumn before field column f → e ≡ f
column_same before field column e f p q =
    by (seen_column before field column e p) (seen_column before field column f q)
  where
    by : SeenColumn before field column e → SeenColumn before field column f → e ≡ f
    by (inl (is, bad)) (inl (also, worse)) = is ∙ sym also
    by (inl (is, bad)) (inr (also, good, double)) = absurd (bad good)
    by (inr (is, good, double)) (inl (also, bad)) = absurd (bad good)
    by (inr (is, good, double)) (inr (also, fine, twice)) = is ∙ sym also

field_same : (widest : ℕ) (header : List (List ℕ)) (e f : HeaderRefusal) → RefusesField widest header e → RefusesField widest header f → e ≡ f
field_same widest header e f p q = elim (cases_lt p.at q.at) [
  | inl before ↦ absurd
      (named_not_refused (take p.at header) (field_at header p.at) (p.at + 1) e (q.before p.at before) p.refused)
  | inr on ↦ elim (cases_lt q.at p.at) [
    | inl before ↦ absurd
        (named_not_refused (take q.at header) (field_at header q.at) (q.at + 1) f (p.before q.at before) q.refused)
    | inr here ↦
        let one : q.at ≡ p.at = omega (arith, on, here) in
        column_same (take p.at header) (field_at header p.at) (p.at + 1) e f p.refused
        (subst (λ (i : ℕ). RefusesColumn (take i header) (field_at header i) (i + 1) f) one q.refused)
  ]
]

-- ---- headers
header_same : (widest : ℕ) (header : List (List ℕ)) (e f : HeaderRefusal) → RefusesColumnHeader widest header e → RefusesColumnHeader widest header f → e ≡ f
header_same widest header e f (inl p) (inl q) = p.0 ∙ sym q.0
header_same widest header e f (inl p) (inr q) = absurd (at_most_not_beyond (length header) widest q.within_limit p.1)
header_same widest header e f (inr p) (inl q) = absurd (at_most_not_beyond (length header) widest p.within_limit q.1)
header_same widest header e f (inr p) (inr q) = field_same widest header e f p q

header_not_refused : (widest : ℕ) (header : List (List ℕ)) (e : HeaderRefusal) → IsHeaderWithin widest header → RefusesColumnHeader widest header e → ⊥
header_not_refused widest header e is (inl p) = at_most_not_beyond (length header) widest is.within_limit p.1
header_not_refused widest header e is (inr p) =
    named_not_refused (take p.at header) (field_at header p.at) (p.at + 1) e (is.named p.at p.within) p.refused

-- ---- rows
-- the refusal of a record is that of an open quote, of its length, or that there are too many
abbrev SeenRow : ℕ → Option ℕ → ℕ → ℕ → List (List ℕ) → HeaderRefusal → Type 0
SeenRow most unclosed n i fields e =
    ((e ≡ refusal.OpenRow (i + 1)) × (is_open_at unclosed i ≡ true))
    ⊎ ((e ≡ refusal.UnevenRow (i + 1)) × (is_open_at unclosed i ≡ false) × (length fields ≢ n))
    ⊎ ((e ≡ refusal.TooManyRows) × (is_open_at unclosed i ≡ false) × (length fields ≡ n) × (most ≤ i))

seen_row : (most : ℕ) (unclosed : Option ℕ) (n i : ℕ) (fields : List (List ℕ)) (e : HeaderRefusal)
    → RefusesRow most unclosed n i fields e → SeenRow most unclosed n i fields e
seen_row most unclosed n i fields (refusal.OpenRow row) p = inl (ap refusal.OpenRow p.0, p.1)
seen_row most unclosed n i fields (refusal.UnevenRow row) p = inr (inl (ap refusal.UnevenRow p.0, p.1, p.2))
seen_row most unclosed n i fields refusal.TooManyRows p = inr (inr (refl, p.0, p.1, p.2))
seen_row most unclosed n i fields refusal.NoHeader p = absurd p
seen_row most unclosed n i fields refusal.OpenHeader p = absurd p
seen_row most unclosed n i fields refusal.TooManyColumns p = absurd p
seen_row most unclosed n i fields (refusal.BadColumn c) p = absurd p
seen_row most unclosed n i fields (refusal.DoubleColumn c) p = absurd p

row_same : (most : ℕ) (unclosed : Option ℕ) (n i : ℕ) (fields : List (List ℕ)) (e f : HeaderRefusal)
    → RefusesRow most unclosed n i fields e → RefusesRow most unclosed n i fields f → e ≡ f
row_same most unclosed n i fields e f p q = by (seen_row most unclosed n i fields e p) (seen_row most unclosed n i fields f q)
  where
    by : SeenRow most unclosed n i fields e → SeenRow most unclosed n i fields f → e ≡ f
    by (inl (is, opens)) (inl (also, open_too)) = is ∙ sym also
    by (inl (is, opens)) (inr (inl (also, closed, other))) = absurd (true≢false (sym opens ∙ closed))
    by (inl (is, opens)) (inr (inr (also, closed, even, many))) = absurd (true≢false (sym opens ∙ closed))
    by (inr (inl (is, closed, other))) (inl (also, opens)) = absurd (true≢false (sym opens ∙ closed))
    by (inr (inl (is, closed, other))) (inr (inl (also, shut, uneven))) = is ∙ sym also
    by (inr (inl (is, closed, other))) (inr (inr (also, shut, even, many))) = absurd (other even)
    by (inr (inr (is, closed, even, many))) (inl (also, opens)) = absurd (true≢false (sym opens ∙ closed))
    by (inr (inr (is, closed, even, many))) (inr (inl (also, shut, other))) = absurd (other even)
    by (inr (inr (is, closed, even, many))) (inr (inr (also, shut, same, more))) = is ∙ sym also

fits_not_refused : (most : ℕ) (unclosed : Option ℕ) (n i : ℕ) (fields : List (List ℕ)) (e : HeaderRefusal)
    → FitsRow most unclosed n i fields → RefusesRow most unclosed n i fields e → ⊥
fits_not_refused most unclosed n i fields e fits p = by (seen_row most unclosed n i fields e p)
  where
    by : SeenRow most unclosed n i fields e → ⊥
    by (inl (is, opens)) = true≢false (sym opens ∙ fits.0)
    by (inr (inl (is, closed, other))) = other fits.1
    by (inr (inr (is, closed, even, many))) = at_most_not_beyond most i many fits.2

under_same : (most : ℕ) (unclosed : Option ℕ) (n : ℕ) (rows : Relation) (e f : HeaderRefusal) → RefusesRows most unclosed n rows e
    → RefusesRows most unclosed n rows f → e ≡ f
under_same most unclosed n rows e f p q = elim (cases_lt p.at q.at) [
  | inl before ↦ absurd (fits_not_refused most unclosed n p.at (row_at rows p.at) e (q.before p.at before) p.refused)
  | inr on ↦ elim (cases_lt q.at p.at) [
    | inl before ↦ absurd (fits_not_refused most unclosed n q.at (row_at rows q.at) f (p.before q.at before) q.refused)
    | inr here ↦
        let one : q.at ≡ p.at = omega (arith, on, here) in
        row_same most unclosed n p.at (row_at rows p.at) e f p.refused
        (subst (λ (i : ℕ). RefusesRow most unclosed n i (row_at rows i) f) one q.refused)
  ]
]

rows_not_refused : (most n : ℕ) (rows : Relation) (e : HeaderRefusal) → IsOver n rows → length rows ≤ most
    → RefusesRows most None n rows e → ⊥
rows_not_refused most n rows e over in_limit p =
    fits_not_refused most None n p.at (row_at rows p.at) e (refl, over p.at [] p.within, omega (arith, p.within, in_limit)) p.refused

-- ---- headers that may have an open quote
header_of_same : (widest : ℕ) (b : Bool) (header : List (List ℕ)) (e f : HeaderRefusal) → RefusesHeader widest b header e → RefusesHeader widest b header f → e ≡ f
header_of_same widest true header e f p q = p ∙ sym q
header_of_same widest false header e f p q = header_same widest header e f p q

closed_header_not_refused : (widest : ℕ) (b : Bool) (header : List (List ℕ)) (e : HeaderRefusal) → b ≡ false → IsHeaderWithin widest header
    → RefusesHeader widest b header e → ⊥
closed_header_not_refused widest b header e closed is p =
    header_not_refused widest header e is (subst (λ (t : Bool). RefusesHeader widest t header e) closed p)

-- ---- records
records_same : (limits : Limits) (unclosed : Option ℕ) (records : List (List (List ℕ))) (e f : HeaderRefusal) → RefusesRecords limits unclosed records e
    → RefusesRecords limits unclosed records f → e ≡ f
records_same limits unclosed [] e f p q = p ∙ sym q
records_same limits unclosed (header ∷ rows) e f (inl p) (inl q) = header_of_same limits.columns (is_open unclosed 1) header e f p q
records_same limits unclosed (header ∷ rows) e f (inl p) (inr q) = absurd (closed_header_not_refused limits.columns (is_open unclosed 1) header e q.0 q.1 p)
records_same limits unclosed (header ∷ rows) e f (inr p) (inl q) = absurd (closed_header_not_refused limits.columns (is_open unclosed 1) header f p.0 p.1 q)
records_same limits unclosed (header ∷ rows) e f (inr p) (inr q) = under_same limits.rows unclosed (length header) rows e f p.2 q.2

pub refused_same : (limits : Limits) (text : List ℕ) (e f : HeaderRefusal) → IsRefusedWithin limits text e → IsRefusedWithin limits text f → e ≡ f
refused_same limits text e f p q = records_same limits (open_record text) (records_of text) e f p q

not_refused : (limits : Limits) (names : List (List ℕ)) (rows : Relation) (e : HeaderRefusal) → IsHeaderWithin limits.columns names
    → IsOver (length names) rows → length rows ≤ limits.rows → RefusesRecords limits None (names ∷ rows) e → ⊥
not_refused limits names rows e header even in_limit (inl p) = header_not_refused limits.columns names e header p
not_refused limits names rows e header even in_limit (inr p) = rows_not_refused limits.rows (length names) rows e even in_limit p.2

pub never_both : (limits : Limits) (text : List ℕ) (h : HeadedRows) (e : HeaderRefusal) → IsHeadedWithin limits text h → IsRefusedWithin limits text e → ⊥
never_both limits text h e is p =
    let none : open_record text ≡ None = ap (λ (b : Bool). if b then Some (length (records_of text)) else None) is.closed in
    not_refused limits h.names h.rows e is.header is.even is.within_limit
    (subst (λ (rs : List (List (List ℕ))). RefusesRecords limits None rs e) is.all
    (subst (λ (o : Option ℕ). RefusesRecords limits o (records_of text) e) none p))

pub headed_same : (limits : Limits) (text : List ℕ) (one other : HeadedRows) → IsHeadedWithin limits text one → IsHeadedWithin limits text other
    → one ≡ other
headed_same limits text one other p q =
    let same : one.names ∷ one.rows ≡ other.names ∷ other.rows = sym p.all ∙ q.all in
    let names : one.names ≡ other.names = cc in
    let rows : one.rows ≡ other.rows = cc in
    λ i. record { names = names i; rows = rows i }
