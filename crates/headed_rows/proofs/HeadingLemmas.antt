-- What a header and the rows below it give, record by record.
use Rattle.std.proofs.Common.{inl, inr, ◌≡◌, ◌+◌, ◌<◌, ◌≤◌, ◌-◌, ℕ, Bool, true, false, if◌then◌else◌, Option, Some, None, List, [], ◌∷◌, ◌++◌, length, Result, Ok, Err, IfOk, IfErr, refl, sym, ap, subst, ◌∙◌, arith}
use Rattle.std.specs.Borrow.{Bor}
use Rattle.std.proofs.Math.Seq.{get_or-append_seam}
use Rattle.std.proofs.lemmas.List.{append-nil, length-append, append_assoc, get_or_append_left}
use Rattle.std.proofs.lemmas.Bool.{cases_lt}
use Rattle.std.proofs.lemmas.Bool.Decides.{nat_tests}
use Rattle.dep_model.proofs.ListLemmas.{same_default}
use Rattle.std.proofs.lemmas.List.Elements.{All-push}
use Rattle.csv.specs.declared.reader.Reader.{Reader}
use Rattle.csv_rows.specs.Records.{HasLeft, TakesRecord}
use Rattle.row_store.specs.Rows.{row_at}
use Rattle.dep_model.specs.Tuples.{Tuple, Relation, IsOver}
use Rattle.headed_rows.specs.Headers.{IsHeaderWithin, RefusesColumnHeader}
use Rattle.csv_rows.specs.Quotes.{ends_within_quotes, open_record, is_open}
use Rattle.csv_rows.specs.Records.{records_of}
use Rattle.headed_rows.specs.Headings.{AreRows, FitsRow, HeadedRows, IsHeadedWithin, IsRefusedWithin, ReadsNames, RefusesHeader, RefusesNames, RefusesRecords, RefusesRow, RefusesRows, is_open_at}
use Rattle.headed_rows.specs.declared.headed_rows.Limits.{Limits}
use Rattle.dep_model.specs.Failures.{RefusesAs}
use Rattle.dep_model.specs.declared.failure.Failure.{Failure}
use Rattle.headed_rows.specs.declared.refusal.HeaderRefusal.{HeaderRefusal}
use Rattle.headed_rows.specs.declared.refusal.HeaderRefusal.TheVariants as refusal

-- the first record was taken, or there was none
TakesRows-one : (old new : Reader (Bor (List ℕ))) (fields : List (List ℕ)) (b : Bool) (rs : List (List (List ℕ)))
    → b ≡ true → TakesRecord b old new fields → HasLeft old rs
    → (more : List (List (List ℕ))) × (rs ≡ fields ∷ more) × HasLeft new more
TakesRows-one old new fields b rs is takes left =
    let takes : TakesRecord true old new fields = subst (λ (t : Bool). TakesRecord t old new fields) is takes in
    takes rs left

TakesRows-none : (old new : Reader (Bor (List ℕ))) (fields : List (List ℕ)) (b : Bool) (rs : List (List (List ℕ)))
    → b ≡ false → TakesRecord b old new fields → HasLeft old rs → rs ≡ []
TakesRows-none old new fields b rs is takes left =
    let takes : TakesRecord false old new fields = subst (λ (t : Bool). TakesRecord t old new fields) is takes in
    takes rs left

-- the first record is the header
pub names_read : {T : Type 0} (widest : ℕ) (names : T → List (List ℕ)) (unclosed : Option ℕ) (old new : Reader (Bor (List ℕ))) (fields : List (List ℕ))
    (b : Bool) (r : Result T (Failure HeaderRefusal)) (rs : List (List (List ℕ)))
    → is_open unclosed 1 ≡ false → b ≡ true → TakesRecord b old new fields → HasLeft old rs
    → IfOk r (λ v. names v ≡ fields) → IfOk r (λ _. IsHeaderWithin widest fields) → IfOk r (λ v. ReadsNames widest unclosed rs new (names v))
names_read widest names unclosed old new fields b (Err e) rs closed is takes left all header = tt
names_read widest names unclosed old new fields b (Ok v) rs closed is takes left all header =
    let (more, whole, rest) = TakesRows-one old new fields b rs is takes left in
    record {
      records = more;
      all = whole ∙ ap (λ (f : List (List ℕ)). f ∷ more) (sym all);
      closed = closed;
      header = subst (IsHeaderWithin widest) (sym all) header;
      left = rest;
    }

-- a header without an open quote that is refused
closed_refused : (widest : ℕ) (b : Bool) (header : List (List ℕ)) (e : Failure HeaderRefusal) → b ≡ false → RefusesAs (RefusesColumnHeader widest header) e
    → RefusesAs (RefusesHeader widest b header) e
closed_refused widest b header e closed refused =
    subst (λ (t : Bool). RefusesAs (RefusesHeader widest t header) e) (sym closed) refused

pub names_refused : {T : Type 0} (widest : ℕ) (unclosed : Option ℕ) (old new : Reader (Bor (List ℕ))) (fields : List (List ℕ)) (b : Bool)
    (r : Result T (Failure HeaderRefusal)) (rs : List (List (List ℕ)))
    → is_open unclosed 1 ≡ false → b ≡ true → TakesRecord b old new fields → HasLeft old rs
    → IfErr r (RefusesAs (RefusesColumnHeader widest fields)) → IfErr r (RefusesAs (RefusesNames widest unclosed rs))
names_refused widest unclosed old new fields b (Ok v) rs closed is takes left refused = tt
names_refused widest unclosed old new fields b (Err e) rs closed is takes left refused =
    let (more, whole, rest) = TakesRows-one old new fields b rs is takes left in
    subst (λ (l : List (List (List ℕ))). RefusesAs (RefusesNames widest unclosed l) e) (sym whole)
    (closed_refused widest (is_open unclosed 1) fields e closed refused)

pub open_names : (widest : ℕ) (unclosed : Option ℕ) (old new : Reader (Bor (List ℕ))) (fields : List (List ℕ)) (b : Bool) (rs : List (List (List ℕ)))
    → is_open unclosed 1 ≡ true → b ≡ true → TakesRecord b old new fields → HasLeft old rs
    → RefusesNames widest unclosed rs refusal.OpenHeader
open_names widest unclosed old new fields b rs opens is takes left =
    let (more, whole, rest) = TakesRows-one old new fields b rs is takes left in
    subst (λ (l : List (List (List ℕ))). RefusesNames widest unclosed l refusal.OpenHeader) (sym whole)
    (subst (λ (t : Bool). RefusesHeader widest t fields refusal.OpenHeader) (sym opens) refl)

pub no_names : (widest : ℕ) (unclosed : Option ℕ) (old new : Reader (Bor (List ℕ))) (fields : List (List ℕ)) (b : Bool) (rs : List (List (List ℕ)))
    → b ≡ false → TakesRecord b old new fields → HasLeft old rs → RefusesNames widest unclosed rs refusal.NoHeader
no_names widest unclosed old new fields b rs is takes left =
    subst (λ (l : List (List (List ℕ))). RefusesNames widest unclosed l refusal.NoHeader)
    (sym (TakesRows-none old new fields b rs is takes left)) refl

-- records of which the first were taken as rows
pub record TakesRows (rs : List (List (List ℕ))) (reader : Reader (Bor (List ℕ))) (rows : Relation) : Type 0 where
  pub rest : List (List (List ℕ))
  pub all : rs ≡ rows ++ rest
  pub left : HasLeft reader rest

pub takes_row : (rs : List (List (List ℕ))) (old new : Reader (Bor (List ℕ))) (b : Bool) (fields : List (List ℕ))
    (rows : Relation) (t : Tuple)
    → TakesRows rs old rows → b ≡ true → TakesRecord b old new fields → t ≡ fields → TakesRows rs new (rows ++ t ∷ [])
takes_row rs old new b fields rows t p is takes same =
    let (more, whole, rest) = TakesRows-one old new fields b p.rest is takes p.left in
    record {
      rest = more;
      all = p.all ∙ ap (λ (l : List (List (List ℕ))). rows ++ l)
          (whole ∙ ap (λ (f : List (List ℕ)). f ∷ more) (sym same)) ∙ sym (append_assoc rows (t ∷ []) more);
      left = rest;
    }

pub takes_all_rows : (rs : List (List (List ℕ))) (old new : Reader (Bor (List ℕ))) (b : Bool) (fields : List (List ℕ))
    (rows : Relation)
    → TakesRows rs old rows → b ≡ false → TakesRecord b old new fields → rows ≡ rs
takes_all_rows rs old new b fields rows p is takes =
    sym (append-nil rows) ∙ ap (λ (l : List (List (List ℕ))). rows ++ l)
    (sym (TakesRows-none old new fields b p.rest is takes p.left)) ∙ sym p.all

-- the record at hand stands after the rows
module _ (most : ℕ) (unclosed : Option ℕ) (n : ℕ) (rs : List (List (List ℕ))) (old new : Reader (Bor (List ℕ))) (b : Bool)
    (fields : List (List ℕ)) (rows : Relation) (p : TakesRows rs old rows)
    (is : b ≡ true) (takes : TakesRecord b old new fields) (fit : AreRows most unclosed n rows (length rows)) where
  at_hand : (more : List (List (List ℕ))) × (rs ≡ rows ++ fields ∷ more)
  at_hand =
      let (more, whole, rest) = TakesRows-one old new fields b p.rest is takes p.left in
      (more, p.all ∙ ap (λ (l : List (List (List ℕ))). rows ++ l) whole)

  here : row_at rs (length rows) ≡ fields
  here = ap (λ (l : List (List (List ℕ))). row_at l (length rows)) at_hand.1
      ∙ get_or-append_seam rows fields at_hand.0 []

  within : length rows < length rs
  within = omega (arith, ap length at_hand.1 ∙ length-append rows (fields ∷ at_hand.0))

  fit_before : AreRows most unclosed n rs (length rows)
  fit_before i l =
      subst (λ (f : List (List ℕ)). FitsRow most unclosed n i f)
      (sym (ap (λ (m : List (List (List ℕ))). row_at m i) at_hand.1
      ∙ get_or_append_left rows (fields ∷ at_hand.0) [] i l)) (fit i l)

  pub row_refused : (count : ℕ) (e : HeaderRefusal) → count ≡ length rows → RefusesRow most unclosed n count fields e
      → RefusesRows most unclosed n rs e
  row_refused count e same refused = record {
    at = length rows;
    within = within;
    before = fit_before;
    refused = subst (λ (f : List (List ℕ)). RefusesRow most unclosed n (length rows) f e) (sym here)
        (subst (λ (i : ℕ). RefusesRow most unclosed n i fields e) same refused);
  }

-- one row more
pub fit_more : (most : ℕ) (unclosed : Option ℕ) (n : ℕ) (rows : Relation) (t : Tuple) → AreRows most unclosed n rows (length rows)
    → FitsRow most unclosed n (length rows) t → AreRows most unclosed n (rows ++ t ∷ []) (length (rows ++ t ∷ []))
fit_more most unclosed n rows t fit next i l = elim (cases_lt i (length rows)) [
  | inl front ↦
      subst (λ (f : List (List ℕ)). FitsRow most unclosed n i f) (sym (get_or_append_left rows (t ∷ []) [] i front)) (fit i front)
  | inr end ↦
      let at : length rows ≡ i = omega (arith, l, end, length-append rows (t ∷ [])) in
      subst (λ (j : ℕ). FitsRow most unclosed n j (row_at (rows ++ t ∷ []) j)) at
      (subst (λ (f : List (List ℕ)). FitsRow most unclosed n (length rows) f) (sym (get_or-append_seam rows t [] [])) next)
]

pub none_fit : (most : ℕ) (unclosed : Option ℕ) (n : ℕ) (rows : Relation) → rows ≡ [] → AreRows most unclosed n rows (length rows)
none_fit most unclosed n rows none i l = absurd (omega (arith, l, ap length none))

-- rows that fit have n values each, and are no more than there may be
pub fit_over : (most : ℕ) (unclosed : Option ℕ) (n : ℕ) (rows : Relation) → AreRows most unclosed n rows (length rows) → IsOver n rows
fit_over most unclosed n rows fit i d l = ap length (same_default rows i d [] l) ∙ (fit i l).1

pub fit_within : (most : ℕ) (unclosed : Option ℕ) (n : ℕ) (rows : Relation) → AreRows most unclosed n rows (length rows)
    → length rows ≤ most
fit_within most unclosed n [] fit = omega arith
fit_within most unclosed n (row ∷ rows) fit = let last = (fit (length rows) (omega arith)).2 in omega (arith, last)

pub over_more : (n : ℕ) (rows : Relation) (t : Tuple) → IsOver n rows → length t ≡ n → IsOver n (rows ++ t ∷ [])
over_more n rows t even fits = All-push (λ (u : Tuple). length u ≡ n) rows t even fits

-- the whole text, where the open record was found
pub header_refused : (limits : Limits) (unclosed : Option ℕ) (rs : List (List (List ℕ))) (e : HeaderRefusal) → RefusesNames limits.columns unclosed rs e
    → RefusesRecords limits unclosed rs e
header_refused limits unclosed [] e h = h
header_refused limits unclosed (header ∷ records) e h = inl h

pub rows_refused : (limits : Limits) (unclosed : Option ℕ) (rs : List (List (List ℕ))) (reader : Reader (Bor (List ℕ))) (names : List (List ℕ)) (n : ℕ)
    (e : HeaderRefusal)
    → (read : ReadsNames limits.columns unclosed rs reader names) → n ≡ length names → RefusesRows limits.rows unclosed n read.records e → RefusesRecords limits unclosed rs e
rows_refused limits unclosed rs reader names n e read count refused =
    subst (λ (l : List (List (List ℕ))). RefusesRecords limits unclosed l e) (sym read.all)
    (inr (read.closed, read.header, subst (λ (m : ℕ). RefusesRows limits.rows unclosed m read.records e) count refused))

pub refused_text : (limits : Limits) (text : List ℕ) (unclosed : Option ℕ) (e : HeaderRefusal) → unclosed ≡ open_record text
    → RefusesRecords limits unclosed (records_of text) e → IsRefusedWithin limits text e
refused_text limits text unclosed e same refused =
    subst (λ (o : Option ℕ). RefusesRecords limits o (records_of text) e) same refused

-- where neither the header nor a row is open, the text ends outside of quotes
ends_outside : (text : List ℕ) (names : List (List ℕ)) (rows : Relation) → records_of text ≡ names ∷ rows
    → is_open (open_record text) 1 ≡ false → ((i : ℕ) → i < length rows → is_open_at (open_record text) i ≡ false)
    → ends_within_quotes text ≡ false
ends_outside text names rows all header closed = by (ends_within_quotes text) header closed
  where
    by : (b : Bool) → is_open (if b then Some (length (records_of text)) else None) 1 ≡ false
        → ((i : ℕ) → i < length rows → is_open_at (if b then Some (length (records_of text)) else None) i ≡ false) → b ≡ false
    by false h c = refl
    by true h c =
        let count : length (records_of text) ≡ length rows + 1 = ap length all ∙ omega arith in
        elim (cases_lt 0 (length rows)) [
          | inl some ↦
              let last : is_open_at (Some (length (records_of text))) (length rows - 1) ≡ false = c (length rows - 1) (omega (arith, some)) in
              absurd (grind (arith, nat_tests, last, count, some))
          | inr none ↦ absurd (grind (arith, nat_tests, h, count, none))
        ]

pub is_headed : (limits : Limits) (text : List ℕ) (unclosed : Option ℕ) (reader : Reader (Bor (List ℕ))) (h : HeadedRows) (n : ℕ) → unclosed ≡ open_record text
    → (read : ReadsNames limits.columns unclosed (records_of text) reader h.names)
    → n ≡ length h.names → h.rows ≡ read.records → ((i : ℕ) → i < length h.rows → is_open_at unclosed i ≡ false)
    → IsOver n h.rows → length h.rows ≤ limits.rows → IsHeadedWithin limits text h
is_headed limits text unclosed reader h n same read count rows closed even in_limit =
    let all : records_of text ≡ h.names ∷ h.rows = read.all ∙ ap (λ (l : List (List (List ℕ))). h.names ∷ l) (sym rows) in
    record {
      all = all;
      closed = ends_outside text h.names h.rows all (ap (λ (o : Option ℕ). is_open o 1) (sym same) ∙ read.closed)
          (λ i l. ap (λ (o : Option ℕ). is_open_at o i) (sym same) ∙ closed i l);
      header = read.header;
      even = subst (λ (m : ℕ). IsOver m h.rows) count even;
      within_limit = in_limit;
    }
