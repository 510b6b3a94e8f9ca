-- The records of a printed text of rows, whatever the names of its columns.
use Rattle.std.proofs.Common.{◌≡◌, ◌+◌, ◌<◌, ◌==◌, ◌&&◌, ℕ, zero, suc, Bool, true, false, List, [], ◌∷◌, ◌++◌, length, Option, Some, None, IsTrue, refl, sym, ap, subst, ◌∙◌, ⊎_elim, inl, inr, append-nil, append_assoc, arith}
use Rattle.std.specs.Prelude.{All, if◌then◌else◌}
use Rattle.std.specs.List.{fold, list_any}
use Rattle.std.proofs.lemmas.Bool.{and_parts, cases_Bool, eqb-true, true≢false}
use Rattle.std.proofs.lemmas.Bool.Decides.{nat_tests}
use Rattle.std.proofs.lemmas.List.{append_cancel_right}
use Rattle.std.proofs.lemmas.List.Sums.{fold-append}
use Rattle.csv.specs.Machine.{next_record}
use Rattle.csv.specs.Reading.{default_config, is_bom, records_from, strip_bom}
use Rattle.csv.specs.Writing.{default_writer, escaped, field_text, fields_text, is_blank, needs_byte, read_back, row_text}
use Rattle.csv.specs.declared.parser.State.TheVariants as st
use Rattle.csv.proofs.RoundTrip.{read-write}
use Rattle.csv_rows.specs.Quotes.{ends_within_quotes, is_quoted, next_place, open_record}
use Rattle.csv_rows.specs.Records.{records_of}
use Rattle.csv_rows.specs.declared.quotes.Place.{Place}
use Rattle.csv_rows.specs.declared.quotes.Place.TheVariants as place
use Rattle.csv_rows.proofs.QuoteLemmas.{ended}
use Rattle.csv_rows.proofs.RecordLemmas.{no_more, one_more}
use Rattle.csv_text.specs.Rows.{rows_only, rows_text}
use Rattle.dep_model.specs.Tuples.{Relation, Tuple}
use Rattle.schema_model.specs.Names.{IsName, begins_with_mark}

-- ---- the records of rows
back_same : (row : List (List ℕ)) → 0 < length row → read_back row ≡ row
back_same [] not_empty = absurd (omega (arith, not_empty))
back_same (x ∷ rest) not_empty = refl

nothing_left : next_record default_config st.StartRecord [] [] [] ≡ None
unfolding next_record
nothing_left = refl

rows_back : (rows : Relation) → All (λ row. 0 < length row) rows
    → records_from default_config (length (rows_only rows) + 1) st.StartRecord (rows_only rows) ≡ rows
rows_back [] not_empty = no_more st.StartRecord [] nothing_left
rows_back (row ∷ rows) not_empty =
    one_more st.StartRecord (row_text default_writer row ++ rows_only rows)
    (read_back row, st.StartRecord, rows_only rows) refl (read-write row (rows_only rows))
    ∙ ap (λ (r : Tuple). r ∷ records_from default_config (length (rows_only rows) + 1) st.StartRecord (rows_only rows)) (back_same row (not_empty 0 [] (omega arith)))
    ∙ ap (λ (rest : Relation). row ∷ rest) (rows_back rows (λ k d h. not_empty (suc k) d (omega (arith, h))))

-- ---- a text that does not begin with a mark
-- a byte that no mark has
abbrev IsPlain : ℕ → Type 0
IsPlain b = ((b == 239) ≡ false) × ((b == 187) ≡ false) × ((b == 191) ≡ false)

no_first : (b : ℕ) (rest : List ℕ) → (b == 239) ≡ false → strip_bom (b ∷ rest) ≡ b ∷ rest
unfolding strip_bom
no_first b [] other = refl
no_first b (c ∷ []) other = refl
no_first b (c ∷ d ∷ rest) other = rw other refl

no_second : (a b : ℕ) (rest : List ℕ) → (b == 187) ≡ false → strip_bom (a ∷ b ∷ rest) ≡ a ∷ b ∷ rest
unfolding strip_bom
no_second a b [] other = refl
no_second a b (c ∷ rest) other = ap (λ (t : Bool). if ((a == 239) && t) && (c == 191) then rest else a ∷ b ∷ c ∷ rest) other ∙ (by (a == 239))
  where
    by : (t : Bool) → (if (t && false) && (c == 191) then rest else a ∷ b ∷ c ∷ rest) ≡ a ∷ b ∷ c ∷ rest
    by true = refl
    by false = refl

no_third : (a b c : ℕ) (rest : List ℕ) → (c == 191) ≡ false → strip_bom (a ∷ b ∷ c ∷ rest) ≡ a ∷ b ∷ c ∷ rest
unfolding strip_bom
no_third a b c rest other =
    ap (λ (t : Bool). if ((a == 239) && (b == 187)) && t then rest else a ∷ b ∷ c ∷ rest) other ∙ (by ((a == 239) && (b == 187)))
  where
    by : (t : Bool) → (if t && false then rest else a ∷ b ∷ c ∷ rest) ≡ a ∷ b ∷ c ∷ rest
    by true = refl
    by false = refl

no_mark : (a b c : ℕ) (rest : List ℕ) → is_bom a b c ≡ false → strip_bom (a ∷ b ∷ c ∷ rest) ≡ a ∷ b ∷ c ∷ rest
unfolding strip_bom
no_mark a b c rest other = rw other refl

-- a name without a mark, and a plain byte after it
name_unmarked : (name : List ℕ) (b : ℕ) (rest : List ℕ) → begins_with_mark name ≡ false → IsPlain b
    → strip_bom (name ++ b ∷ rest) ≡ name ++ b ∷ rest
name_unmarked [] b rest unmarked plain = no_first b rest plain.0
name_unmarked (c ∷ []) b rest unmarked plain = no_second c b rest plain.1
name_unmarked (c ∷ d ∷ []) b rest unmarked plain = no_third c d b rest plain.2
name_unmarked (c ∷ d ∷ e ∷ name) b rest unmarked plain = elim (cases_Bool (is_bom c d e)) [
  | inl is ↦
      let all = and_parts ((c == 239) && (d == 187)) (e == 191) is in
      let two = and_parts (c == 239) (d == 187) all.0 in
      let first : c ≡ 239 = eqb-true c 239 two.0 in
      let second : d ≡ 187 = eqb-true d 187 two.1 in
      let third : e ≡ 191 = eqb-true e 191 all.1 in
      let marked : begins_with_mark (c ∷ d ∷ e ∷ name) ≡ true =
      ap begins_with_mark (λ i. first i ∷ second i ∷ third i ∷ name) in
      absurd (true≢false (sym marked ∙ unmarked))
  | inr other ↦ no_mark c d e (name ++ b ∷ rest) other
]

-- the text of a row is that of its first value, a plain byte, and more
record IsPartedAt (field text : List ℕ) : Type 0 where
  byte : ℕ
  rest : List ℕ
  plain : IsPlain byte
  all : text ≡ field ++ byte ∷ rest

row_parted : (name : List ℕ) (values : List (List ℕ)) (more : List ℕ)
    → IsPartedAt (field_text default_writer name) (row_text default_writer (name ∷ values) ++ more)
unfolding fields_text is_blank
row_parted name [] more = by (is_blank default_writer (name ∷ [])) refl
  where
    field : List ℕ
    field = field_text default_writer name

    at : (end : List ℕ) → ((field ++ []) ++ end) ++ more ≡ field ++ (end ++ more)
    at end = append_assoc (field ++ []) end more ∙ ap (λ (text : List ℕ). text ++ (end ++ more)) (append-nil field)

    ended_by : (b : Bool) → is_blank default_writer (name ∷ []) ≡ b
        → row_text default_writer (name ∷ []) ++ more ≡ field ++ (((if b then 34 ∷ 34 ∷ [] else []) ++ 10 ∷ []) ++ more)
    ended_by b is =
        ap (λ (blank : Bool). ((field ++ []) ++ ((if blank then 34 ∷ 34 ∷ [] else []) ++ 10 ∷ [])) ++ more) is
        ∙ at ((if b then 34 ∷ 34 ∷ [] else []) ++ 10 ∷ [])

    by : (b : Bool) → is_blank default_writer (name ∷ []) ≡ b
        → IsPartedAt (field_text default_writer name) (row_text default_writer (name ∷ []) ++ more)
    by true blank = record { byte = 34; rest = 34 ∷ 10 ∷ more; plain = (refl, refl, refl); all = ended_by true blank }
    by false full = record { byte = 10; rest = more; plain = (refl, refl, refl); all = ended_by false full }
row_parted name (value ∷ values) more =
    let field = field_text default_writer name in
    let others = fields_text default_writer (value ∷ values) in
    let end : List ℕ = (if is_blank default_writer (name ∷ value ∷ values) then 34 ∷ 34 ∷ [] else []) ++ 10 ∷ [] in
    record {
      byte = 44;
      rest = (field_text default_writer value ++ fields_text default_writer values) ++ (end ++ more);
      plain = (refl, refl, refl);
      all = append_assoc (field ++ others) end more ∙ append_assoc field others (end ++ more);
    }

-- a value that needs no quotes is its own text
text_unmarked : (name : List ℕ) (values : List (List ℕ)) (more : List ℕ) → begins_with_mark name ≡ false
    → strip_bom (row_text default_writer (name ∷ values) ++ more) ≡ row_text default_writer (name ∷ values) ++ more
text_unmarked name values more unmarked =
    let parted = row_parted name values more in
    subst (λ (text : List ℕ). strip_bom text ≡ text) (sym parted.all) (by (list_any (needs_byte default_writer) name) refl parted.byte parted.rest parted.plain)
  where
    by : (needs : Bool) → list_any (needs_byte default_writer) name ≡ needs → (b : ℕ) (rest : List ℕ) → IsPlain b
        → strip_bom (field_text default_writer name ++ b ∷ rest) ≡ field_text default_writer name ++ b ∷ rest
    by true needs b rest plain = rw needs (no_first 34 ((escaped default_writer name ++ 34 ∷ []) ++ b ∷ rest) refl)
    by false needs b rest plain = rw needs (name_unmarked name b rest unmarked plain)

rows_unmarked : (names : List (List ℕ)) (rows : Relation) → 0 < length names → All IsName names
    → strip_bom (rows_text names rows) ≡ rows_text names rows
rows_unmarked [] rows not_empty named = absurd (omega (arith, not_empty))
rows_unmarked (name ∷ names) rows not_empty named = text_unmarked name names (rows_only rows) (named 0 name (omega arith)).no_mark

pub printed_records : (names : List (List ℕ)) (rows : Relation) → 0 < length names → All IsName names
    → All (λ row. 0 < length row) rows → records_of (rows_text names rows) ≡ names ∷ rows
printed_records names rows not_empty named wide =
    ap (λ (t : List ℕ). records_from default_config (length t + 1) st.StartRecord t) (rows_unmarked names rows not_empty named)
    ∙ rows_back (names ∷ rows) (first wide)
  where
    first : All (λ row. 0 < length row) rows → All (λ row. 0 < length row) (names ∷ rows)
    first all zero d h = not_empty
    first all (suc k) d h = all k d (omega (arith, h))

-- ---- no quote of the text is open
row_closed : (row : List (List ℕ)) → fold next_place place.BetweenRecords (row_text default_writer row) ≡ place.BetweenRecords
row_closed row =
    let (before, all, end) = ended (row_text default_writer row ++ 10 ∷ []) st.StartRecord [] [] (read_back row, st.StartRecord, 10 ∷ []) tt
    (read-write row (10 ∷ [])) (omega arith) in
    ap (λ (t : List ℕ). fold next_place place.BetweenRecords t) (append_cancel_right (row_text default_writer row) before (10 ∷ []) all) ∙ end

rows_closed : (rows : Relation) → fold next_place place.BetweenRecords (rows_only rows) ≡ place.BetweenRecords
rows_closed [] = refl
rows_closed (row ∷ rows) =
    fold-append next_place place.BetweenRecords (row_text default_writer row) (rows_only rows)
    ∙ ap (λ (p : Place). fold next_place p (rows_only rows)) (row_closed row) ∙ rows_closed rows

pub printed_closed : (names : List (List ℕ)) (rows : Relation) → 0 < length names → All IsName names
    → open_record (rows_text names rows) ≡ None
printed_closed names rows not_empty named =
    let none : ends_within_quotes (rows_text names rows) ≡ false =
    ap (λ (t : List ℕ). is_quoted (fold next_place place.BetweenRecords t)) (rows_unmarked names rows not_empty named)
    ∙ ap is_quoted (rows_closed (names ∷ rows)) in
    rw none refl
