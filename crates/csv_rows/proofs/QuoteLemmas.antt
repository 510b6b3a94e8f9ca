-- The machine of quotes beside that of `csv`: the records that it begins are the records of the text.
use Rattle.std.proofs.Common.{inl, inr, ◌≡◌, ◌+◌, ◌<◌, ◌≤◌, ◌==◌, ◌&&◌, not, ℕ, zero, suc, Bool, true, false, if◌then◌else◌, List, [], ◌∷◌, ◌++◌, length, drop, get_or, slice_index_or, Option, Some, None, unwrap_or, refl, sym, ap, subst, ◌∙◌, arith}
use Rattle.std.specs.Prelude.{⊤}
use Rattle.std.specs.List.{fold}
use Rattle.std.proofs.lemmas.Bool.{cases_Bool, eqb-true}
use Rattle.std.proofs.Math.ListN.{drop_of_length-le}
use Rattle.std.proofs.lemmas.List.{at_drop_more}
use Rattle.csv.specs.Machine.{Read, next_record, step, is_end, ends_at_end, fields_after, field_after}
use Rattle.csv.specs.Reading.{records, records_from, records_next, default_config, is_bom, strip_bom}
use Rattle.csv.specs.declared.parser.Action.{Action}
use Rattle.csv.specs.declared.parser.State.{State}
use Rattle.csv.specs.declared.parser.State.TheVariants as st
use Rattle.csv_rows.proofs.RecordLemmas.{next_record-Shrinks}
use Rattle.csv_rows.specs.Quotes.{next_place, is_between}
use Rattle.csv_rows.specs.declared.quotes.Place.{Place}
use Rattle.csv_rows.specs.declared.quotes.Place.TheVariants as place

-- ---- one byte
-- the place that a state of `csv` stands for
abbrev pub place_of : State → Place
place_of st.StartRecord = place.BetweenRecords
place_of st.AfterCr = place.BetweenRecords
place_of st.StartField = place.FieldStart
place_of st.InField = place.PlainField
place_of st.InQuoted = place.QuotedField
place_of st.AfterQuote = place.AfterQuote
place_of st.InEscape = place.QuotedField
place_of st.InComment = place.BetweenRecords

-- a state that is met without escapes and comments
abbrev pub IsUsual : State → Type 0
IsUsual st.StartRecord = ⊤
IsUsual st.AfterCr = ⊤
IsUsual st.StartField = ⊤
IsUsual st.InField = ⊤
IsUsual st.InQuoted = ⊤
IsUsual st.AfterQuote = ⊤
IsUsual st.InEscape = ⊥
IsUsual st.InComment = ⊥

-- a step of `csv` is one of the places, and ends a record exactly where it comes between records
record Steps (from to : Place) (p : State × Action) : Type 0 where
  place : place_of p.0 ≡ to
  usual : IsUsual p.0
  ends : is_end p.1 ≡ (not (is_between from) && is_between to)

abbrev StepsAt : State → ℕ → Type 0
StepsAt s c = Steps (place_of s) (next_place (place_of s) c) (step default_config s c)

at_quote : (s : State) → IsUsual s → StepsAt s 34
at_quote st.StartRecord u = record { place = refl; usual = tt; ends = refl }
at_quote st.AfterCr u = record { place = refl; usual = tt; ends = refl }
at_quote st.StartField u = record { place = refl; usual = tt; ends = refl }
at_quote st.InField u = record { place = refl; usual = tt; ends = refl }
at_quote st.InQuoted u = record { place = refl; usual = tt; ends = refl }
at_quote st.AfterQuote u = record { place = refl; usual = tt; ends = refl }
at_quote st.InEscape u = absurd u
at_quote st.InComment u = absurd u

at_comma : (s : State) → IsUsual s → StepsAt s 44
at_comma st.StartRecord u = record { place = refl; usual = tt; ends = refl }
at_comma st.AfterCr u = record { place = refl; usual = tt; ends = refl }
at_comma st.StartField u = record { place = refl; usual = tt; ends = refl }
at_comma st.InField u = record { place = refl; usual = tt; ends = refl }
at_comma st.InQuoted u = record { place = refl; usual = tt; ends = refl }
at_comma st.AfterQuote u = record { place = refl; usual = tt; ends = refl }
at_comma st.InEscape u = absurd u
at_comma st.InComment u = absurd u

at_return : (s : State) → IsUsual s → StepsAt s 13
at_return st.StartRecord u = record { place = refl; usual = tt; ends = refl }
at_return st.AfterCr u = record { place = refl; usual = tt; ends = refl }
at_return st.StartField u = record { place = refl; usual = tt; ends = refl }
at_return st.InField u = record { place = refl; usual = tt; ends = refl }
at_return st.InQuoted u = record { place = refl; usual = tt; ends = refl }
at_return st.AfterQuote u = record { place = refl; usual = tt; ends = refl }
at_return st.InEscape u = absurd u
at_return st.InComment u = absurd u

at_feed : (s : State) → IsUsual s → StepsAt s 10
at_feed st.StartRecord u = record { place = refl; usual = tt; ends = refl }
at_feed st.AfterCr u = record { place = refl; usual = tt; ends = refl }
at_feed st.StartField u = record { place = refl; usual = tt; ends = refl }
at_feed st.InField u = record { place = refl; usual = tt; ends = refl }
at_feed st.InQuoted u = record { place = refl; usual = tt; ends = refl }
at_feed st.AfterQuote u = record { place = refl; usual = tt; ends = refl }
at_feed st.InEscape u = absurd u
at_feed st.InComment u = absurd u

-- a byte that is no mark of the format
abbrev IsPlain : ℕ → Type 0
IsPlain c = ((c == 34) ≡ false) × ((c == 44) ≡ false) × ((c == 13) ≡ false) × ((c == 10) ≡ false)

at_plain : (s : State) (c : ℕ) → IsPlain c → IsUsual s → StepsAt s c
at_plain st.StartRecord c (q, m, r, f) u = rw (q, m, r, f) (record { place = refl; usual = tt; ends = refl })
at_plain st.AfterCr c (q, m, r, f) u = rw (q, m, r, f) (record { place = refl; usual = tt; ends = refl })
at_plain st.StartField c (q, m, r, f) u = rw (q, m, r, f) (record { place = refl; usual = tt; ends = refl })
at_plain st.InField c (q, m, r, f) u = rw (m, r, f) (record { place = refl; usual = tt; ends = refl })
at_plain st.InQuoted c (q, m, r, f) u = rw q (record { place = refl; usual = tt; ends = refl })
at_plain st.AfterQuote c (q, m, r, f) u = rw (q, m, r, f) (record { place = refl; usual = tt; ends = refl })
at_plain st.InEscape c plain u = absurd u
at_plain st.InComment c plain u = absurd u

step_steps : (s : State) (c : ℕ) → IsUsual s → StepsAt s c
step_steps s c u = elim (cases_Bool (c == 34)) [
  | inl is ↦ subst (StepsAt s) (sym (eqb-true c 34 is)) (at_quote s u)
  | inr q ↦ elim (cases_Bool (c == 44)) [
    | inl is ↦ subst (StepsAt s) (sym (eqb-true c 44 is)) (at_comma s u)
    | inr m ↦ elim (cases_Bool (c == 13)) [
      | inl is ↦ subst (StepsAt s) (sym (eqb-true c 13 is)) (at_return s u)
      | inr r ↦ elim (cases_Bool (c == 10)) [
        | inl is ↦ subst (StepsAt s) (sym (eqb-true c 10 is)) (at_feed s u)
        | inr f ↦ at_plain s c (q, m, r, f) u
      ]
    ]
  ]
]

-- ---- one record
abbrev pub count_of : Bool → ℕ
count_of true = 1
count_of false = 0

abbrev pub begins : Place → Place → Bool
begins from to = is_between from && not (is_between to)

-- how many records are begun by bytes that come at a place
unfoldable pub records_begun : Place → List ℕ → ℕ
records_begun p [] = 0
records_begun p (c ∷ rest) = count_of (begins p (next_place p c)) + records_begun (next_place p c) rest

-- what the next record of a text says of the records that are begun
abbrev Gives : State → List ℕ → Option Read → Type 0
Gives s xs None = (is_between (place_of s) ≡ true) × (records_begun (place_of s) xs ≡ 0)
Gives s xs (Some p) =
    (is_between (place_of p.1) ≡ true) × IsUsual p.1
    × (records_begun (place_of s) xs ≡ count_of (is_between (place_of s)) + records_begun (place_of p.1) p.2)

gives_at_end : (s : State) (fields : List (List ℕ)) → IsUsual s
    → Gives s [] (if ends_at_end s then Some (fields, st.StartRecord, []) else None)
unfolding records_begun
gives_at_end st.StartRecord fields u = (refl, refl)
gives_at_end st.AfterCr fields u = (refl, refl)
gives_at_end st.StartField fields u = (refl, tt, refl)
gives_at_end st.InField fields u = (refl, tt, refl)
gives_at_end st.InQuoted fields u = (refl, tt, refl)
gives_at_end st.AfterQuote fields u = (refl, tt, refl)
gives_at_end st.InEscape fields u = absurd u
gives_at_end st.InComment fields u = absurd u

-- the count of a step and of what comes after it
counts : (a b : Bool) (n : ℕ) → (not a && b) ≡ false → count_of (a && not b) + (count_of b + n) ≡ count_of a + n
counts true true n e = omega arith
counts true false n e = omega arith
counts false true n e = cc
counts false false n e = omega arith

ends_counts : (a b : Bool) (n : ℕ) → (not a && b) ≡ true → (b ≡ true) × (count_of (a && not b) + n ≡ count_of a + n)
ends_counts true b n e = cc
ends_counts false true n e = (refl, refl)
ends_counts false false n e = cc

gives : (xs : List ℕ) (s : State) (fields : List (List ℕ)) (field : List ℕ) → IsUsual s
    → Gives s xs (next_record default_config s fields field xs)
unfolding next_record records_begun
gives [] s fields field u = gives_at_end s (fields ++ field ∷ []) u
gives (c ∷ rest) s fields field u =
    let next = (step default_config s c).0 in
    let does = (step default_config s c).1 in
    let steps = step_steps s c u in
    by (is_end does) steps.ends (next_record default_config next (fields_after does fields field) (field_after does c field) rest)
    (gives rest next (fields_after does fields field) (field_after does c field) steps.usual)
  where
    by : (ends : Bool) → ends ≡ (not (is_between (place_of s)) && is_between (next_place (place_of s) c)) → (o : Option Read)
        → Gives (step default_config s c).0 rest o
        → Gives s (c ∷ rest) (if ends then Some (fields_after (step default_config s c).1 fields field, (step default_config s c).0, rest) else o)
    by true e o later =
        let steps = step_steps s c u in
        let both = ends_counts (is_between (place_of s)) (is_between (next_place (place_of s) c)) (records_begun (next_place (place_of s) c) rest) (sym e) in (
          ap is_between steps.place ∙ both.0,
          steps.usual,
          both.1 ∙ ap (λ (p : Place). count_of (is_between (place_of s)) + records_begun p rest) (sym steps.place),
        )
    by false e None later =
        let steps = step_steps s c u in
        none (is_between (place_of s)) (is_between (next_place (place_of s) c)) _ (sym e) (ap is_between (sym steps.place) ∙ later.0)
        (ap (λ (p : Place). records_begun p rest) (sym steps.place) ∙ later.1)
      where
        none : (a b : Bool) (n : ℕ) → (not a && b) ≡ false → b ≡ true → n ≡ 0 → (a ≡ true) × (count_of (a && not b) + n ≡ 0)
        none true true n e is nothing = (refl, omega (arith, nothing))
        none true false n e is nothing = cc
        none false true n e is nothing = cc
        none false false n e is nothing = cc
    by false e (Some p) later =
        let steps = step_steps s c u in
        let rest_is : records_begun (next_place (place_of s) c) rest ≡ count_of (is_between (next_place (place_of s) c)) + records_begun (place_of p.1) p.2 =
        subst (λ (q : Place). records_begun q rest ≡ count_of (is_between q) + records_begun (place_of p.1) p.2) steps.place later.2 in (
          later.0,
          later.1,
          ap (λ (n : ℕ). count_of (begins (place_of s) (next_place (place_of s) c)) + n) rest_is
              ∙ counts (is_between (place_of s)) (is_between (next_place (place_of s) c)) (records_begun (place_of p.1) p.2) (sym e),
        )

-- ---- all records
between_state : (s : State) → IsUsual s → is_between (place_of s) ≡ true → ends_at_end s ≡ false
between_state st.StartRecord u e = refl
between_state st.AfterCr u e = refl
between_state st.StartField u e = cc
between_state st.InField u e = cc
between_state st.InQuoted u e = cc
between_state st.AfterQuote u e = cc
between_state st.InEscape u e = absurd u
between_state st.InComment u e = absurd u

records_begun-from : (n : ℕ) (s : State) (xs : List ℕ) → IsUsual s → is_between (place_of s) ≡ true → length xs < n
    → records_begun (place_of s) xs ≡ length (records_from default_config n s xs)
unfolding records_from
records_begun-from zero s xs u e below = absurd (omega (arith, below))
records_begun-from (suc n) s xs u e below =
    by (next_record default_config s [] [] xs) refl (gives xs s [] [] u) (λ p. records_begun-from n p.1 p.2)
  where
    by : (o : Option Read) → next_record default_config s [] [] xs ≡ o → Gives s xs o
        → ((p : Read) → IsUsual p.1 → is_between (place_of p.1) ≡ true → length p.2 < n
        → records_begun (place_of p.1) p.2 ≡ length (records_from default_config n p.1 p.2))
        → records_begun (place_of s) xs ≡ length (records_next (records_from default_config n) o)
    by None f given later = given.1
    by (Some p) f given later =
        let less = (next_record-Shrinks xs s [] [] p f).less (between_state s u e) in
        given.2 ∙ ap (λ (b : Bool). count_of b + records_begun (place_of p.1) p.2) e
        ∙ omega (arith, later p given.1 given.0 (omega (arith, less, below)))

pub records_begun-is : (text : List ℕ) → records_begun place.BetweenRecords text ≡ length (records default_config text)
records_begun-is text = records_begun-from (length text + 1) st.StartRecord text tt refl (omega arith)

-- ---- one byte of a text
pub byte_taken : (text : List ℕ) (i d : ℕ) (p q : Place) (n m : ℕ) → i < length text → q ≡ next_place p (get_or text i d)
    → m ≡ n + count_of (begins p q) → m + records_begun q (drop (i + 1) text) ≡ n + records_begun p (drop i text)
unfolding records_begun
byte_taken text i d p q n m within next counted =
    let begun : records_begun p (drop i text) ≡ count_of (begins p q) + records_begun q (drop (i + 1) text) =
    at_drop_more (records_begun p) text i d within
    ∙ ap (λ (r : Place). count_of (begins p r) + records_begun r (drop (i + 1) text)) (sym next) in
    omega (arith, counted, begun)

pub nothing_begun : (p : Place) (text : List ℕ) (i n : ℕ) → length text ≤ i → n + records_begun p (drop i text) ≡ n
unfolding records_begun
nothing_begun p text i n end =
    ap (λ (l : List ℕ). n + records_begun p l) (drop_of_length-le text end) ∙ omega arith

-- ---- the byte-order mark
pub mark_cut : (text : List ℕ) → 3 ≤ length text
    → is_bom (slice_index_or text 0 0) (slice_index_or text 1 0) (slice_index_or text 2 0) ≡ true
    → drop 3 text ≡ strip_bom text
unfolding strip_bom
mark_cut [] long is = absurd (omega (arith, long))
mark_cut (a ∷ []) long is = absurd (omega (arith, long))
mark_cut (a ∷ b ∷ []) long is = absurd (omega (arith, long))
mark_cut (a ∷ b ∷ c ∷ rest) long is = rw is refl

pub no_mark_short : (text : List ℕ) → length text < 3 → text ≡ strip_bom text
unfolding strip_bom
no_mark_short [] short = refl
no_mark_short (a ∷ []) short = refl
no_mark_short (a ∷ b ∷ []) short = refl
no_mark_short (a ∷ b ∷ c ∷ rest) short = absurd (omega (arith, short))

pub no_mark_there : (text : List ℕ) → 3 ≤ length text
    → is_bom (slice_index_or text 0 0) (slice_index_or text 1 0) (slice_index_or text 2 0) ≡ false
    → text ≡ strip_bom text
unfolding strip_bom
no_mark_there [] long is = absurd (omega (arith, long))
no_mark_there (a ∷ []) long is = absurd (omega (arith, long))
no_mark_there (a ∷ b ∷ []) long is = absurd (omega (arith, long))
no_mark_there (a ∷ b ∷ c ∷ rest) long is = rw is refl

-- ---- a record before others
-- the bytes of a record that is read, up to the text after it, lead to where the reader stands
pub ended : (xs : List ℕ) (s : State) (fields : List (List ℕ)) (field : List ℕ) (p : Read) → IsUsual s
    → next_record default_config s fields field xs ≡ Some p → 0 < length p.2
    → (before : List ℕ) × (xs ≡ before ++ p.2) × (fold next_place (place_of s) before ≡ place_of p.1)
unfolding next_record
ended [] s fields field p u read more = absurd (nothing (ends_at_end s) (fields ++ field ∷ []) read)
  where
    nothing : (b : Bool) (f : List (List ℕ)) → (if b then Some (f, st.StartRecord, []) else None) ≡ Some p → ⊥
    nothing true f e =
        let rest : ◌≡◌ {A = List ℕ} [] p.2 = ap (λ (o : Option Read). (unwrap_or o p).2) e in
        omega (arith, ap length rest, more)
    nothing false f e = cc
ended (c ∷ rest) s fields field p u read more =
    by (is_end (step default_config s c).1) read
    (λ g. ended rest (step default_config s c).0 (fields_after (step default_config s c).1 fields field) (field_after (step default_config s c).1 c field) p
    (step_steps s c u).usual g more)
  where
    by : (b : Bool)
        → (if b then Some (fields_after (step default_config s c).1 fields field, (step default_config s c).0, rest)
        else next_record default_config (step default_config s c).0 (fields_after (step default_config s c).1 fields field) (field_after (step default_config s c).1 c field) rest) ≡ Some p
        → (next_record default_config (step default_config s c).0 (fields_after (step default_config s c).1 fields field) (field_after (step default_config s c).1 c field) rest ≡ Some p
        → (before : List ℕ) × (rest ≡ before ++ p.2) × (fold next_place (place_of (step default_config s c).0) before ≡ place_of p.1))
        → (before : List ℕ) × (c ∷ rest ≡ before ++ p.2) × (fold next_place (place_of s) before ≡ place_of p.1)
    by true g later =
        let state : (step default_config s c).0 ≡ p.1 = ap (λ (o : Option Read). (unwrap_or o p).1) g in
        let left : rest ≡ p.2 = ap (λ (o : Option Read). (unwrap_or o p).2) g in
        (c ∷ [], ap (λ (t : List ℕ). c ∷ t) left, sym (step_steps s c u).place ∙ ap place_of state)
    by false g later =
        let (before, all, end) = later g in
        (c ∷ before, ap (λ (t : List ℕ). c ∷ t) all, ap (λ (q : Place). fold next_place q before) (sym (step_steps s c u).place) ∙ end)
