-- What the reader of `csv` gives record by record, and the records of a text as one list.
use Rattle.std.proofs.Common.{inl, ◌≡◌, ◌+◌, ◌<◌, ◌≤◌, ◌==◌, ◌||◌, ◌&&◌, ℕ, zero, suc, Bool, true, false, if◌then◌else◌, List, [], ◌∷◌, ◌++◌, length, Option, Some, None, Result, Ok, Err, IfOk, OnOk, unwrap_or, slice_index_or, refl, sym, ap, subst, ◌∙◌, arith}
use Rattle.std.specs.Borrow.{Bor}
use Rattle.csv.specs.Machine.{Read, next_record, ends_at_end, step, is_end, in_field, start_field, start_record, fields_after, field_after}
use Rattle.csv.specs.Reading.{records_from, records_next, default_config, reader_trim, took_first, is_flexible, Ready, ReadRecord, Reached}
use Rattle.csv.specs.Records.{field_at}
use Rattle.csv.specs.declared.error.Error.{Error}
use Rattle.csv.specs.declared.parser.Action.{Action}
use Rattle.csv.specs.declared.parser.Action.TheVariants as act
use Rattle.csv.specs.declared.parser.State.{State}
use Rattle.csv.specs.declared.parser.State.TheVariants as st
use Rattle.csv.specs.declared.reader.Reader.{Reader}
use Rattle.csv.specs.declared.reader.Trim.TheVariants as trim
use Rattle.csv.proofs.ReadFacts.{rows-more, rows-end}
use Rattle.csv_rows.specs.Records.{HasLeft, TakesRecord}

-- a step that ends a record leaves the machine between two records
abbrev EndsBetween : State × Action → Type 0
EndsBetween p = is_end p.1 ≡ true → ends_at_end p.0 ≡ false

EndsBetween-cond : (b : Bool) (x y : State × Action) → EndsBetween x → EndsBetween y → EndsBetween (if b then x else y)
EndsBetween-cond true x y ex ey = ex
EndsBetween-cond false x y ex ey = ey

no_end : (s : State) (a : Action) → is_end a ≡ false → EndsBetween (s, a)
no_end s a e h = cc

after_between : (b : Bool) → ends_at_end (if b then st.AfterCr else st.StartRecord) ≡ false
after_between true = refl
after_between false = refl

in_field_ends : (c : ℕ) → EndsBetween (in_field default_config c)
in_field_ends c =
    EndsBetween-cond (c == 44) _ _ (no_end st.StartField act.EndField refl)
    (EndsBetween-cond ((c == 13) || (c == 10)) _ _ (λ e. after_between (c == 13)) (no_end st.InField act.Copy refl))

start_field_ends : (c : ℕ) → EndsBetween (start_field default_config c)
start_field_ends c = EndsBetween-cond (true && (c == 34)) _ _ (no_end st.InQuoted act.Skip refl) (in_field_ends c)

start_record_ends : (c : ℕ) → EndsBetween (start_record default_config c)
start_record_ends c =
    EndsBetween-cond ((c == 13) || (c == 10)) _ _ (no_end st.StartRecord act.Skip refl) (start_field_ends c)

step_ends : (s : State) (c : ℕ) → EndsBetween (step default_config s c)
step_ends st.StartRecord c = start_record_ends c
step_ends st.StartField c = start_field_ends c
step_ends st.InField c = in_field_ends c
step_ends st.InQuoted c = EndsBetween-cond (true && (c == 34)) _ _ (no_end st.AfterQuote act.Skip refl) (no_end st.InQuoted act.Copy refl)
step_ends st.InEscape c = no_end st.InQuoted act.Copy refl
step_ends st.AfterQuote c = EndsBetween-cond (true && true && (c == 34)) _ _ (no_end st.InQuoted act.Copy refl) (in_field_ends c)
step_ends st.InComment c = EndsBetween-cond (c == 10) _ _ (no_end st.StartRecord act.Skip refl) (no_end st.InComment act.Skip refl)
step_ends st.AfterCr c = EndsBetween-cond (c == 10) _ _ (no_end st.StartRecord act.Skip refl) (start_record_ends c)

-- after a record the machine stands between two records, and at least one byte was taken unless the
-- end of the text ended it
pub record Shrinks (s : State) (xs : List ℕ) (p : Read) : Type 0 where
  pub between : ends_at_end p.1 ≡ false
  pub within : length p.2 ≤ length xs
  pub less : ends_at_end s ≡ false → length p.2 < length xs

shrinks_at_end : (b : Bool) (s : State) (fields : List (List ℕ)) (p : Read) → ends_at_end s ≡ b
    → (if b then Some (fields, st.StartRecord, []) else None) ≡ Some p → Shrinks s [] p
shrinks_at_end true s fields (f, t, rest) e h =
    let at : st.StartRecord ≡ t = ap (λ (o : Option Read). (unwrap_or o (f, t, rest)).1) h in
    let none : ◌≡◌ {A = List ℕ} [] rest = ap (λ (o : Option Read). (unwrap_or o (f, t, rest)).2) h in
    record { between = subst (λ (z : State). ends_at_end z ≡ false) at refl; within = subst (λ (z : List ℕ). length z ≤ 0) none (omega arith); less = λ f. cc }
shrinks_at_end false s fields p e h = cc

pub next_record-Shrinks : (xs : List ℕ) (s : State) (fields : List (List ℕ)) (field : List ℕ) (p : Read) → next_record default_config s fields field xs ≡ Some p → Shrinks s xs p
unfolding next_record
next_record-Shrinks [] s fields field p h = shrinks_at_end (ends_at_end s) s (fields ++ field ∷ []) p refl h
next_record-Shrinks (c ∷ rest) s fields field p h =
    by (is_end (step default_config s c).1) refl h
    (λ g. next_record-Shrinks rest (step default_config s c).0 (fields_after (step default_config s c).1 fields field) (field_after (step default_config s c).1 c field) p g)
  where
    by : (b : Bool) → is_end (step default_config s c).1 ≡ b
        → (if b then Some (fields_after (step default_config s c).1 fields field, (step default_config s c).0, rest)
        else next_record default_config (step default_config s c).0 (fields_after (step default_config s c).1 fields field) (field_after (step default_config s c).1 c field) rest) ≡ Some p
        → (next_record default_config (step default_config s c).0 (fields_after (step default_config s c).1 fields field) (field_after (step default_config s c).1 c field) rest ≡ Some p
        → Shrinks (step default_config s c).0 rest p)
        → Shrinks s (c ∷ rest) p
    by true e g later =
        let at : (step default_config s c).0 ≡ p.1 = ap (λ (o : Option Read). (unwrap_or o p).1) g in
        let left : rest ≡ p.2 = ap (λ (o : Option Read). (unwrap_or o p).2) g in
        let size : length p.2 ≡ length rest = ap length (sym left) in
        record { between = subst (λ (z : State). ends_at_end z ≡ false) at (step_ends s c e); within = omega arith; less = λ f. omega arith }
    by false e g later =
        let deep = later g in
        let size = deep.within in
        record { between = deep.between; within = omega arith; less = λ f. omega arith }

-- enough turns give all records
pub records_from-enough : (n m : ℕ) (s : State) (xs : List ℕ) → ends_at_end s ≡ false → length xs < n → length xs < m → records_from default_config n s xs ≡ records_from default_config m s xs
unfolding records_from
records_from-enough zero m s xs e below also = absurd (omega arith)
records_from-enough (suc n) zero s xs e below also = absurd (omega arith)
records_from-enough (suc n) (suc m) s xs e below also = by (next_record default_config s [] [] xs) refl (λ (p : Read) t less more. records_from-enough n m p.1 p.2 t less more)
  where
    by : (o : Option Read) → next_record default_config s [] [] xs ≡ o
        → ((p : Read) → ends_at_end p.1 ≡ false → length p.2 < n → length p.2 < m → records_from default_config n p.1 p.2 ≡ records_from default_config m p.1 p.2)
        → records_next (records_from default_config n) o ≡ records_next (records_from default_config m) o
    by None f later = refl
    by (Some p) f later =
        let t = next_record-Shrinks xs s [] [] p f in
        let less = t.less e in
        ap (λ (rs : List (List (List ℕ))). p.0 ∷ rs) (later p t.between (omega arith) (omega arith))

-- the records from a position on are the one there and those from the next position on
pub one_more : (s : State) (xs : List ℕ) (p : Read) → ends_at_end s ≡ false → next_record default_config s [] [] xs ≡ Some p
    → records_from default_config (length xs + 1) s xs ≡ p.0 ∷ records_from default_config (length p.2 + 1) p.1 p.2
unfolding records_from
one_more s xs p e f =
    let t = next_record-Shrinks xs s [] [] p f in
    let less = t.less e in
    let first : records_from default_config (length xs + 1) s xs ≡ records_from default_config (suc (length xs)) s xs = let size : length xs + 1 ≡ suc (length xs) = omega arith in ap (λ (n : ℕ). records_from default_config n s xs) size in
    first ∙ ap (records_next (records_from default_config (length xs))) f
    ∙ ap (λ (rs : List (List (List ℕ))). p.0 ∷ rs) (records_from-enough (length xs) (length p.2 + 1) p.1 p.2 t.between (omega arith) (omega arith))

pub no_more : (s : State) (xs : List ℕ) → next_record default_config s [] [] xs ≡ None → records_from default_config (length xs + 1) s xs ≡ []
unfolding records_from
no_more s xs f =
    let first : records_from default_config (length xs + 1) s xs ≡ records_from default_config (suc (length xs)) s xs = let size : length xs + 1 ≡ suc (length xs) = omega arith in ap (λ (n : ℕ). records_from default_config n s xs) size in
    first ∙ ap (records_next (records_from default_config (length xs))) f

next_left : (old new : Reader (Bor (List ℕ))) (fields : List (List ℕ)) (rs : List (List (List ℕ))) → HasLeft old rs
    → ReadRecord (λ s. Some s.now) old new true fields → took_first new ≡ true → is_flexible new ≡ is_flexible old
    → (more : List (List (List ℕ))) × (rs ≡ fields ∷ more) × HasLeft new more
unfolding Reached
next_left old new fields rs has reads first flexible =
    let (z, source, reached) = rows-more (λ (s : Bor (List ℕ)). Some s.now) old new fields default_config old.state has.rest has.rest [] has.config has.source (refl, refl) reads in
    let (p, read, is_first, stands) = reached in
    let (state, rest) = stands in
    let t = next_record-Shrinks has.rest old.state [] [] p read in
    let more = one_more old.state has.rest p has.between read in (
      records_from default_config (length p.2 + 1) p.1 p.2,
      sym has.left ∙ more ∙ ap (λ (f : List (List ℕ)). f ∷ records_from default_config (length p.2 + 1) p.1 p.2) (sym is_first),
      record {
        config = reads.2 ∙ has.config;
        trim = reads.3 ∙ has.trim;
        flexible = flexible ∙ has.flexible;
        ready = inl first;
        between = subst (λ (s : State). ends_at_end s ≡ false) state t.between;
        rest = z;
        source = source;
        left = ap (λ (q : State × List ℕ). records_from default_config (length q.1 + 1) q.0 q.1) (sym (pair_path p.1 new.state p.2 z state rest));
      },
    )
  where
    pair_path : (s t : State) (xs ys : List ℕ) → s ≡ t → xs ≡ ys → ◌≡◌ {A = State × List ℕ} (s, xs) (t, ys)
    pair_path s t xs ys e f = cc

end_left : (old new : Reader (Bor (List ℕ))) (fields : List (List ℕ)) (rs : List (List (List ℕ))) → HasLeft old rs
    → ReadRecord (λ s. Some s.now) old new false fields → rs ≡ []
end_left old new fields rs has reads =
    sym has.left ∙ no_more old.state has.rest (rows-end (λ (s : Bor (List ℕ)). Some s.now) old new fields default_config has.rest has.config has.source reads)

-- what a read of a record says of the records to come
pub TakesRecord-from : (r : Result Bool Error) (old new : Reader (Bor (List ℕ))) (fields : List (List ℕ))
    → IfOk r (λ found. reader_trim old ≡ trim.None → Ready old → ReadRecord (λ s. Some s.now) old new found fields)
    → (reader_trim old ≡ trim.None → OnOk r (took_first new ≡ true)) → OnOk r (is_flexible new ≡ is_flexible old)
    → IfOk r (λ found. TakesRecord found old new fields)
TakesRecord-from (Err e) old new fields reads first flexible = tt
TakesRecord-from (Ok true) old new fields reads first flexible =
    λ rs has. next_left old new fields rs has (reads has.trim has.ready) (first has.trim) flexible
TakesRecord-from (Ok false) old new fields reads first flexible = λ rs has. end_left old new fields rs has (reads has.trim has.ready)

-- a field by its position
pub field_at-slice_index : (fields : List (List ℕ)) (i : ℕ) → unwrap_or (field_at fields i) [] ≡ slice_index_or fields i []
unfolding field_at
field_at-slice_index [] i = refl
field_at-slice_index (f ∷ fs) zero = refl
field_at-slice_index (f ∷ fs) (suc i) = field_at-slice_index fs i
