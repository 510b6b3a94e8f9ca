-- A record of a text has at least one field.
use Rattle.std.proofs.Common.{◌≡◌, ◌+◌, ◌<◌, ℕ, zero, suc, Bool, true, false, if◌then◌else◌, List, [], ◌∷◌, ◌++◌, length, Option, Some, None, unwrap_or, refl, ap, subst, arith}
use Rattle.std.proofs.lemmas.List.{length-append}
use Rattle.csv.specs.Machine.{Read, next_record, ends_at_end, step, is_end, fields_after, field_after}
use Rattle.csv.specs.Reading.{records_from, records_next, default_config, strip_bom}
use Rattle.csv.specs.declared.parser.Action.{Action}
use Rattle.csv.specs.declared.parser.Action.TheVariants as act
use Rattle.csv.specs.declared.parser.State.{State}
use Rattle.csv.specs.declared.parser.State.TheVariants as st
use Rattle.csv_rows.specs.Records.{records_of}

-- the last field of a record
some_last : (fields : List (List ℕ)) (field : List ℕ) (p : Read) → fields ++ field ∷ [] ≡ p.0 → 0 < length p.0
some_last fields field p is = omega (arith, ap length is, length-append fields (field ∷ []))

some_at_end : (b : Bool) (fields : List (List ℕ)) (field : List ℕ) (p : Read)
    → (if b then Some (fields ++ field ∷ [], st.StartRecord, []) else None) ≡ Some p → 0 < length p.0
some_at_end true fields field p h = some_last fields field p (ap (λ (o : Option Read). (unwrap_or o p).0) h)
some_at_end false fields field p h = cc

some_field : (xs : List ℕ) (s : State) (fields : List (List ℕ)) (field : List ℕ) (p : Read)
    → next_record default_config s fields field xs ≡ Some p → 0 < length p.0
unfolding next_record
some_field [] s fields field p h = some_at_end (ends_at_end s) fields field p h
some_field (c ∷ rest) s fields field p h =
    by (step default_config s c).1 (step default_config s c).0 h
    (λ fs f g. some_field rest (step default_config s c).0 fs f p g)
  where
    by : (e : Action) (t : State) → (if is_end e then Some
        (fields_after e fields field, t, rest) else next_record default_config t (fields_after e fields field)
        (field_after e c field) rest) ≡ Some p
        → ((fs : List (List ℕ)) (f : List ℕ) → next_record default_config t fs f rest ≡ Some p → 0 < length p.0)
        → 0 < length p.0
    by act.EndRecord t g later = some_last fields field p (ap (λ (o : Option Read). (unwrap_or o p).0) g)
    by act.EndField t g later = later (fields ++ field ∷ []) [] g
    by act.Skip t g later = later fields field g
    by act.Copy t g later = later fields (field ++ c ∷ []) g

first_some : (n : ℕ) (s : State) (xs : List ℕ) (first : List (List ℕ)) (more : List (List (List ℕ)))
    → records_from default_config n s xs ≡ first ∷ more → 0 < length first
unfolding records_from
first_some zero s xs first more h = cc
first_some (suc n) s xs first more h = by (next_record default_config s [] [] xs) refl h
  where
    by : (o : Option Read) → next_record default_config s [] [] xs ≡ o
        → records_next (records_from default_config n) o ≡ first ∷ more → 0 < length first
    by None f g = cc
    by (Some p) f g = let is : p.0 ≡ first = cc in
        subst (λ (l : List (List ℕ)). 0 < length l) is (some_field xs s [] [] p f)

pub header_not_empty : (text : List ℕ) (header : List (List ℕ)) (rows : List (List (List ℕ)))
    → records_of text ≡ header ∷ rows → 0 < length header
header_not_empty text header rows h = first_some (length (strip_bom text) + 1) st.StartRecord
    (strip_bom text) header rows h
