-- The empty text as the missing value, in the columns in which values may be missing.
use Rattle.std.proofs.Common.{◌≡◌, ℕ, Bool, true, false, List, [], ◌∷◌, length, refl, sym, ap, ◌∙◌, inl, inr, arith}
use Rattle.std.proofs.lemmas.Bool.{cases_Bool, true≢false}
use Rattle.std.specs.Prelude.{◌↔◌}
use Rattle.schema_model.specs.Schemas.{Schema}
use Rattle.schema_model.specs.Schemas.{nullable_of}
use Rattle.dep_model.specs.Tuples.{Relation, value_at}
use Rattle.sql_check.specs.Checks.{required_of}
use Rattle.sql_evaluation.specs.Cells.{Cell, missing, text, number, text_of, is_none}
use Rattle.sql_evaluation.specs.Evaluation.{Engine}
use Rattle.sql_check_laws.specs.HeldRelations.{AreApart, Holds, CastsIntegers, held_text, cell_of}
use Rattle.sql_check_laws.specs.CheckedRules.{NoneMissing}
use Rattle.sql_check_laws.proofs.WitnessLemmas.{some_engine_holds}

-- the text of a value, the empty one where it is missing
bytes_in : Cell → List ℕ
bytes_in missing = []
bytes_in (text t) = t
bytes_in (number n) = []

text_compared : (nullable : Bool) (v : List ℕ) → bytes_in (text_of (held_text nullable v)) ≡ v
unfolding bytes_in
text_compared true [] = refl
text_compared false [] = refl
text_compared nullable (b ∷ v) = refl

values_apart : (s : Schema) (r : Relation) → AreApart s (cell_of s) r
values_apart s r k low t u ht hu same =
    sym (text_compared (nullable_of s k) (value_at t k)) ∙ ap bytes_in same ∙ text_compared (nullable_of s k) (value_at u k)

pub some_engine_holds_missing : (table : List ℕ) (s : Schema) (r : Relation) → (e : Engine) × CastsIntegers e.cast × Holds e table s (cell_of s) r
some_engine_holds_missing table s r = some_engine_holds table s (cell_of s) r (values_apart s r)

-- ---- which values are missing
missing_where : (nullable : Bool) (v : List ℕ) → nullable ≡ true → (held_text nullable v ≡ missing) ↔ (v ≡ [])
missing_where true [] e = (λ same. refl, λ same. refl)
missing_where false [] e = absurd (true≢false (sym e))
missing_where nullable (b ∷ v) e = (λ same. absurd (true≢false (sym (ap is_none same))), λ same. absurd (text_not_empty b v same))
  where
    text_not_empty : (b : ℕ) (v : List ℕ) → b ∷ v ≡ [] → ⊥
    text_not_empty b v same = let long = ap (λ (bytes : List ℕ). length bytes) same in omega (arith, long)

pub missing_where_empty : (s : Schema) (k : ℕ) (v : List ℕ) → nullable_of s k ≡ true → (cell_of s k v ≡ missing) ↔ (v ≡ [])
missing_where_empty s k v e = missing_where (nullable_of s k) v e

there_where : (nullable : Bool) (v : List ℕ) → nullable ≡ false → is_none (held_text nullable v) ≡ false
there_where true [] e = absurd (true≢false e)
there_where false [] e = refl
there_where nullable (b ∷ v) e = refl

pub none_missing_there : (s : Schema) (r : Relation) → NoneMissing s (cell_of s) r
none_missing_there s r k required t h = there_where (nullable_of s k) (value_at t k) (elim (cases_Bool (nullable_of s k)) [
  | inl nullable ↦ absurd (grind (arith, required, nullable))
  | inr other ↦ other
])
