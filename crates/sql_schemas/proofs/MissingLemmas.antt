-- The columns of which a value may be missing, one after the other.
use Rattle.std.proofs.Common.{◌≡◌, ◌<◌, ◌≤◌, inl, inr, ℕ, false, List, length, refl, sym, ◌∙◌, arith}
use Rattle.std.proofs.lemmas.Bool.{cases_lt}
use Rattle.std.proofs.lemmas.Option.{slice_get_past}
use Rattle.attr_sets.specs.Attributes.{Attributes}
use Rattle.sql_definitions.specs.Facts.{StatedColumn}
use Rattle.sql_schemas.specs.Keys.{KeyColumns}
use Rattle.sql_schemas.specs.Texts.{columns_missing}

-- below n a set has just the columns of which a value may be missing, and none from there on
pub record AreMissingBelow (n : ℕ) (columns : List StatedColumn) (keys : List KeyColumns) (x : Attributes) : Type 0 where
  pub each : (k : ℕ) → k < n → x k ≡ columns_missing columns keys k
  pub beyond : (k : ℕ) → n ≤ k → x k ≡ false

-- past the columns there is none
none_past : (columns : List StatedColumn) (keys : List KeyColumns) (k : ℕ) → length columns ≤ k → columns_missing columns keys k ≡ false
none_past columns keys k past = rw (slice_get_past columns k past) refl

pub all_missing : (n : ℕ) (columns : List StatedColumn) (keys : List KeyColumns) (x : Attributes) → length columns ≤ n
    → AreMissingBelow n columns keys x → (k : ℕ) → x k ≡ columns_missing columns keys k
all_missing n columns keys x whole are k = elim (cases_lt k n) [
  | inl low ↦ are.each k low
  | inr past ↦ are.beyond k past ∙ sym (none_past columns keys k (omega (arith, whole, past)))
]
