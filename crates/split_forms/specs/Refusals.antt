-- Why a universe is not split, and when no limit is met: for `split` and the command of that name
-- (`desk_designs/Decompositions`).
use Rattle.std.specs.Prelude.{ℕ, List}
use Rattle.attr_sets.specs.Attributes.{Attributes}
use Rattle.attr_sets.specs.Sets.{attributes}
use Rattle.dep_model.specs.Dependencies.{Dependency}
use Rattle.dep_model.specs.declared.form.Form.{Form}
use Rattle.split_forms.specs.declared.refusal.SplitRefusal.{SplitRefusal}
use Rattle.split_forms.specs.declared.refusal.SplitRefusal.TheVariants.{TooWide, TooManySchemes}
use Rattle.split_forms.specs.Splitting.{IsTooWideAt, HasTooManySchemes}

-- no list that is reached within the limit is stuck at a scheme that is too wide to be tested
abbrev pub IsNeverTooWide : ℕ → List Dependency → Form → ℕ → Type 0
IsNeverTooWide n ds form limit = (scheme : Attributes) → IsTooWideAt n ds form limit scheme → ⊥

-- no reached list is stuck, or longer than the limit
pub record IsWithinLimits (n : ℕ) (ds : List Dependency) (form : Form) (limit : ℕ) : Type 0 where
  pub narrow : IsNeverTooWide n ds form limit
  pub within_limit : HasTooManySchemes n ds form limit → ⊥

-- why a universe is not split: exactly one of the two causes holds
abbrev pub IsRefusedSplit : ℕ → List Dependency → Form → ℕ → SplitRefusal → Type 0
IsRefusedSplit n ds form limit (TooWide scheme) =
    IsTooWideAt n ds form limit (attributes scheme) × (HasTooManySchemes n ds form limit → ⊥)
IsRefusedSplit n ds form limit TooManySchemes = HasTooManySchemes n ds form limit × IsNeverTooWide n ds form limit
