-- Evidence without an attribute, of which the largest sets tell all. For `candidates_of`. `Desk` does not cite it.
use Rattle.std.specs.Prelude.{◌≡◌, ℕ, false, List, All, Contains}
use Rattle.attr_sets.specs.Attributes.{Attributes, IsSubset}

-- a listed set holds x
abbrev pub IsHeldBy : List Attributes → Attributes → Type 0
IsHeldBy es x = (e : Attributes) × Contains es e × IsSubset x e

-- evidence without a, of which each piece is one of the listed ones or within one
pub record AreLargest (a : ℕ) (es largest : List Attributes) : Type 0 where
  pub each : All (λ e. Contains es e × (e a ≡ false)) largest
  pub all : (e : Attributes) → Contains es e → e a ≡ false → IsHeldBy largest e
