-- Lists of schemes that splitting leads to, whatever schemes stay whole and whatever they are cut
-- by: for `Splitting`.
use Rattle.std.specs.Prelude.{◌≡◌, ℕ, zero, suc, List, [], ◌∷◌, ◌++◌, All}
use Rattle.attr_sets.specs.Attributes.{Attributes, below, union, difference}

-- lists of schemes that come of splitting, whatever schemes stay whole and whatever pair a scheme is cut
-- by: here a scheme is cut by x and y into the union of x and y and, after it, the scheme without y

-- the list that comes after another: the first scheme that does not stay whole is cut in its place
pub record IsSplitStep (Whole : Attributes → Type 0) (Cut : Attributes → Attributes → Attributes → Type 0)
    (schemes after : List Attributes) : Type 0 where
  pub earlier : List Attributes
  pub scheme : Attributes
  pub later : List Attributes
  pub list : schemes ≡ earlier ++ scheme ∷ later
  pub whole : All Whole earlier
  pub x : Attributes
  pub y : Attributes
  pub cut : Cut scheme x y
  pub replaced : after ≡ earlier ++ union x y ∷ difference scheme y ∷ later

-- a list that so many steps lead to, from the universe alone
abbrev pub ReachedIn : ℕ → (Attributes → Type 0) → (Attributes → Attributes → Attributes → Type 0)
    → ℕ → List Attributes → Type 0
ReachedIn n Whole Cut zero schemes = schemes ≡ below n ∷ []
ReachedIn n Whole Cut (suc count) schemes =
    (before : List Attributes) × ReachedIn n Whole Cut count before × IsSplitStep Whole Cut before schemes
