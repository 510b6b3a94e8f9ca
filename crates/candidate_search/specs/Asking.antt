-- What is asked of rows: whether they obey a dependency of a set on an attribute. For
-- `minimal_left_sides` and the functions below it. `Desk` does not cite it.
use Rattle.std.specs.Prelude.{◌≡◌, ℕ, ◌<◌, false, List, All, Contains, Option, Some, None}
use Rattle.attr_sets.specs.Attributes.{Attributes, below, IsSubset, count_below}
use Rattle.attr_sets.specs.Sets.{attributes}
use Rattle.attr_sets.specs.declared.set.TheConstants.{MOST_ATTRIBUTES}
use Rattle.attr_sets.specs.declared.set.AttrSet.{AttrSet}
use Rattle.candidate_sets.specs.Evidence.{IsEvidence}
use Rattle.dep_model.specs.Tuples.{Relation}
use Rattle.candidate_search.specs.Sides.{IsAnswered}
use Rattle.candidate_search.specs.declared.asking.Asked.{Asked}
use Rattle.candidate_search.specs.declared.side.Side.{Side}

-- a question within n columns
pub record IsAskedWithin (n : ℕ) (asked : Asked) : Type 0 where
  pub left : IsSubset (attributes asked.left) (below n)
  pub right : asked.right < n

-- what is asked is obeyed or refuted
abbrev pub HasAnswer : Relation → List Attributes → Asked → Type 0
HasAnswer r es asked = IsAnswered r es (attributes asked.left) asked.right

-- a set holds the left side of what is asked and lacks the right side
pub record IsRefutation (e : Attributes) (asked : Asked) : Type 0 where
  pub lacks : e asked.right ≡ false
  pub holds : IsSubset (attributes asked.left) e

-- what is asked is answered by listed evidence, or refuted by one piece more
abbrev pub AnswersOrRefutes : ℕ → Relation → List Attributes → Asked → Option AttrSet → Type 0
AnswersOrRefutes n r es asked None = HasAnswer r es asked
AnswersOrRefutes n r es asked (Some e) = IsEvidence n r (attributes e) × IsRefutation (attributes e) asked

-- each left side of so many members is asked about
abbrev pub AsksAll : List Asked → ℕ → Side → Type 0
AsksAll asked size side =
    All (λ s. count_below (attributes s) MOST_ATTRIBUTES ≡ size
    → Contains asked (record { left = s; right = side.right })) side.lefts.items
