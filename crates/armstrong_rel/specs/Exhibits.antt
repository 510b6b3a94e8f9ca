-- An Armstrong relation: its rows for `exhibit` and the command of that name
-- (`desk_exhibits/Exhibits`), and what the laws of armstrong_rel say of it.
use Rattle.std.specs.Prelude.{◌≡◌, ℕ, ◌+◌, ◌↔◌, if◌then◌else◌, List, [], ◌∷◌, map}
use Rattle.std.specs.Fmt.{decimal}
use Rattle.std.specs.List.{range_with_len}
use Rattle.attr_sets.specs.Attributes.{Attributes, below, IsSubset}
use Rattle.dep_model.specs.Tuples.{Tuple, Relation}
use Rattle.dep_model.specs.Dependencies.{Dependency, fd, ObeysFd}
use Rattle.dep_model.specs.Implication.{Implies}
use Rattle.dep_model.specs.TwoTuples.{zero_text, all_zeros}
use Rattle.armstrong_rel.specs.ClosedSets.{AreIrreducible}

-- the tuple over n attributes with `0` on a set and a number elsewhere, in decimal digits
abbrev pub numbered_tuple : ℕ → ℕ → Attributes → Tuple
numbered_tuple n number x = map (λ k. if x k then zero_text else decimal number) (range_with_len 0 n)

-- a tuple for each of these sets, numbered from this number on
abbrev pub numbered_from : ℕ → ℕ → List Attributes → Relation
numbered_from n number [] = []
numbered_from n number (x ∷ later) = numbered_tuple n number x ∷ numbered_from n (number + 1) later

-- the tuple of all `0`, and then a tuple for each of these sets, numbered from 1
abbrev pub tuples_for : ℕ → List Attributes → Relation
tuples_for n sets = all_zeros n ∷ numbered_from n 1 sets

-- the relation of the irreducible closed sets
pub record IsExhibit (n : ℕ) (ds : List Dependency) (r : Relation) : Type 0 where
  pub sets : List Attributes
  pub irreducible : AreIrreducible n ds sets
  pub tuples : r ≡ tuples_for n sets

-- an Armstrong relation: within the universe it obeys exactly the functional dependencies that are implied
abbrev pub IsArmstrong : ℕ → List Dependency → Relation → Type 0
IsArmstrong n ds r =
    (x y : Attributes) → IsSubset x (below n) → IsSubset y (below n) → ObeysFd x y r ↔ Implies n ds (fd x y)
