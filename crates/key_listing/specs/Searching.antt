-- Which keys were found so far: for the search for keys. `Desk` does not cite it.
use Rattle.attr_sets.specs.Attributes.{Attributes, IsSubset}
use Rattle.std.specs.Prelude.{Any, List, length, ℕ, ◌≡◌, ◌≤◌}
use Rattle.attr_sets.specs.declared.set.AttrSet.{AttrSet}
use Rattle.attr_sets.specs.Sets.{attributes}
use Rattle.dep_model.specs.Dependencies.{Dependency}
use Rattle.dep_model.specs.Keys.{IsKey}
use Rattle.key_listing.specs.declared.refusal.TheConstants.{MOST_KEYS}

-- each key of a scheme that has all of one set and lies within another was found, unless more were found
-- than are listed
abbrev pub HasKeysBetween : ℕ → List Dependency → Attributes → Attributes → Attributes → List AttrSet → Type 0
HasKeysBetween n ds scheme least most found =
    length found ≤ MOST_KEYS → (k : Attributes) → IsKey n ds scheme k → IsSubset least k → IsSubset k most
    → Any (λ j. attributes j ≡ k) found
