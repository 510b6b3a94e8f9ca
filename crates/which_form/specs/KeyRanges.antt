-- Between which sets the keys of a scheme lie: for the search among them. `Desk` does not cite it.
use Rattle.std.specs.Prelude.{List}
use Rattle.attr_sets.specs.Attributes.{Attributes, union, IsSubset, Disjoint}
use Rattle.attr_sets.specs.Sets.{attributes}
use Rattle.dep_model.specs.Dependencies.{Dependency, functional_part}
use Rattle.dep_model.specs.Keys.{IsSuperkey, IsKey}
use Rattle.dep_model.specs.Theories.{width_of, universe_of, theory_of}
use Rattle.dep_model.specs.Theories.{Theory}
use Rattle.normal_forms.specs.Adding.{AddOnlyThemselves}
use Rattle.which_form.specs.declared.ranges.KeyRange.{KeyRange}

-- the functional dependencies among those of a theory
abbrev pub functional_of : Theory → List Dependency
functional_of s = functional_part (theory_of s)

-- a set is a superkey of the scheme of a range by them, or a key
abbrev pub IsSuperkeyIn : Theory → KeyRange → Attributes → Type 0
IsSuperkeyIn s range x = IsSuperkey (width_of s) (functional_of s) (attributes range.scheme) x

abbrev pub IsKeyIn : Theory → KeyRange → Attributes → Type 0
IsKeyIn s range k = IsKey (width_of s) (functional_of s) (attributes range.scheme) k

-- each key has the least attributes, and beside them varying ones alone. What a set determines beyond
-- itself, it determines by what it has of the sides
pub record IsKeyRange (s : Theory) (range : KeyRange) : Type 0 where
  pub scheme : IsSubset (attributes range.scheme) (universe_of s)
  pub sides : IsSubset (attributes range.sides) (attributes range.scheme)
  pub added : AddOnlyThemselves (width_of s) (functional_of s) (attributes range.scheme)
      (attributes range.sides)
  pub least : IsSubset (attributes range.least) (attributes range.scheme)
  pub in_superkeys : (x : Attributes) → IsSuperkeyIn s range x → IsSubset (attributes range.least) x
  pub varying : IsSubset (attributes range.varying) (attributes range.scheme)
  pub apart : Disjoint (attributes range.varying) (attributes range.least)
  pub keys : (k : Attributes) → IsKeyIn s range k
      → IsSubset k (union (attributes range.least) (attributes range.varying))
