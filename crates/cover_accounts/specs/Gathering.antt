-- Dependencies with their positions while they are gathered: for the functions below `cover_steps`. `Desk`
-- does not cite it.
use Rattle.std.specs.Prelude.{List, map}
use Rattle.attr_sets.specs.Attributes.{Attributes, IsSubset}
use Rattle.attr_sets.specs.Sets.{attributes}
use Rattle.dep_model.specs.declared.dep.Dep.{Dep}
use Rattle.dep_model.specs.declared.dep.Dep.TheVariants.{Fd}
use Rattle.dep_model.specs.Deps.{IsDepWithin}
use Rattle.cover_accounts.specs.declared.shortening.ShortMember.{ShortMember}
use Rattle.cover_accounts.specs.declared.thinning.PlacedDep.{PlacedDep}

abbrev pub deps_of_places : List PlacedDep → List Dep
deps_of_places list = map (λ one. one.dep) list

abbrev pub IsPlacedWithin : Attributes → PlacedDep → Type 0
IsPlacedWithin universe one = IsDepWithin universe one.dep

-- the sides of a member lie within a set
abbrev pub IsMemberWithin : Attributes → ShortMember → Type 0
IsMemberWithin universe m =
    IsSubset (attributes m.left) universe × IsSubset (attributes m.right) universe

-- a member as a dependency, with what is left of its left side
abbrev pub short_dep : ShortMember → PlacedDep
short_dep m = record { position = m.position; dep = Fd m.left m.right }
