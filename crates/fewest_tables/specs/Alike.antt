-- Left sides that determine each other, and their groups: for the merged plan (`MergedPlans`).
use Rattle.std.specs.Prelude.{◌≡◌, ◌↔◌, ℕ, Bool, true, not, if◌then◌else◌, List, [], ◌∷◌, ◌++◌, map, filter, Contains}
use Rattle.std.specs.List.{list_any, flat_map}
use Rattle.attr_sets.specs.Attributes.{Attributes}
use Rattle.attr_sets.specs.Sets.{is_same}
use Rattle.dep_model.specs.Dependencies.{Dependency, fd, functional_part}
use Rattle.dep_model.specs.Implication.{Implies}

-- each of two sets determines the other by the functional dependencies
abbrev pub AreAlike : ℕ → List Dependency → Attributes → Attributes → Type 0
AreAlike n ds x y = Implies n (functional_part ds) (fd x y) × Implies n (functional_part ds) (fd y x)

-- a test decides of any two sets of a list whether they are alike
abbrev pub DecidesAlike : ℕ → List Dependency → List Attributes → (Attributes → Attributes → Bool) → Type 0
DecidesAlike n ds xs alike =
    (x y : Attributes) → Contains xs x → Contains xs y → (alike x y ≡ true) ↔ AreAlike n ds x y

-- those of a list with which none of these before them, and none of themselves, is alike
abbrev pub firsts_after : {X : Type 0} → (X → X → Bool) → List X → List X → List X
firsts_after alike earlier [] = []
firsts_after alike earlier (x ∷ later) =
    if list_any (λ y. alike y x) earlier then firsts_after alike earlier later
    else x ∷ firsts_after alike (earlier ++ x ∷ []) later

-- the groups of a list: for each set that is alike with none before it, all that are alike with it,
-- in order
abbrev pub groups_of : (Attributes → Attributes → Bool) → List Attributes → List (List Attributes)
groups_of alike xs = map (λ x. filter (alike x) xs) (firsts_after alike [] xs)

abbrev pub AreGroups : ℕ → List Dependency → List Attributes → List (List Attributes) → Type 0
AreGroups n ds xs groups =
    (alike : Attributes → Attributes → Bool) × DecidesAlike n ds xs alike × (groups ≡ groups_of alike xs)

-- what is alike in a group: each set of it determines each different one
abbrev pub exchanges : List Attributes → List Dependency
exchanges group = flat_map (λ x. map (λ y. fd x y) (filter (λ y. not (is_same x y)) group)) group

-- and in all groups
abbrev pub all_exchanges : List (List Attributes) → List Dependency
all_exchanges groups = flat_map exchanges groups
