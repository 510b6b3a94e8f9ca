-- Designs whose keys state the functional dependencies: for the theorem that no such design has
-- fewer schemes than there are groups of left sides.
use Rattle.std.specs.Prelude.{ℕ, ◌≤◌, List, map, length, All}
use Rattle.std.specs.List.{flat_map}
use Rattle.attr_sets.specs.Attributes.{Attributes, below, IsSubset}
use Rattle.dep_model.specs.Dependencies.{Dependency, fd, functional_part}
use Rattle.dep_model.specs.Implication.{Implies}
use Rattle.dep_model.specs.Keys.{IsSuperkey}

-- a table of a design: its scheme, and sets that determine it
pub record KeyedScheme : Type 0 where
  pub scheme : Attributes
  pub keys : List Attributes

-- each of the sets determines the scheme
abbrev pub key_dependencies : KeyedScheme → List Dependency
key_dependencies table = map (λ key. fd key table.scheme) table.keys

-- schemes of the universe, each with sets of its attributes that determine it by the functional
-- dependencies; and that they do implies these
pub record StatesDependencies (n : ℕ) (ds : List Dependency) (design : List KeyedScheme) : Type 0 where
  pub within : All (λ (table : KeyedScheme). IsSubset table.scheme (below n)) design
  pub keys : All (λ (table : KeyedScheme).
      All (IsSuperkey n (functional_part ds) table.scheme) table.keys) design
  pub stated : All (Implies n (flat_map key_dependencies design)) (functional_part ds)

-- no such design has fewer schemes than there are groups
abbrev pub AreFewest : ℕ → List Dependency → List (List Attributes) → Type 0
AreFewest n ds groups =
    (design : List KeyedScheme) → StatesDependencies n ds design → length groups ≤ length design
