-- The offences of rows: for each dependency that they break, the least pair of rows that breaks it.
-- For `offences` and `check rows` (`desk_tables/Legality`).
use Rattle.std.specs.Prelude.{◌≡◌, ◌+◌, ◌<◌, ◌≤◌, ◌⊎◌, ℕ, List, [], ◌∷◌, length, Contains}
use Rattle.attr_sets.specs.Attributes.{below, union, difference}
use Rattle.dep_model.specs.Tuples.{Tuple, Relation, AgreeOn}
use Rattle.dep_model.specs.Dependencies.{Dependency, fd, mvd, Obeys}
use Rattle.row_store.specs.Rows.{row_at}
use Rattle.legality.specs.declared.offence.Offence.{Offence}

-- two tuples in this order break a dependency: they agree on x and not on y, or they agree on x and
-- no tuple agrees with the first on x and y and with the second on the rest
abbrev pub PairBreaks : ℕ → Relation → Dependency → Tuple → Tuple → Type 0
PairBreaks n r (fd x y) t u = AgreeOn x t u × (AgreeOn y t u → ⊥)
PairBreaks n r (mvd x y) t u =
    AgreeOn x t u
    × ((v : Tuple) → Contains r v → AgreeOn (union x y) v t → AgreeOn (difference (below n) (union x y)) v u → ⊥)

-- the rows at two positions, from 0, break a dependency
abbrev pub BreaksAt : ℕ → Relation → Dependency → ℕ → ℕ → Type 0
BreaksAt n r d i j = (i < length r) × (j < length r) × PairBreaks n r d (row_at r i) (row_at r j)

-- of all pairs of rows that break a dependency this is the least, by its first row, then by its second
pub record IsLeastPair (n : ℕ) (r : Relation) (d : Dependency) (i j : ℕ) : Type 0 where
  pub breaks : BreaksAt n r d i j
  pub least : (k l : ℕ) → BreaksAt n r d k l → (i < k) ⊎ ((i ≡ k) × (j ≤ l))

-- the offence of the dependency of this number: the least pair that breaks it, with rows from 1
abbrev pub IsOffence : ℕ → Relation → ℕ → Dependency → Offence → Type 0
IsOffence n r k d o =
    (o.dep ≡ k) × (i j : ℕ) × IsLeastPair n r d i j × (o.first ≡ i + 1) × (o.second ≡ j + 1)

-- the offences of dependencies that are numbered from k: one of each that the rows do not obey, in order
unfoldable pub OffencesFrom : ℕ → Relation → ℕ → List Dependency → List Offence → Type 0
OffencesFrom n r k [] os = os ≡ []
OffencesFrom n r k (d ∷ ds) os =
    (Obeys n d r × OffencesFrom n r (k + 1) ds os)
    ⊎ ((o : Offence) × (rest : List Offence) × (os ≡ o ∷ rest) × IsOffence n r k d o
    × OffencesFrom n r (k + 1) ds rest)

-- the offences of rows against dependencies, which are numbered from 0
abbrev pub OffencesOf : ℕ → List Dependency → Relation → List Offence → Type 0
OffencesOf n ds r os = OffencesFrom n r 0 ds os
