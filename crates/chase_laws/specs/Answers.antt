-- What a chase ends with, as a relation: for the laws of chase_laws, `chase` of tableau_chase and
-- `check join` (`desk_designs/Joins`).
use Rattle.std.specs.Prelude.{◌≡◌, ℕ, ◌≤◌, List, length, map, AllPairs, Contains, decimal}
use Rattle.std.specs.Ordering.{nat_cmp}
use Rattle.std.specs.declared.cmp.Ordering.TheVariants.{Less}
use Rattle.std.specs.Cmp.Lexicographic.{slice_cmp}
use Rattle.attr_sets.specs.Attributes.{Attributes}
use Rattle.dep_model.specs.Tuples.{Relation}
use Rattle.dep_model.specs.Dependencies.{Dependency}
use Rattle.dep_model.specs.Implication.{IsLegal}
use Rattle.dep_model.specs.Projections.{InJoin, projections}
use Rattle.dep_model.specs.TwoTuples.{all_zeros}
use Rattle.chase_laws.specs.Tableaux.{SymbolRow, Tableau}
use Rattle.chase_laws.specs.Steps.{IsClosed}
use Rattle.chase_laws.specs.Rounds.{ReachesTableau, ClosesFunctionallyTo, InRounds}

-- a tableau as a relation: each symbol as a decimal text
abbrev pub texts_of : Tableau → Relation
texts_of t = map (map decimal) t

-- the first row comes before the second in the order of the lists of their symbols
abbrev pub RowBefore : SymbolRow → SymbolRow → Type 0
RowBefore p q = slice_cmp nat_cmp p q ≡ Less

-- a legal relation whose projections have one tuple more in their join: that of n times `0`
pub record IsGaining (n : ℕ) (ds : List Dependency) (plan : List Attributes) (r : Relation) : Type 0 where
  pub legal : IsLegal n ds r
  pub joined : InJoin n plan (projections plan r) (all_zeros n)
  pub gained : Contains r (all_zeros n) → ⊥

-- what the last tableau of the rounds closes functionally to, which is closed and has at most so many
-- rows: as texts, its rows ascending
pub record IsClosedTableau (n : ℕ) (ds : List Dependency) (plan : List Attributes) (limit : ℕ)
    (r : Relation) : Type 0 where
  pub symbols : Tableau
  pub texts : r ≡ texts_of symbols
  pub round : ℕ
  pub last : Tableau
  pub in_rounds : InRounds n ds plan round last
  pub closes : ClosesFunctionallyTo ds last symbols
  pub reached : ReachesTableau n ds plan symbols
  pub closed : IsClosed n ds symbols
  pub within_limit : length symbols ≤ limit
  pub ascending : AllPairs RowBefore symbols
