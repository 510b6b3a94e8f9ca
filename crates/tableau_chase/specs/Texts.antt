-- The rows of a tableau as texts, in order: for the function that gives the lossy answer of
-- `chase`. `Desk` does not cite it.
use Rattle.std.specs.Prelude.{◌≡◌, length, AllPairs}
use Rattle.dep_model.specs.Tuples.{Relation}
use Rattle.chase_laws.specs.Tableaux.{Tableau, SameTableau}
use Rattle.chase_laws.specs.Answers.{texts_of, RowBefore}

-- the texts of the rows of a tableau, in their order
pub record AreTextsOf (t : Tableau) (r : Relation) : Type 0 where
  pub symbols : Tableau
  pub same : SameTableau t symbols
  pub count : length symbols ≡ length t
  pub ascending : AllPairs RowBefore symbols
  pub texts : r ≡ texts_of symbols
