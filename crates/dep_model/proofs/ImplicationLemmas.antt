-- Lists of which one implies the members of the other.
use Rattle.std.proofs.Common.{ℕ, List}
use Rattle.std.specs.Prelude.{All}
use Rattle.dep_model.specs.Tuples.{Relation}
use Rattle.dep_model.specs.Dependencies.{Dependency}
use Rattle.dep_model.specs.Implication.{IsLegal, Implies}

-- what is legal for a list is legal for one of which it implies each member
pub legal_for_implied : (n : ℕ) (ds es : List Dependency) (r : Relation) → All (Implies n ds) es → IsLegal n ds r → IsLegal n es r
legal_for_implied n ds es r implied legal = record { over = legal.over; obeys = λ k d l. implied k d l r legal }
