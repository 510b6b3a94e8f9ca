-- A plan in which each given functional dependency lies within a scheme keeps the dependencies.
use Rattle.std.proofs.Common.{◌≡◌, ℕ, true, List, get_or, sym}
use Rattle.std.proofs.lemmas.Bool.{true≢false}
use Rattle.std.proofs.lemmas.List.Elements.{filter_passes}
use Rattle.std.specs.Prelude.{All, Any}
use Rattle.attr_sets.specs.Attributes.{Attributes, union, IsSubset}
use Rattle.dep_model.specs.Tuples.{Relation}
use Rattle.dep_model.specs.Dependencies.{Dependency, fd, mvd, Obeys, ObeysFd, is_fd, functional_part, left_of, right_of}
use Rattle.dep_model.specs.Preservation.{KeepsDependencies}

-- a functional dependency as its sides
pub fd-obeys : (n : ℕ) (d : Dependency) (r : Relation) → is_fd d ≡ true → ObeysFd (left_of d) (right_of d) r → Obeys n d r
fd-obeys n (fd x y) r is obeys = obeys
fd-obeys n (mvd x y) r is obeys = absurd (true≢false (sym is))

pub fd-obeyed : (n : ℕ) (d : Dependency) (r : Relation) → is_fd d ≡ true → Obeys n d r → ObeysFd (left_of d) (right_of d) r
fd-obeyed n (fd x y) r is obeys = obeys
fd-obeyed n (mvd x y) r is obeys = absurd (true≢false (sym is))

pub keeps_from_given : (n : ℕ) (ds : List Dependency) (plan : List Attributes)
    → All (λ d. Any (λ (scheme : Attributes). IsSubset (union (left_of d) (right_of d)) scheme) plan) (functional_part ds) → KeepsDependencies n ds plan
keeps_from_given n ds plan each r over inside = record {
  over = over;
  obeys = λ k d l.
      let e : Dependency = get_or (functional_part ds) k d in
      let is : is_fd e ≡ true = filter_passes is_fd ds k d l in
      fd-obeys n e r is (inside (left_of e) (right_of e) (each k d l) (λ s legal. fd-obeyed n e s is (legal.obeys k d l)));
}
