-- Closures by functional dependencies: a functionally closed set that holds the left side has just the
-- attributes that follow from it.
use Rattle.std.proofs.Common.{◌≡◌, ℕ, true, List, get_or, arith}
use Rattle.std.proofs.lemmas.Bool.Decides.{nat_tests}
use Rattle.std.specs.Prelude.{All}
use Rattle.attr_sets.specs.Attributes.{Attributes, below, only, union, IsSubset}
use Rattle.attr_sets.specs.Sets.{attributes}
use Rattle.dep_model.specs.declared.dep.Dep.{Dep}
use Rattle.dep_model.specs.declared.dep.Dep.TheVariants.{Fd, Mvd}
use Rattle.dep_model.specs.Tuples.{Relation}
use Rattle.dep_model.specs.Dependencies.{Dependency, fd, ObeysFd, functional_part, left_of, right_of}
use Rattle.dep_model.specs.Implication.{IsLegal, Implies}
use Rattle.dep_model.specs.Deps.{IfFd, dependencies_of, IsDepWithin}
use Rattle.dep_model.specs.TwoTuples.{two_tuples}
use Rattle.dep_model.proofs.RuleLemmas.{reflexivity_obeyed, fd_weaker_obeyed, fd_union_obeyed}
use Rattle.dep_model.proofs.DepLemmas.{functional_legal-from, functional_all-to}
use Rattle.dep_model.proofs.TwoTupleLemmas.{two_tuples-over, two_tuples_fd-to, two_tuples_fd-from}
use Rattle.fd_closure.specs.FunctionallyClosed.{IsFunctionallyClosed}

-- ---- x -> y is implied exactly where x -> a is for each attribute a of y
pub fd_each-to : (n : ℕ) (ds : List Dependency) (x y : Attributes) → Implies n ds (fd x y) → (a : ℕ) → y a ≡ true → Implies n ds (fd x (only a))
fd_each-to n ds x y implied a member r legal =
    fd_weaker_obeyed x y x (only a) r (λ (k : ℕ) m. m) (λ (k : ℕ) m. grind (arith, nat_tests, m, member)) (implied r legal)

pub fd_each-from : (n : ℕ) (ds : List Dependency) (x y : Attributes) → ((a : ℕ) → y a ≡ true → Implies n ds (fd x (only a))) → Implies n ds (fd x y)
fd_each-from n ds x y each r legal t u t_in u_in agree k m =
    each k m r legal t u t_in u_in agree k (grind (arith, nat_tests))

-- ---- a functionally closed set
functionally_closed_at : (n : ℕ) (c : Attributes) (d : Dep) → IsDepWithin (below n) d → IfFd (λ x y. IsSubset x c → IsSubset y c) d → IfFd (λ x y. ObeysFd x y (two_tuples n c)) d
functionally_closed_at n c (Fd lhs rhs) within is_closed = two_tuples_fd-from n c (attributes lhs) (attributes rhs) within.0 within.1 is_closed
functionally_closed_at n c (Mvd lhs rhs) within is_closed = tt

-- the two tuples that agree exactly on it obey the functional dependencies
pub functionally_closed_legal : (n : ℕ) (ds : List Dep) (c : Attributes) → All (IsDepWithin (below n)) ds → IsFunctionallyClosed (functional_part (dependencies_of ds)) c → IsLegal n (functional_part (dependencies_of ds)) (two_tuples n c)
functionally_closed_legal n ds c within is_closed =
    let each = functional_all-to (λ (d : Dependency). IsSubset (left_of d) c → IsSubset (right_of d) c) ds is_closed in
    functional_legal-from n ds (two_tuples n c) (two_tuples-over n c)
    (λ (k : ℕ) (d : Dep) l. functionally_closed_at n c _ (within k d l) (each k d l))

-- so what follows from a part of it lies within
pub functionally_closed_holds : (n : ℕ) (ds : List Dep) (x y c : Attributes) → All (IsDepWithin (below n)) ds → IsSubset x (below n) → IsSubset y (below n)
    → IsFunctionallyClosed (functional_part (dependencies_of ds)) c → IsSubset x c → Implies n (functional_part (dependencies_of ds)) (fd x y) → IsSubset y c
functionally_closed_holds n ds x y c within x_in y_in is_closed grows implied =
    two_tuples_fd-to n c x y x_in y_in (implied (two_tuples n c) (functionally_closed_legal n ds c within is_closed)) grows

-- ---- how a closure grows
-- the right side of a dependency is added to a set that holds its left side
pub fd_added : (x y c : Attributes) (r : Relation) → IsSubset x c → ObeysFd x y r → ObeysFd c (union c y) r
fd_added x y c r inside obeys = fd_union_obeyed c c y r (reflexivity_obeyed c c r (λ (k : ℕ) m. m)) (fd_weaker_obeyed x y c y r inside (λ (k : ℕ) m. m) obeys)

-- what a dependency asks of a set is kept where the one set grows and the other does not
pub IfFd-kept : (x y c e : Attributes) (d : Dep) → IsSubset x y → IsSubset c e → IfFd (λ v t. IsSubset v y → IsSubset t c) d → IfFd (λ v t. IsSubset v x → IsSubset t e) d
IfFd-kept x y c e (Fd lhs rhs) less grows asks = λ inside k m. grows k (asks (λ (j : ℕ) h. less j (inside j h)) k m)
IfFd-kept x y c e (Mvd lhs rhs) less grows asks = tt

pub all_IfFd-kept : (x y c e : Attributes) (ds : List Dep) → IsSubset x y → IsSubset c e → All (IfFd (λ v t. IsSubset v y → IsSubset t c)) ds → All (IfFd (λ v t. IsSubset v x → IsSubset t e)) ds
all_IfFd-kept x y c e ds less grows asks k d l = IfFd-kept x y c e (get_or ds k d) less grows (asks k d l)
