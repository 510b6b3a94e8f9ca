-- The dependencies of a list, one by one, and legality by them.
use Rattle.std.proofs.Common.{ℕ, List, [], ◌∷◌, ◌≡◌, ◌<◌, ◌+◌, true, take, ◌++◌, length, get_or, refl, ap, ◌∙◌, arith, add-one}
use Rattle.std.specs.Prelude.{All}
use Rattle.std.proofs.lemmas.List.Elements.{All-nil, All-cons, All-head, All-tail, All-map, All-filter}
use Rattle.attr_sets.specs.Sets.{attributes}
use Rattle.dep_model.specs.declared.dep.Dep.{Dep}
use Rattle.dep_model.specs.declared.dep.Dep.TheVariants.{Fd, Mvd}
use Rattle.dep_model.specs.Tuples.{Relation, IsOver}
use Rattle.dep_model.specs.Dependencies.{Dependency, fd, Obeys, ObeysFd, is_fd, functional_part}
use Rattle.dep_model.specs.Implication.{IsLegal}
use Rattle.dep_model.specs.Deps.{dependency_of, dependencies_of}
use Rattle.std.proofs.Math.ListN.{get_or-map}
use Rattle.std.proofs.Math.Seq.{take-suc}
use Rattle.std.proofs.lemmas.List.{length-map}
pub use Rattle.dep_model.specs.Deps.{IfFd}

-- ---- a fact of each dependency, as one of the theory and as a `Dep`
pub dependencies_all-to : (P : Dependency → Type 0) (ds : List Dep) → All P (dependencies_of ds) → All (λ d. P (dependency_of d)) ds
dependencies_all-to P [] h = All-nil (λ d. P (dependency_of d))
dependencies_all-to P (d ∷ ds) h =
    All-cons (λ (e : Dep). P (dependency_of e)) d ds (All-head P (dependency_of d) (dependencies_of ds) h)
    (dependencies_all-to P ds (All-tail P (dependency_of d) (dependencies_of ds) h))

pub dependencies_all-from : (P : Dependency → Type 0) (ds : List Dep) → All (λ d. P (dependency_of d)) ds → All P (dependencies_of ds)
dependencies_all-from P ds h = All-map P dependency_of ds h

-- ---- a fact of each functional dependency
pub functional_all-to : (P : Dependency → Type 0) (ds : List Dep) → All P (functional_part (dependencies_of ds)) → All (IfFd (λ x y. P (fd x y))) ds
functional_all-to P [] h = All-nil (IfFd (λ x y. P (fd x y)))
functional_all-to P (Fd lhs rhs ∷ ds) h =
    All-cons (IfFd (λ x y. P (fd x y))) (Fd lhs rhs) ds (All-head P (fd (attributes lhs) (attributes rhs)) (functional_part (dependencies_of ds)) h)
    (functional_all-to P ds (All-tail P (fd (attributes lhs) (attributes rhs)) (functional_part (dependencies_of ds)) h))
functional_all-to P (Mvd lhs rhs ∷ ds) h = All-cons (IfFd (λ x y. P (fd x y))) (Mvd lhs rhs) ds tt (functional_all-to P ds h)

pub functional_all-from : (P : Dependency → Type 0) (ds : List Dep) → All (IfFd (λ x y. P (fd x y))) ds → All P (functional_part (dependencies_of ds))
functional_all-from P [] h = All-nil P
functional_all-from P (Fd lhs rhs ∷ ds) h =
    All-cons P (fd (attributes lhs) (attributes rhs)) (functional_part (dependencies_of ds)) (All-head (IfFd (λ x y. P (fd x y))) (Fd lhs rhs) ds h)
    (functional_all-from P ds (All-tail (IfFd (λ x y. P (fd x y))) (Fd lhs rhs) ds h))
functional_all-from P (Mvd lhs rhs ∷ ds) h = functional_all-from P ds (All-tail (IfFd (λ x y. P (fd x y))) (Mvd lhs rhs) ds h)

-- ---- legality
-- a relation is legal for a list where it obeys each dependency of it
pub legal-to : (n : ℕ) (ds : List Dep) (r : Relation) → IsLegal n (dependencies_of ds) r → All (λ d. Obeys n (dependency_of d) r) ds
legal-to n ds r legal = dependencies_all-to (λ (d : Dependency). Obeys n d r) ds legal.obeys

pub legal-from : (n : ℕ) (ds : List Dep) (r : Relation) → IsOver n r → All (λ d. Obeys n (dependency_of d) r) ds → IsLegal n (dependencies_of ds) r
legal-from n ds r over h = record { over = over; obeys = dependencies_all-from (λ (d : Dependency). Obeys n d r) ds h }

-- and for its functional part where it obeys each functional one
pub functional_legal-to : (n : ℕ) (ds : List Dep) (r : Relation) → IsLegal n (functional_part (dependencies_of ds)) r → All (IfFd (λ x y. ObeysFd x y r)) ds
functional_legal-to n ds r legal = functional_all-to (λ (d : Dependency). Obeys n d r) ds legal.obeys

pub functional_legal-from : (n : ℕ) (ds : List Dep) (r : Relation) → IsOver n r → All (IfFd (λ x y. ObeysFd x y r)) ds → IsLegal n (functional_part (dependencies_of ds)) r
functional_legal-from n ds r over h = record { over = over; obeys = functional_all-from (λ (d : Dependency). Obeys n d r) ds h }

-- what is legal for a list is legal for its functional part
pub functional_legal-weaker : (n : ℕ) (ds : List Dependency) (r : Relation) → IsLegal n ds r → IsLegal n (functional_part ds) r
functional_legal-weaker n ds r legal = record { over = legal.over; obeys = All-filter is_fd (λ (d : Dependency). Obeys n d r) ds legal.obeys }

pub theory_next : (deps : List Dep) (k : ℕ) (d : Dep) → k < length deps
    → take (k + 1) (dependencies_of deps) ≡ take k (dependencies_of deps) ++ dependency_of (get_or deps k d) ∷ []
theory_next deps k d low =
    let long : k < length (dependencies_of deps) = omega (arith, low, length-map deps dependency_of) in
    rw add-one (take-suc (dependencies_of deps) k (dependency_of d) long
    ∙ ap (λ (e : Dependency). take k (dependencies_of deps) ++ e ∷ []) (get_or-map dependency_of deps k d))

-- where all are functional, the functional part is the list
pub functional_list : (ds : List Dep) → All (λ (d : Dep). is_fd (dependency_of d) ≡ true) ds → functional_part (dependencies_of ds) ≡ dependencies_of ds
functional_list [] all = refl
functional_list (d ∷ ds) all =
    let first : is_fd (dependency_of d) ≡ true = All-head (λ (e : Dep). is_fd (dependency_of e) ≡ true) d ds all in
    rw first (ap (λ (es : List Dependency). dependency_of d ∷ es) (functional_list ds (All-tail (λ (e : Dep). is_fd (dependency_of e) ≡ true) d ds all)))
