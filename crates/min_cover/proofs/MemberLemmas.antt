-- The members of a functional dependency say the same as it, also with their left sides shortened.
use Rattle.std.proofs.Common.{◌≡◌, ℕ, ◌+◌, ◌<◌, zero, suc, true, List, [], ◌∷◌, ◌++◌, sym, ◌∙◌, subst, inl, inr, arith}
use Rattle.std.proofs.lemmas.Bool.{cases_Bool, ltb-true, true≢false}
use Rattle.std.proofs.lemmas.Bool.Decides.{nat_tests}
use Rattle.std.proofs.lemmas.List.{map_push}
use Rattle.std.proofs.lemmas.List.Elements.{All-nil, All-push, All-contains, AllZip-push}
use Rattle.std.specs.Prelude.{All, Contains}
use Rattle.std.specs.List.{AllZip}
use Rattle.attr_sets.specs.Attributes.{Attributes, below, only, difference, IsSubset, count_below}
use Rattle.attr_sets.specs.declared.narrowing.Direction.TheVariants.{Ascending}
use Rattle.attr_sets.proofs.AttributesLemmas.{count_below-before_member}
use Rattle.attr_sets.proofs.NarrowingLemmas.{narrowed_passes, narrowed_minimal}
use Rattle.dep_model.specs.Tuples.{Relation}
use Rattle.dep_model.specs.declared.dep.Dep.{Dep}
use Rattle.dep_model.specs.Dependencies.{Dependency, fd, Obeys, ObeysFd, is_fd, functional_part}
use Rattle.dep_model.specs.Deps.{dependency_of, dependencies_of, IsDepWithin}
use Rattle.dep_model.specs.Implication.{Implies}
use Rattle.dep_model.specs.Projections.{members_below}
use Rattle.dep_model.proofs.RuleLemmas.{fd_weaker_obeyed}
use Rattle.dep_model.proofs.ListLemmas.{Contains-map}
use Rattle.dep_model.proofs.SchemeLemmas.{length-members_below, members_below-at, members_below-none, members_below-one_more, members_below-no_more}
use Rattle.min_cover.specs.Members.{members_of, IsLeftReduced, IsLeftReducedDependency, AreLeftReduced}

-- ---- the members of a set, ascending

pub members_are : (n : ℕ) (x : Attributes) → All (λ (a : ℕ). x a ≡ true) (members_below n x)
members_are zero x = rw (members_below-none x) (All-nil (λ (a : ℕ). x a ≡ true))
members_are (suc n) x =
    let e : suc n ≡ n + 1 = omega arith in
    elim (cases_Bool (x n)) [
      | inl member ↦ rw (members_below-one_more n (suc n) x e member) (All-push (λ (a : ℕ). x a ≡ true) (members_below n x) n (members_are n x) member)
      | inr outside ↦ rw (members_below-no_more n (suc n) x e outside) (members_are n x)
    ]

member_listed : (n : ℕ) (x : Attributes) (k : ℕ) → k < n → x k ≡ true → Contains (members_below n x) k
member_listed n x k lt member = (count_below x k, omega (arith, length-members_below n x, count_below-before_member n k x lt member), members_below-at n x k k lt member)

-- ---- what the members say
-- a relation that obeys each member obeys the dependency
pub members_obeyed-to : (n : ℕ) (x y : Attributes) (r : Relation) → IsSubset y (below n) → All (λ d. Obeys n d r) (members_of n (fd x y)) → ObeysFd x y r
members_obeyed-to n x y r low all t u t_in u_in agree k in_y = elim (cases_Bool (x k)) [
  | inl in_x ↦ agree k in_x
  | inr out ↦
      let beyond : difference y x k ≡ true = grind (arith, in_y, out) in
      let single : Dependency = fd x (only k) in
      let listed : Contains (members_of n (fd x y)) single = Contains-map (λ (a : ℕ). fd x (only a)) (members_below n (difference y x)) k (member_listed n (difference y x) k (ltb-true k n (low k in_y)) beyond) in
      let obeys : ObeysFd x (only k) r = All-contains (λ (d : Dependency). Obeys n d r) (members_of n (fd x y)) single all listed in
      obeys t u t_in u_in agree k (grind (arith, nat_tests))
]

-- ---- shortened left sides
-- what is left determines the right side
pub short_implied : (n : ℕ) (ds : List Dependency) (x y short : Attributes) → IsLeftReduced n ds x y short → IsSubset x (below n) → Implies n (functional_part ds) (fd x y)
    → Implies n (functional_part ds) (fd short y)
short_implied n ds x y short is low implied =
    narrowed_passes Ascending (λ left. Implies n (functional_part ds) (fd left y)) x x short is n low implied

-- no attribute of it can be left out
pub left_reduced-needed : (n : ℕ) (ds : List Dependency) (x y short : Attributes) (i : ℕ) → IsLeftReduced n ds x y short → short i ≡ true → Implies n (functional_part ds) (fd (difference short (only i)) y) → ⊥
left_reduced-needed n ds x y short i is member implied =
    let part = difference short (only i) in
    let there : part i ≡ true =
    narrowed_minimal Ascending (λ left. Implies n (functional_part ds) (fd left y)) x x short is
    (λ (a b : Attributes) inside within fact r legal. fd_weaker_obeyed a y b y r inside (λ k m. m) (fact r legal)) part (λ k m. grind (arith, m)) implied i member
    (is.within i member) in
    true≢false (sym there ∙ grind (arith, nat_tests))

-- ---- the list of them
-- one more
pub shortened_more : (n : ℕ) (ds firsts : List Dependency) (members : List Dep) (d : Dependency) (e : Dep) → AreLeftReduced n ds firsts members
    → IsLeftReducedDependency n ds d (dependency_of e) → IsDepWithin (below n) e → is_fd (dependency_of e) ≡ true → AreLeftReduced n ds (firsts ++ d ∷ []) (members ++ e ∷ [])
shortened_more n ds firsts members d e before short within functional = record {
  short = subst (λ (es : List Dependency). AllZip (IsLeftReducedDependency n ds) (firsts ++ d ∷ []) es) (sym (map_push dependency_of members e))
      (AllZip-push (IsLeftReducedDependency n ds) firsts (dependencies_of members) d (dependency_of e) before.short short);
  within = All-push (IsDepWithin (below n)) members e before.within within;
  functional = All-push (λ (f : Dep). is_fd (dependency_of f) ≡ true) members e before.functional functional;
}
