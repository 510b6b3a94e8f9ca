-- What is left of the minimal dependencies inside a set says of it what the list says, and nothing of it
-- can be spared.
use Rattle.std.proofs.Common.{◌≡◌, ◌≤◌, ℕ, true, false, List, [], sym, subst, ◌∙◌, inl, inr, arith}
use Rattle.std.proofs.lemmas.Bool.{cases_Bool, ltb-true}
use Rattle.std.proofs.lemmas.Bool.Decides.{nat_tests}
use Rattle.std.proofs.lemmas.List.Elements.{All-nil, All-contains, All-weaker}
use Rattle.std.specs.Prelude.{All, Contains}
use Rattle.attr_sets.specs.Attributes.{Attributes, below, only, difference, IsSubset}
use Rattle.dep_model.specs.declared.dep.Dep.{Dep}
use Rattle.dep_model.specs.Tuples.{Relation}
use Rattle.dep_model.specs.Dependencies.{Dependency, fd, left_of, right_of, Obeys, IsWithin}
use Rattle.dep_model.specs.Deps.{dependencies_of, IsDepWithin}
use Rattle.dep_model.specs.Implication.{IsLegal, Implies}
use Rattle.dep_model.specs.Keys.{InClosure}
use Rattle.dep_model.proofs.RuleLemmas.{fd_weaker_obeyed}
use Rattle.min_cover.proofs.CoverLemmas.{thinned_legal-to, thinned_all, thinned_left}
use Rattle.fd_projection.specs.Projections.{IsMinimalFd, IsProjection, IsCoverWithin}
use Rattle.fd_projection.proofs.MinimalLemmas.{least_to, HasMinimalPart, minimal_part}

-- a minimal dependency lies inside the set
pub minimal_within_set : (n : ℕ) (ds : List Dependency) (set : Attributes) (d : Dependency) → IsMinimalFd n ds set d → IsWithin set d
minimal_within_set n ds set d (x, a, is, minimal) = subst (IsWithin set) (sym is) (
  minimal.left,
  λ k m. let here : k ≡ a = grind (arith, nat_tests, m) in subst (λ (j : ℕ). set j ≡ true) (sym here) minimal.right,
)

-- and is implied
minimal_implied : (n : ℕ) (ds : List Dependency) (set : Attributes) (d : Dependency) → IsMinimalFd n ds set d → Implies n ds d
minimal_implied n ds set d (x, a, is, minimal) = subst (Implies n ds) (sym is) minimal.determines.1

module _ (n : ℕ) (ds : List Dep) (set : Attributes) (rules : List Dependency) (within_limit : n ≤ 128) (within : All (IsDepWithin (below n)) ds)
    (set_in : IsSubset set (below n)) (is : IsProjection n (dependencies_of ds) set rules) where
  abbrev given : List Dependency
  given = dependencies_of ds

  abbrev minimal : Dependency → Type 0
  minimal d = IsMinimalFd n given set d

  all_minimal : All minimal rules
  all_minimal = thinned_all n minimal [] is.found rules is.thinned (All-nil minimal) is.minimal.each

  -- the rules are obeyed where the list is
  rules_legal : (r : Relation) → IsLegal n given r → IsLegal n rules r
  rules_legal r legal = record {
    over = legal.over;
    obeys = All-weaker minimal (λ (d : Dependency). Obeys n d r) (λ d m. minimal_implied n given set d m r legal) rules all_minimal;
  }

  found_legal : (r : Relation) → IsLegal n rules r → IsLegal n is.found r
  found_legal r legal = thinned_legal-to n [] is.found rules r is.thinned legal

  -- what the list implies inside the set, attribute by attribute
  member_obeyed : (x y : Attributes) → IsSubset x set → IsSubset y set → Implies n given (fd x y) → (r : Relation) → IsLegal n rules r
      → (k : ℕ) → y k ≡ true → x k ≡ false → HasMinimalPart n given set x k
  member_obeyed x y x_in y_in implied r legal k in_y out =
      let determined : InClosure n given x k = (
        ltb-true k n (set_in k (y_in k in_y)),
        λ q q_legal. fd_weaker_obeyed x y x (only k) q (λ j m. m)
            (λ j m. let here : j ≡ k = grind (arith, nat_tests, m) in subst (λ (i : ℕ). y i ≡ true) (sym here) in_y) (implied q q_legal),
      ) in
      minimal_part n ds set x k within_limit within set_in x_in (y_in k in_y) out determined

  rules_imply : (x y : Attributes) → IsSubset x set → IsSubset y set → Implies n given (fd x y) → Implies n rules (fd x y)
  rules_imply x y x_in y_in implied r legal t u t_in u_in agree k in_y = elim (cases_Bool (x k)) [
    | inl in_x ↦ agree k in_x
    | inr out ↦
        let part = member_obeyed x y x_in y_in implied r legal k in_y out in
        let rule : Dependency = fd part.part (only k) in
        let obeyed : Obeys n rule r = All-contains (λ (d : Dependency). Obeys n d r) is.found rule (found_legal r legal).obeys (is.minimal.all part.part k part.minimal) in
        obeyed t u t_in u_in (λ j m. agree j (part.within j m)) k (grind (arith, nat_tests))
  ]

  rule_short : (d : Dependency) → Contains rules d → (i : ℕ) → left_of d i ≡ true → Implies n given (fd (difference (left_of d) (only i)) (right_of d)) → ⊥
  rule_short d has i member implied =
      let (x, a, same, least) = All-contains minimal rules d all_minimal has in
      least_to n given x a least.minimal i (subst (λ (e : Dependency). left_of e i ≡ true) same member)
      (least.determines.0, subst (λ (e : Dependency). Implies n given (fd (difference (left_of e) (only i)) (right_of e))) same implied)

  pub projection_covers : IsCoverWithin n given set rules
  projection_covers = record {
    within = All-weaker minimal (IsWithin set) (λ d m. minimal_within_set n given set d m) rules all_minimal;
    exact = λ x y x_in y_in. (
      (λ implied r legal. implied r (rules_legal r legal)),
      rules_imply x y x_in y_in,
    );
    needed = λ before after d split implied.
        let left = thinned_left n [] is.found rules is.thinned in
        left.1.needed before after d (sym left.1.whole ∙ split) implied;
    short = rule_short;
  }
