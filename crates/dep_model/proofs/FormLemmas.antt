-- The normal forms, of which each gives the next weaker one.
use Rattle.std.proofs.Common.{◌≡◌, ℕ, List, sym, ◌∙◌, subst, inl, ⊎_elim, arith}
use Rattle.std.proofs.lemmas.Bool.{true≢false}
use Rattle.std.proofs.lemmas.Bool.Decides.{nat_tests}
use Rattle.attr_sets.specs.Attributes.{Attributes, below, only, union, IsSubset}
use Rattle.attr_sets.proofs.AttributesLemmas.{tell_subset, same_at}
use Rattle.dep_model.specs.Dependencies.{Dependency, fd, mvd, functional_part}
use Rattle.dep_model.specs.OnSchemes.{ImpliedOn}
use Rattle.dep_model.specs.Keys.{IsSuperkey}
use Rattle.dep_model.specs.Forms.{IsThird, IsBcnf, IsFourth}
use Rattle.dep_model.proofs.RuleLemmas.{reflexivity_obeyed, fd_union_obeyed, fd_weaker_obeyed, replication_obeyed}
use Rattle.dep_model.proofs.SchemeLemmas.{mvd_in-from}
use Rattle.dep_model.proofs.KeyLemmas.{superkey-from, fd_on-to}

-- what is functional is multivalued, on a scheme too
pub replicated_on : (n : ℕ) (ds : List Dependency) (scheme x y : Attributes) → ImpliedOn n ds scheme (fd x y) → ImpliedOn n ds scheme (mvd x y)
replicated_on n ds scheme x y on = record {
  within = on.within;
  obeyed = λ r legal. mvd_in-from scheme x y r on.within.0 on.within.1 (replication_obeyed scheme x y r (fd_on-to n ds scheme x y on r legal));
}

-- x determines all that it holds and a besides
whole_by_one : (n : ℕ) (ds : List Dependency) (scheme x : Attributes) (a : ℕ) → ImpliedOn n ds scheme (fd x (only a)) → IsSubset scheme (union x (only a)) → IsSuperkey n ds scheme x
whole_by_one n ds scheme x a on all =
    superkey-from n ds scheme x on.within.0 (λ r legal.
    fd_weaker_obeyed x (union x (only a)) x scheme r (λ (k : ℕ) m. m) all
    (fd_union_obeyed x x (only a) r (reflexivity_obeyed x x r (λ (k : ℕ) m. m)) (fd_on-to n ds scheme x (only a) on r legal)))

pub fourth_bcnf : (n : ℕ) (ds : List Dependency) (scheme : Attributes) → IsSubset scheme (below n) → IsFourth n ds scheme → IsBcnf n ds scheme
fourth_bcnf n ds scheme low fourth x a on out =
    ⊎_elim
    (λ more. fourth x (only a) (replicated_on n ds scheme x (only a) on)
    (λ inside. true≢false (sym (inside a (grind (arith, nat_tests))) ∙ out))
    (λ same. true≢false (sym (same_at same more.0 ∙ more.2) ∙ more.3)))
    (λ all. whole_by_one n ds scheme x a on all)
    (tell_subset n scheme (union x (only a)) low)

pub bcnf_third : (n : ℕ) (ds : List Dependency) (scheme : Attributes) → functional_part ds ≡ ds → IsBcnf n ds scheme → IsThird n ds scheme
bcnf_third n ds scheme same bcnf =
    subst (λ (es : List Dependency). IsBcnf n es scheme → IsThird n ds scheme) same (λ own x a on out. inl (own x a on out)) bcnf
