-- The best cut among more and more dependencies.
use Rattle.std.proofs.Common.{◌≡◌, ◌⊎◌, ℕ, ◌+◌, ◌<◌, ◌≤◌, inl, inr, true, false, List, length, get_or, Option, None, Some, refl, sym, ap, subst, ◌∙◌, arith}
use Rattle.std.specs.Prelude.{IsSome, IfSome, slice_index_or}
use Rattle.std.proofs.lemmas.Bool.{true≢false, cases_lt}
use Rattle.attr_sets.specs.Attributes.{Attributes}
use Rattle.dep_model.specs.declared.dep.Dep.{Dep}
use Rattle.dep_model.specs.Dependencies.{Dependency, fd, mvd}
use Rattle.dep_model.specs.Deps.{dependency_of}
use Rattle.dep_basis.specs.Refining.{LeavesWhole}
use Rattle.dep_basis.specs.Cuts.{IsCutting, IsBestCut, IsBetterCut, count_left}
use Rattle.dep_basis.specs.declared.cutting.Cut.{Cut}

-- a dependency that cuts a part does not leave it whole
pub cut_not_whole : (p : Attributes) (d : Dependency) → IsCutting p d → LeavesWhole p p d → ⊥
cut_not_whole p (fd v t) cut whole =
    true≢false (sym cut.shares.2 ∙ whole cut.apart cut.shares.0 cut.shares.1)
cut_not_whole p (mvd v t) cut whole = by_cases (whole cut.apart) cut.leaves
  where
    by_cases : ((k : ℕ) → p k ≡ true → t k ≡ false) ⊎ ((k : ℕ) → p k ≡ true → t k ≡ true)
        → (false ≡ true) ⊎ ((k : ℕ) × (p k ≡ true) × (t k ≡ false)) → ⊥
    by_cases (inl apart) leaves = true≢false (sym cut.shares.2 ∙ apart cut.shares.0 cut.shares.1)
    by_cases (inr within) (inl is) = true≢false (sym is)
    by_cases (inr within) (inr (k, has, lacks)) = true≢false (sym (within k has) ∙ lacks)

-- the best of the cuts by the first dependencies
pub record IsBestOf (deps : List Dep) (p : Attributes) (a upto : ℕ) (cut : Cut) : Type 0 where
  pub early : cut.number < upto
  pub cutting : (d : Dep) → IsCutting p (dependency_of (slice_index_or deps cut.number d))
  pub left_is : (d : Dep) → cut.left ≡ count_left a p (dependency_of (slice_index_or deps cut.number d))
  pub least : (i : ℕ) (d : Dep) → i < upto → IsCutting p (dependency_of (slice_index_or deps i d))
      → cut.left ≤ count_left a p (dependency_of (slice_index_or deps i d))
  pub first : (i : ℕ) (d : Dep) → i < cut.number → IsCutting p (dependency_of (slice_index_or deps i d))
      → cut.left < count_left a p (dependency_of (slice_index_or deps i d))

abbrev pub IsBestSoFar : List Dep → Attributes → ℕ → ℕ → Option Cut → Type 0
IsBestSoFar deps p a upto None = (i : ℕ) (d : Dep) → i < upto → IsCutting p (dependency_of (slice_index_or deps i d)) → ⊥
IsBestSoFar deps p a upto (Some cut) = IsBestOf deps p a upto cut

-- with one dependency more
pub IsBestSoFar-next : (deps : List Dep) (p : Attributes) (a k : ℕ) (dep : Dep) (best result : Option Cut)
    → ((d : Dep) → slice_index_or deps k d ≡ dep) → IsBestSoFar deps p a k best
    → IsBetterCut a p (dependency_of dep) k best result → IsBestSoFar deps p a (k + 1) result
IsBestSoFar-next deps p a k dep best result at before (inl (same, beaten)) = subst (IsBestSoFar deps p a (k + 1)) (sym same) (stays best before beaten)
  where
    here : (i : ℕ) (d : Dep) → i < k + 1 → k ≤ i → IsCutting p (dependency_of (slice_index_or deps i d)) → IsCutting p (dependency_of dep)
    here i d low on cuts = let is : i ≡ k = omega (arith, low, on) in
        subst (λ (e : Dep). IsCutting p (dependency_of e)) (ap (λ (j : ℕ). slice_index_or deps j d) is ∙ at d) cuts

    stays : (o : Option Cut) → IsBestSoFar deps p a k o
        → (IsCutting p (dependency_of dep) → IsSome o × IfSome o (λ cut. cut.left ≤ count_left a p (dependency_of dep)))
        → IsBestSoFar deps p a (k + 1) o
    stays None none beaten = λ i d low cuts. elim (cases_lt i k) [
      | inl less ↦ none i d less cuts
      | inr on ↦ true≢false (sym (beaten (here i d low on cuts)).0)
    ]
    stays (Some cut) so_far beaten = record {
      early = omega (arith, so_far.early);
      cutting = so_far.cutting;
      left_is = so_far.left_is;
      least = λ i d low cuts. elim (cases_lt i k) [
        | inl less ↦ so_far.least i d less cuts
        | inr on ↦ subst (λ (e : Dep). cut.left ≤ count_left a p (dependency_of e))
            (sym (ap (λ (j : ℕ). slice_index_or deps j d) (omega (arith, low, on)) ∙ at d)) (beaten (here i d low on cuts)).1
      ];
      first = so_far.first;
    }
IsBestSoFar-next deps p a k dep best result at before (inr (cuts, is, beats)) = subst (IsBestSoFar deps p a (k + 1)) (sym is) (new best before beats)
  where
    new : (o : Option Cut) → IsBestSoFar deps p a k o → IfSome o (λ cut. count_left a p (dependency_of dep) < cut.left)
        → IsBestOf deps p a (k + 1) (record { number = k; left = count_left a p (dependency_of dep) })
    new o so_far beats = record {
      early = omega arith;
      cutting = λ d. subst (λ (e : Dep). IsCutting p (dependency_of e)) (sym (at d)) cuts;
      left_is = λ d. ap (λ (e : Dep). count_left a p (dependency_of e)) (sym (at d));
      least = λ i d low also. elim (cases_lt i k) [
        | inl less ↦ omega (arith, fewer o so_far beats i d less also)
        | inr on ↦ subst (λ (e : Dep). count_left a p (dependency_of dep) ≤ count_left a p (dependency_of e))
            (sym (ap (λ (j : ℕ). slice_index_or deps j d) (omega (arith, low, on)) ∙ at d)) (omega arith)
      ];
      first = fewer o so_far beats;
    }
      where
        fewer : (o : Option Cut) → IsBestSoFar deps p a k o → IfSome o (λ cut. count_left a p (dependency_of dep) < cut.left)
            → (i : ℕ) (d : Dep) → i < k → IsCutting p (dependency_of (slice_index_or deps i d))
            → count_left a p (dependency_of dep) < count_left a p (dependency_of (slice_index_or deps i d))
        fewer None none beats i d less also = absurd (none i d less also)
        fewer (Some cut) best beats i d less also = omega (arith, beats, best.least i d less also)

-- the best of all
pub best_of_all : (deps : List Dep) (p : Attributes) (a k : ℕ) (cut : Cut) → k ≤ length deps → length deps ≤ k → IsBestOf deps p a k cut
    → IsBestCut deps p a cut.number
best_of_all deps p a k cut end all best = record {
  within = omega (arith, end, best.early);
  cutting = best.cutting;
  least = λ i d low cuts. subst (λ (n : ℕ). n ≤ count_left a p (dependency_of (slice_index_or deps i d))) (best.left_is d) (best.least i d (omega (arith, low, all)) cuts);
  first = λ i d low cuts. subst (λ (n : ℕ). n < count_left a p (dependency_of (slice_index_or deps i d))) (best.left_is d) (best.first i d low cuts);
}
