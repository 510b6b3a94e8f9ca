-- Lists of losses, which grow by a dependency at a time.
use Rattle.std.proofs.Common.{inl, inr, ◌≡◌, ℕ, ◌+◌, ◌<◌, ◌≤◌, true, List, [], ◌∷◌, ◌++◌, length, take}
use Rattle.std.proofs.Common.{get_or, arith, subst, sym, refl, ap, ◌∙◌}
use Rattle.std.proofs.lemmas.Bool.{false≢true}
use Rattle.std.proofs.lemmas.List.Elements.{All-nil, All-cons, All-head, All-tail, All-map, All-filter}
use Rattle.std.proofs.lemmas.List.Elements.{filter_passes}
use Rattle.std.specs.Prelude.{All}
use Rattle.std.proofs.lemmas.List.{length-map, length-take-le, take_all}
use Rattle.attr_sets.specs.Sets.{attributes}
use Rattle.attr_sets.specs.Attributes.{Attributes}
use Rattle.dep_model.specs.Tuples.{Relation}
use Rattle.dep_model.specs.Dependencies.{Dependency, fd, mvd, Obeys, ObeysFd, is_fd, functional_part}
use Rattle.dep_model.specs.Deps.{IfFd, dependency_of, dependencies_of}
use Rattle.dep_model.specs.Preservation.{KeepsDependencies}
use Rattle.dep_model.specs.declared.dep.Dep.{Dep}
use Rattle.dep_model.specs.declared.dep.Dep.TheVariants.{Fd, Mvd}
use Rattle.dep_model.proofs.DepLemmas.{functional_all-to, theory_next}
use Rattle.dep_model.specs.TwoTuples.{two_tuples}
use Rattle.preservation.specs.Keeping.{ObeysInside}
use Rattle.preservation.specs.Keeping.{IsPreserved, IsLostOn, LossesFrom}
use Rattle.preservation.specs.declared.losing.Loss.{Loss}

-- ---- lists of losses
pub no_losses : (n : ℕ) (ds : List Dependency) (plan : List Attributes) (k : ℕ) (rest : List Dependency)
    (losses : List Loss) → rest ≡ [] → losses ≡ [] → LossesFrom n ds plan k rest losses
unfolding LossesFrom
no_losses n ds plan k rest losses e h = subst (λ (l : List Dependency). LossesFrom n ds plan k l losses) (sym e) h

-- one dependency more, which is kept
pub kept_more : (n : ℕ) (ds : List Dependency) (plan : List Attributes) (k : ℕ) (rest : List Dependency)
    (losses : List Loss) (d : Dependency)
    → LossesFrom n ds plan k rest losses → IsPreserved n ds plan d → LossesFrom n ds plan k (rest ++ d ∷ []) losses
unfolding LossesFrom
kept_more n ds plan k [] losses d h kept = inl (kept, h)
kept_more n ds plan k (e ∷ rest) losses d (inl h) kept = inl (h.0, kept_more n ds plan (k + 1) rest losses d h.1 kept)
kept_more n ds plan k (e ∷ rest) losses d (inr (loss, more, at, number, is, h)) kept = inr
    (loss, more, at, number, is, kept_more n ds plan (k + 1) rest more d h kept)

-- one dependency more, which is lost
pub lost_more : (n : ℕ) (ds : List Dependency) (plan : List Attributes) (k : ℕ) (rest : List Dependency)
    (losses : List Loss) (d : Dependency) (loss : Loss)
    → LossesFrom n ds plan k rest losses → loss.dep ≡ k + length rest → IsLostOn n ds plan d (attributes loss.agreement)
    → LossesFrom n ds plan k (rest ++ d ∷ []) (losses ++ loss ∷ [])
unfolding LossesFrom
lost_more n ds plan k [] losses d loss h number is = inr
    (loss, [], ap (λ (l : List Loss). l ++ loss ∷ []) h, omega (arith, number), is, refl)
lost_more n ds plan k (e ∷ rest) losses d loss (inl h) number is = inl
    (h.0, lost_more n ds plan (k + 1) rest losses d loss h.1 (omega (arith, number)) is)
lost_more n ds plan k (e ∷ rest) losses d loss (inr (first, more, at, position, lost, h)) number is =
    inr (
      first,
      more ++ loss ∷ [],
      ap (λ (l : List Loss). l ++ loss ∷ []) at,
      position,
      lost,
      lost_more n ds plan
          (k + 1) rest more d loss h (omega (arith, number)) is,
    )

-- where none is lost each is kept, and the other way round
pub none_kept : (n : ℕ) (ds : List Dependency) (plan : List Attributes) (k : ℕ) (rest : List Dependency)
    (losses : List Loss) → LossesFrom n ds plan k rest losses → losses ≡ [] → All (IsPreserved n ds plan) rest
unfolding LossesFrom
none_kept n ds plan k [] losses h e = All-nil (IsPreserved n ds plan)
none_kept n ds plan k (d ∷ rest) losses (inl h) e = All-cons (IsPreserved n ds plan) d rest h.0
    (none_kept n ds plan (k + 1) rest losses h.1 e)
none_kept n ds plan k (d ∷ rest) losses (inr (loss, more, at, number, is, h)) e = absurd
    (cons_not_nil loss more (sym at ∙ e))
  where
    cons_not_nil : (loss : Loss) (more : List Loss) → loss ∷ more ≡ [] → ⊥
    cons_not_nil loss more e = cc

kept_not_lost : (n : ℕ) (ds : List Dependency) (plan : List Attributes) (d : Dependency) (agreement : Attributes)
    → IsPreserved n ds plan d → IsLostOn n ds plan d agreement → ⊥
kept_not_lost n ds plan (fd x y) agreement kept lost = lost.shows.breaks
    (kept (two_tuples n agreement) lost.shows.inside)
kept_not_lost n ds plan (mvd x y) agreement kept lost = lost

pub kept_none : (n : ℕ) (ds : List Dependency) (plan : List Attributes) (k : ℕ) (rest : List Dependency)
    (losses : List Loss) → LossesFrom n ds plan k rest losses → All (IsPreserved n ds plan) rest → losses ≡ []
unfolding LossesFrom
kept_none n ds plan k [] losses h all = h
kept_none n ds plan k (d ∷ rest) losses (inl h) all = kept_none n ds plan (k + 1) rest losses h.1
    (All-tail (IsPreserved n ds plan) d rest all)
kept_none n ds plan k (d ∷ rest) losses (inr (loss, more, at, number, is, h)) all =
    absurd (kept_not_lost n ds plan d (attributes loss.agreement) (All-head (IsPreserved n ds plan) d rest all) is)

-- ---- a plan keeps the dependencies exactly where each given one is kept
kept_obeyed : (n : ℕ) (ds : List Dependency) (plan : List Attributes) (r : Relation) (d : Dependency)
    → ObeysInside n ds plan r → is_fd d ≡ true → IsPreserved n ds plan d → Obeys n d r
kept_obeyed n ds plan r (fd x y) inside is kept = kept r inside
kept_obeyed n ds plan r (mvd x y) inside is kept = absurd (false≢true is)

pub each_kept : (n : ℕ) (ds : List Dependency) (plan : List Attributes) → All (IsPreserved n ds plan) ds
    → KeepsDependencies n ds plan
each_kept n ds plan all r over obeys = record {
  over = over;
  obeys = λ k d l.
      kept_obeyed n ds plan r (get_or (functional_part ds) k d) (record { over = over; obeys = obeys })
      (filter_passes is_fd ds k d l) (All-filter is_fd (IsPreserved n ds plan) ds all k d l);
}

kept_at : (n : ℕ) (ds : List Dependency) (plan : List Attributes) (d : Dep)
    → ((r : Relation) → ObeysInside n ds plan r → IfFd (λ x y. ObeysFd x y r) d)
    → IsPreserved n ds plan (dependency_of d)
kept_at n ds plan (Fd lhs rhs) obeys = obeys
kept_at n ds plan (Mvd lhs rhs) obeys = tt

pub keeps_each : (n : ℕ) (ds : List Dep) (plan : List Attributes) → KeepsDependencies n (dependencies_of ds) plan
    → All (IsPreserved n (dependencies_of ds) plan) (dependencies_of ds)
keeps_each n ds plan keeps =
    All-map (IsPreserved n (dependencies_of ds) plan) dependency_of ds (λ k d l.
    kept_at n (dependencies_of ds) plan (get_or ds k d)
    (λ r inside. functional_all-to (λ (e : Dependency). Obeys n e r) ds
    (keeps r inside.over inside.obeys).obeys k d l))

-- ---- the next dependency of a schema

pub next_kept : (n : ℕ) (deps ds : List Dep) (plan : List Attributes) (k : ℕ) (d : Dep) (losses : List Loss) → ds ≡ deps
    → k < length ds
    → LossesFrom n (dependencies_of deps) plan 0 (take k (dependencies_of deps)) losses
    → IsPreserved n (dependencies_of deps) plan (dependency_of (get_or ds k d))
    → LossesFrom n (dependencies_of deps) plan 0 (take (k + 1) (dependencies_of deps)) losses
next_kept n deps ds plan k d losses e l old kept =
    let low : k < length deps = subst (λ (xs : List Dep). k < length xs) e l in
    let is : IsPreserved n (dependencies_of deps) plan (dependency_of (get_or deps k d)) = subst
    (λ (xs : List Dep). IsPreserved n (dependencies_of deps) plan (dependency_of (get_or xs k d))) e kept in
    subst (λ (l : List Dependency). LossesFrom n (dependencies_of deps) plan 0 l losses)
    (sym (theory_next deps k d low))
    (kept_more n (dependencies_of deps) plan 0 (take k (dependencies_of deps)) losses
    (dependency_of (get_or deps k d)) old is)

pub next_lost : (n : ℕ) (deps ds : List Dep) (plan : List Attributes) (k : ℕ) (d : Dep) (loss : Loss)
    (losses new : List Loss) → ds ≡ deps → k < length ds
    → LossesFrom n (dependencies_of deps) plan 0 (take k (dependencies_of deps)) losses
    → IsLostOn n (dependencies_of deps) plan (dependency_of (get_or ds k d)) (attributes loss.agreement)
    → loss.dep ≡ k → new ≡ losses ++ loss ∷ [] → LossesFrom n (dependencies_of deps) plan 0
    (take (k + 1) (dependencies_of deps)) new
next_lost n deps ds plan k d loss losses new e l old is number pushed =
    let low : k < length deps = subst (λ (xs : List Dep). k < length xs) e l in
    let gone : IsLostOn n (dependencies_of deps) plan (dependency_of (get_or deps k d)) (attributes loss.agreement) =
    subst (λ (xs : List Dep). IsLostOn n (dependencies_of deps) plan (dependency_of (get_or xs k d))
    (attributes loss.agreement)) e is in
    let before : k ≤ length (dependencies_of deps) = omega (arith, low, length-map deps dependency_of) in
    let position : k ≡ 0 + length (take k (dependencies_of deps)) = omega
    (arith, length-take-le k (dependencies_of deps) before) in
    subst (λ (l : List Dependency). LossesFrom n (dependencies_of deps) plan 0 l new) (sym (theory_next deps k d low))
    (subst (λ (l : List Loss). LossesFrom n (dependencies_of deps) plan 0
    (take k (dependencies_of deps) ++ dependency_of (get_or deps k d) ∷ []) l) (sym pushed)
    (lost_more n (dependencies_of deps) plan 0 (take k (dependencies_of deps)) losses
    (dependency_of (get_or deps k d)) loss old (number ∙ position) gone))

pub all_looked_at : (n : ℕ) (deps ds : List Dep) (plan : List Attributes) (k : ℕ) (losses : List Loss) → ds ≡ deps
    → length ds ≤ k
    → LossesFrom n (dependencies_of deps) plan 0 (take k (dependencies_of deps)) losses
    → LossesFrom n (dependencies_of deps) plan 0 (dependencies_of deps) losses
all_looked_at n deps ds plan k losses e l h =
    let long : length (dependencies_of deps) ≤ k = omega (arith, l, ap length e, length-map deps dependency_of) in
    subst (λ (rest : List Dependency). LossesFrom n (dependencies_of deps) plan 0 rest losses)
    (take_all k (dependencies_of deps) long) h
