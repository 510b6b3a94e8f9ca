-- The two tuples that show the first loss are a counterexample to the dependency that is lost.
use Rattle.std.proofs.Common.{inl, inr, ◌≡◌, ◌+◌, ℕ, suc, List, [], ◌∷◌, refl, sym, subst, arith}
use Rattle.std.specs.Prelude.{Some, slice_get}
use Rattle.attr_sets.specs.Attributes.{Attributes}
use Rattle.attr_sets.specs.Sets.{attributes}
use Rattle.dep_model.specs.Dependencies.{Dependency, fd, mvd}
use Rattle.dep_model.specs.Deps.{dependency_of, dependencies_of}
use Rattle.dep_model.specs.declared.dep.Dep.{Dep}
use Rattle.schema_model.specs.Schemas.{Schema, deps_of, theory_of, width_of}
use Rattle.preservation.specs.Keeping.{LossesFrom, LossesOf, IsLostOn, ObeysInside}
use Rattle.preservation.specs.declared.losing.Loss.{Loss}
use Rattle.typed_rows.specs.Shown.{shown_tuples}
use Rattle.counterexample_laws.specs.Counterexamples.{IsCounterexample}
use Rattle.counterexample_laws.proofs.ShownTuples.{counterexample, shown_obeys, shown_over}
use Rattle.desk_designs.specs.Keeping.{IsShownLost}

-- the first of the losses among dependencies that are numbered from k is of one of these
first_lost : (n : ℕ) (ds : List Dependency) (plan : List Attributes) (k : ℕ) (rest : List Dep) (loss : Loss) (more : List Loss)
    → LossesFrom n ds plan k (dependencies_of rest) (loss ∷ more)
    → (d : Dep) × (i : ℕ) × (loss.dep ≡ k + i) × (slice_get rest i ≡ Some d)
    × IsLostOn n ds plan (dependency_of d) (attributes loss.agreement)
unfolding LossesFrom
first_lost n ds plan k [] loss more none = absurd (cc)
first_lost n ds plan k (e ∷ rest) loss more (inl (kept, later)) =
    let (d, i, number, at, lost) = first_lost n ds plan (k + 1) rest loss more later in
    (d, suc i, omega (arith, number), at, lost)
first_lost n ds plan k (e ∷ rest) loss more (inr (first, others, list, number, lost, later)) =
    let same : first ≡ loss = cc in (
      e,
      0,
      subst (λ (l : Loss). l.dep ≡ k + 0) same (omega (arith, number)),
      refl,
      subst (λ (l : Loss). IsLostOn n ds plan (dependency_of e) (attributes l.agreement)) same lost,
    )

lost_shown : (s : Schema) (plan : List Attributes) (d : Dependency) (x : Attributes) → IsLostOn (width_of s) (theory_of s) plan d x
    → IsCounterexample s (ObeysInside (width_of s) (theory_of s) plan) d (shown_tuples s x)
lost_shown s plan (fd y z) x lost =
    counterexample s x (ObeysInside (width_of s) (theory_of s) plan) (fd y z) (record {
      over = shown_over s x;
      obeys = λ v w inside implied. shown_obeys s x (fd v w) (lost.shows.inside.obeys v w inside implied);
    }) lost.shows.breaks
lost_shown s plan (mvd y z) x lost = absurd lost

pub shown_first : (s : Schema) (plan : List Attributes) (loss : Loss) (more : List Loss)
    → LossesOf (width_of s) (theory_of s) plan (loss ∷ more) → IsShownLost s plan loss
shown_first s plan loss more losses =
    let (d, i, number, at, lost) = first_lost (width_of s) (theory_of s) plan 0 (deps_of s) loss more losses in
    let same : i ≡ loss.dep = omega (arith, number) in
    record {
      lost = d;
      given = subst (λ (k : ℕ). slice_get (deps_of s) k ≡ Some d) same at;
      shown = lost_shown s plan (dependency_of d) (attributes loss.agreement) lost;
    }
