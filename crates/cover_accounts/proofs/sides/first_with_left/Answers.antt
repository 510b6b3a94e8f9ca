-- What is left to prove of `first_with_left`: that the invariant of its loop stays, and what it gives.
use Rattle.std.proofs.Common.{◌≡◌, ◌<◌, ℕ, true, Bool, sym, ap, subst, ◌∙◌, inl, inr, arith, refl}
use Rattle.std.proofs.lemmas.Bool.{cases_eq, true≢false}
use Rattle.std.specs.Prelude.{slice_get, slice_index_or, Some}
use Rattle.canonical_cover.specs.Merging.{have_same_left}
use Rattle.dep_model.specs.declared.dep.Dep.{Dep}
use Rattle.dep_model.specs.declared.dep.Dep.TheVariants.{Fd}
use Rattle.dep_model.specs.Deps.{dependency_of}
use Rattle.dep_model.specs.Dependencies.{Dependency}
use Rattle.dep_model.specs.Theories.{theory_of}
use Rattle.cover_accounts.proofs.GatheringLemmas.{read_at, there_is}
use Rattle.cover_accounts.proofs.sides.first_with_left.Goals as goal

abbrev first : Dep
first = Fd (record { 0 = 0 }) (record { 0 = 0 })

pub loop-j-preserved : goal.loop-j-preserved
loop-j-preserved c = λ i d e less read there same.
    let s = c.args.theory.now in
    let deps = c.deps-deps.result.now in
    let j = c.loop-j.j in
    let one = dependency_of (slice_index_or deps j first) in
    let two = dependency_of (slice_index_or deps c.args.k first) in
    elim (cases_eq i j) [
      | inl at ↦
          let own = read_at s deps j first c.deps-deps.ensures.deps (omega (arith, c.loop-j-test.true, c.requires.position)) in
          let given = read_at s deps c.args.k first c.deps-deps.ensures.deps c.requires.position in
          let d_is : d ≡ one = there_is (theory_of s) i j d one read at own in
          let e_is : e ≡ two = there_is (theory_of s) c.args.k c.args.k e two there refl given in
          true≢false (sym same ∙ ap (λ (x : Dependency). have_same_left x e) d_is ∙ ap (λ (x : Dependency). have_same_left one x) e_is
          ∙ sym c.have_same_left.ensures.same ∙ c.if-have_same_left.false)
      | inr other ↦ c.loop-j.invariant i d e (omega (arith, less, other)) read there same
    ]

pub returns-then-have_same_left-clause-first : goal.returns-then-have_same_left-clause-first
returns-then-have_same_left-clause-first c =
    let s = c.args.theory.now in
    let deps = c.deps-deps.result.now in
    let j = c.loop-j.j in
    let own = read_at s deps j first c.deps-deps.ensures.deps (omega (arith, c.loop-j-test.true, c.requires.position)) in
    let given = read_at s deps c.args.k first c.deps-deps.ensures.deps c.requires.position in
    record {
      dependency = _;
      here = given;
      other = _;
      there = own;
      before = c.loop-j-test.true;
      same = sym c.have_same_left.ensures.same ∙ c.if-have_same_left.true;
      first = λ i d less read same. c.loop-j.invariant i d _ less read given same;
    }

pub returns-clause-none : goal.returns-clause-none
returns-clause-none c = λ none j left.
    c.loop-j.invariant j left.other left.dependency (omega (arith, left.before, c.loop-j-test.false)) left.there left.here left.same
