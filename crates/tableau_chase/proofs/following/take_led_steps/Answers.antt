-- What is left to prove of `take_led_steps`: what `take_likely_steps` requires, and that the invariant of its loop
-- stays, by `EquatingLemmas`.
use Rattle.std.proofs.Common.{◌<◌, length, sym, subst, arith}
use Rattle.std.proofs.lemmas.List.{get_or-map, length-map}
use Rattle.dep_model.specs.declared.dep.Dep.{Dep}
use Rattle.dep_model.specs.declared.dep.Dep.TheVariants.{Fd}
use Rattle.dep_model.specs.Dependencies.{Dependency}
use Rattle.dep_model.specs.Deps.{dependency_of, dependencies_of}
use Rattle.tableau_chase.specs.Equating.{FollowsBy}
use Rattle.tableau_chase.proofs.EquatingLemmas.{follows_by}
use Rattle.tableau_chase.proofs.following.take_led_steps.Goals as goal

pub take_likely_steps-requires-clause-over : goal.take_likely_steps-requires-clause-over
take_likely_steps-requires-clause-over c = c.loop-k.invariant.keeps.over c.args.width c.requires.over

pub loop-k-preserved : goal.loop-k-preserved
loop-k-preserved c =
    let k = c.loop-k.k in
    let deps = c.args.deps.now in
    let ds = dependencies_of deps in
    let first : Dep = Fd (record { 0 = 0 }) (record { 0 = 0 }) in
    let deps_low : k < length deps = c.loop-k-test.true in
    let low : k < length ds = omega (arith, deps_low, length-map deps dependency_of) in
    let before = c.loop-k.rows in
    let after = c.take_likely_steps.new.rows in
    follows_by ds k (dependency_of first) c.args.rows.now before after low c.loop-k.invariant
    (subst (λ (d : Dependency). FollowsBy d before after) (sym (get_or-map dependency_of deps k first (dependency_of first) deps_low)) c.in_ok-changed.ensures.follows)
