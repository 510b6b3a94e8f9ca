-- What is left to prove of `losses`: its clause `keeps`, what `loss_of` requires, and that the
-- invariant of its loop holds at first and stays, by `KnownLemmas` and `LossLemmas`.
use Rattle.std.proofs.Common.{◌≡◌, ◌<◌, List, length, subst, sym, refl, ap, ◌∙◌}
use Rattle.std.specs.Prelude.{All}
use Rattle.dep_model.specs.declared.dep.Dep.{Dep}
use Rattle.dep_model.specs.declared.dep.Dep.TheVariants.{Fd}
use Rattle.dep_model.specs.Deps.{IsDepWithin}
use Rattle.dep_model.specs.Plans.{schemes_of}
use Rattle.dep_model.specs.Theories.{deps_of, theory_of, width_of, universe_of}
use Rattle.preservation.specs.declared.scheme_closure.SchemeClosure.{SchemeClosure}
use Rattle.preservation.specs.SchemeClosures.{IsSchemeClosure, schemes_of_closures}
use Rattle.preservation.specs.Keeping.{LossesOf}
use Rattle.preservation.proofs.KnownLemmas.{take-known}
use Rattle.preservation.proofs.LossLemmas.{no_losses, next_kept, next_lost, all_looked_at}
use Rattle.preservation.proofs.LossLemmas.{none_kept, kept_none, each_kept, keeps_each}
use Rattle.preservation.proofs.losing.losses.Goals as goal
use Rattle.preservation.proofs.losing.losses.Goals.{in-Some+in_ok-push-in-Some, in-None}

abbrev nothing : Dep
nothing = Fd (record { 0 = 0 }) (record { 0 = 0 })

pub loop-k-init : goal.loop-k-init
loop-k-init c = record {
  losses = no_losses _ _ _ _ _ _ refl c.new-losses.ensures.items;
  known = c.in_ok-closures.ensures.known;
  schemes = c.in_ok-closures.ensures.schemes;
  fits = c.scheme_closures.ensures.fits;
  last = tt;
}

pub loss_of-loss-requires-clause-dep : goal.loss_of-loss-requires-clause-dep
loss_of-loss-requires-clause-dep c =
    let s = c.args.theory.now in
    let ds : List Dep = c.deps-in-loop-k.result.now in
    let same : ds ≡ deps_of s = c.deps-in-loop-k.ensures.deps in
    let low : c.loop-k.k < length ds =
    subst (λ (ds : List Dep). c.loop-k.k < length ds) (c.deps-k-end.ensures.deps ∙ sym same) c.loop-k-test.true in
    let all : All (IsDepWithin (universe_of s)) ds =
    subst (λ (ds : List Dep). All (IsDepWithin (universe_of s)) ds) (sym same) s.valid.deps_within in
    all c.loop-k.k nothing low

pub loss_of-loss-requires-clause-known : goal.loss_of-loss-requires-clause-known
loss_of-loss-requires-clause-known c =
    subst (λ (l : List SchemeClosure). All (IsSchemeClosure (width_of c.args.theory.now) (theory_of c.args.theory.now)) l)
    (sym c.deref_mut.ensures.value) c.loop-k.invariant.known

pub loop-k-preserved : goal.loop-k-preserved
loop-k-preserved c =
    let s = c.args.theory.now in
    let n = width_of s in
    let plan = schemes_of c.args.schemes.now in
    let ds : List Dep = c.deps-in-loop-k.result.now in
    let same : ds ≡ deps_of s = c.deps-in-loop-k.ensures.deps in
    let low : c.loop-k.k < length ds =
    subst (λ (ds : List Dep). c.loop-k.k < length ds) (c.deps-k-end.ensures.deps ∙ sym same) c.loop-k-test.true in
    let before = c.loop-k.invariant in
    let old = c.loop-k.closures.items in
    let call = c.loss_of-loss in
    let given : c.deref_mut.result.now ≡ old = c.deref_mut.ensures.value in
    let count : c.loop-k.closures.len ≡ length old =
    sym c.deref_mut.ensures.len ∙ ap (λ (l : List SchemeClosure). length l) given in
    let back = sym (take-known old call.new.closures c.loop-k.closures.len count
    (call.ensures.schemes ∙ ap schemes_of_closures given)) in
    let known = subst (λ (l : List SchemeClosure). All (IsSchemeClosure n (theory_of s)) l) back call.ensures.known in
    let schemes = subst (λ (l : List SchemeClosure). schemes_of_closures l ≡ c.args.schemes.now) back
    (call.ensures.schemes ∙ ap schemes_of_closures given ∙ before.schemes) in
    let plan_of = ap schemes_of_closures given ∙ before.schemes in
    elim c.match-loss.branch [
      | in-Some+in_ok-push-in-Some w ↦ record {
        losses = rw w.losses-is
            (next_lost n (deps_of s) ds plan c.loop-k.k nothing _ c.loop-k.losses.items _ same low before.losses
            (rw plan_of at (rw w.in-Some.is at call.ensures.lost)) refl w.in_ok-push-in-Some.ensures.items);
        known = known;
        schemes = schemes;
        fits = call.ensures.fits;
        last = rw w.last-is (rw plan_of at (rw w.in-Some.is at call.ensures.all));
      }
      | in-None w ↦ record {
        losses = rw w.losses-is
            (next_kept n (deps_of s) ds plan c.loop-k.k nothing c.loop-k.losses.items same low before.losses
            (rw plan_of at (rw w.in-None.is at call.ensures.kept)));
        known = known;
        schemes = schemes;
        fits = call.ensures.fits;
        last = rw w.last-is before.last;
      }
    ]

pub returns-clause-keeps : goal.returns-clause-keeps
returns-clause-keeps c =
    let s = c.args.theory.now in
    let n = width_of s in
    let plan = schemes_of c.args.schemes.now in
    let found = c.loop-k.losses.items in
    let all : LossesOf n (theory_of s) plan found =
    all_looked_at n (deps_of s) c.deps-k-end.result.now plan c.loop-k.k found c.deps-k-end.ensures.deps
    c.loop-k-test.false c.loop-k.invariant.losses in (
      (λ none. each_kept n (theory_of s) plan (none_kept n (theory_of s) plan 0 (theory_of s) found all none)),
      (λ keeps. kept_none n (theory_of s) plan 0 (theory_of s) found all (keeps_each n (deps_of s) plan keeps)),
    )
