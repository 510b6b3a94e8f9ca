-- What is left to prove of `offences_by_codes`: its clause `offences`, what `least_pair` and `offence_of` require, and
-- that the invariant of its loop holds at first and stays, by `OffenceLemmas` and `CodeLemmas`.
use Rattle.std.proofs.Common.{◌<◌, List, length, subst, sym, refl, ◌∙◌}
use Rattle.dep_model.specs.declared.dep.Dep.{Dep}
use Rattle.dep_model.specs.declared.dep.Dep.TheVariants.{Fd}
use Rattle.dep_model.specs.Theories.{deps_of, width_of}
use Rattle.legality.proofs.CodeLemmas.{interned_as, pair_in}
use Rattle.legality.proofs.OffenceLemmas.{no_offences, next_obeyed, next_broken, dep_within, all_looked_at}
use Rattle.legality.proofs.finding.offences_by_codes.Goals as goal
use Rattle.legality.proofs.finding.offences_by_codes.Goals.{in-Some+in_ok-push-in-Some, in-None}

abbrev nothing : Dep
nothing = Fd (record { 0 = 0 }) (record { 0 = 0 })

pub loop-k-init : goal.loop-k-init
loop-k-init c = record { offences = λ rows is. no_offences _ _ _ _ _ refl c.new-offences.ensures.items }

pub least_pair-requires-clause-dep : goal.least_pair-requires-clause-dep
least_pair-requires-clause-dep c =
    let low : c.loop-k.k < length c.deps.result.now = subst (λ (ds : List Dep). c.loop-k.k < length ds) (c.deps-k-end.ensures.deps ∙ sym c.deps.ensures.deps) c.loop-k-test.true in
    dep_within (width_of c.args.theory.now) c.width.result (deps_of c.args.theory.now) c.deps.result.now c.loop-k.k nothing
    c.deps.ensures.deps c.width.ensures.count c.args.theory.now.valid.deps_within low

pub least_pair-requires-clause-codes : goal.least_pair-requires-clause-codes
least_pair-requires-clause-codes c =
    (c.requires.codes.0, interned_as c.requires.codes.0 c.args.codes.now _ _ c.width.ensures.count c.requires.codes.1)

pub offence_of-requires-clause-first : goal.offence_of-requires-clause-first
offence_of-requires-clause-first c =
    let is = interned_as c.requires.codes.0 c.args.codes.now _ _ c.width.ensures.count c.requires.codes.1 in
    (pair_in _ _ c.args.codes.now _ c.in_ok-least.least c.in-Some.pair is c.args.codes.now.fits_u32 (c.in_ok-least.ensures.pair c.requires.codes.0 is) c.in-Some.is).0

pub offence_of-requires-clause-second : goal.offence_of-requires-clause-second
offence_of-requires-clause-second c =
    let is = interned_as c.requires.codes.0 c.args.codes.now _ _ c.width.ensures.count c.requires.codes.1 in
    (pair_in _ _ c.args.codes.now _ c.in_ok-least.least c.in-Some.pair is c.args.codes.now.fits_u32 (c.in_ok-least.ensures.pair c.requires.codes.0 is) c.in-Some.is).1

pub loop-k-preserved : goal.loop-k-preserved
loop-k-preserved c =
    let low : c.loop-k.k < length c.deps.result.now = subst (λ (ds : List Dep). c.loop-k.k < length ds) (c.deps-k-end.ensures.deps ∙ sym c.deps.ensures.deps) c.loop-k-test.true in
    elim c.match-least.branch [
      | in-Some+in_ok-push-in-Some w ↦ record {
        offences = rw w.offences-is
            (λ rows is. next_broken (width_of c.args.theory.now) c.width.result rows (deps_of c.args.theory.now) c.deps.result.now c.loop-k.k nothing
            c.in_ok-least.least w.in-Some.pair w.offence_of.result c.loop-k.offences.items _ c.deps.ensures.deps c.width.ensures.count low (c.loop-k.invariant.offences rows is)
            (c.in_ok-least.ensures.pair rows (interned_as rows c.args.codes.now _ _ c.width.ensures.count is)) w.in-Some.is w.offence_of.ensures.dep w.offence_of.ensures.first w.offence_of.ensures.second w.in_ok-push-in-Some.ensures.items);
      }
      | in-None w ↦ record {
        offences = rw w.offences-is
            (λ rows is. next_obeyed (width_of c.args.theory.now) c.width.result rows (deps_of c.args.theory.now) c.deps.result.now c.loop-k.k nothing
            c.in_ok-least.least c.loop-k.offences.items c.deps.ensures.deps c.width.ensures.count low (c.loop-k.invariant.offences rows is) (c.in_ok-least.ensures.pair rows (interned_as rows c.args.codes.now _ _ c.width.ensures.count is)) w.in-None.is);
      }
    ]

pub returns : goal.returns
returns c = record {
  offences = λ rows is. all_looked_at (width_of c.args.theory.now) rows (deps_of c.args.theory.now) c.deps-k-end.result.now c.loop-k.k c.loop-k.offences.items
      c.deps-k-end.ensures.deps c.loop-k-test.false (c.loop-k.invariant.offences rows is);
}
