-- What is left to prove of `mistaken_lines`: what `judge` requires, and that the invariant of its loop stays.
use Rattle.std.proofs.Common.{List, ap, sym, subst, take, ◌∙◌}
use Rattle.std.specs.Prelude.{All}
use Rattle.schema_model.specs.Schemas.{universe_of}
use Rattle.dep_model.specs.declared.dep.Dep.{Dep}
use Rattle.dep_model.specs.Dependencies.{IsWithin}
use Rattle.dep_model.specs.Deps.{dependencies_of}
use Rattle.derivation_text.specs.Views.{derivation_lines_of}
use Rattle.derivation_mistakes.proofs.JudgingLemmas.{before_within, next_within, next_earlier, one_judged}
use Rattle.derivation_mistakes.proofs.judging.mistaken_lines.Goals as goal

pub judge-requires-clause-before : goal.judge-requires-clause-before
judge-requires-clause-before c =
    let s = c.args.schema.now in
    subst (λ (items : List Dep). All (IsWithin (universe_of s)) (dependencies_of items)) (sym c.deref.ensures.value)
    (before_within s c.args.lines.now c.loop-line.line-index _ _ c.requires.derivation c.loop-line.invariant)

pub judge-requires-clause-stated : goal.judge-requires-clause-stated
judge-requires-clause-stated c =
    (next_within c.args.schema.now c.args.lines.now c.loop-line.line-index _ c.requires.derivation
    c.loop-line-test.true).stated

pub judge-requires-clause-earlier : goal.judge-requires-clause-earlier
judge-requires-clause-earlier c =
    next_earlier c.args.schema.now c.args.lines.now c.loop-line.line-index _ c.deref.result.now _ _ c.deref.ensures.value
    c.requires.derivation c.loop-line-test.true c.loop-line.invariant

pub judge-requires-clause-found : goal.judge-requires-clause-found
judge-requires-clause-found c = c.loop-line.invariant.of_schema

pub loop-line-preserved : goal.loop-line-preserved
loop-line-preserved c =
    let so_far = c.loop-line.invariant in
    let lines = derivation_lines_of (take c.loop-line.line-index c.args.lines.now) in
    let same = ap dependencies_of c.deref.ensures.value ∙ so_far.stated in
    one_judged c.args.schema.now c.args.lines.now c.loop-line.line-index _ c.loop-line.before.items c.push.new.self.items
    c.loop-line.found.items c.judge.new.found.items c.loop-line-test.true so_far
    (c.in_ok-judge.ensures.judged lines same so_far.judged) c.in_ok-judge.ensures.found c.in_ok-push.ensures.items
