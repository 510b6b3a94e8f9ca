-- What is left to prove of `try_line`: that the lines with one more are written.
use Rattle.std.proofs.Common.{sym, subst}
use Rattle.std.proofs.lemmas.Result.{on_ok_weaker}
use Rattle.dep_model.specs.Deps.{dependency_of}
use Rattle.short_derivations.specs.Emitted.{AreWritten}
use Rattle.short_derivations.specs.Views.{why_of, lines_of}
use Rattle.short_derivations.proofs.PushedLines.{written_push}
use Rattle.short_derivations.proofs.checking.try_line.Goals as goal

pub returns : goal.returns
returns c =
    let s = c.args.theory.now in
    let gives = rw c.deref-else-states.ensures.value at (c.gives.ensures.gives c.if-not-gives.false) in
    let new = rw c.deref.ensures.value at (c.states.ensures.new c.if-states.false) in
    record {
      written = on_ok_weaker c.add_line.result
          (λ added. subst (AreWritten s) (sym added) (written_push s (lines_of c.args.lines.now.items)
          (record { stated = dependency_of c.args.stated; why = why_of c.args.reason }) c.requires.written gives new))
          c.add_line.ensures.added;
    }
