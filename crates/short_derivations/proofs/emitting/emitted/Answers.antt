-- What is left to prove of `emitted`: that the lines of the whole are a derivation.
use Rattle.std.proofs.Common.{◌≡◌, List, [], ap, subst}
use Rattle.dep_model.specs.Deps.{dependency_of}
use Rattle.derivation.specs.Derivs.{tree_of}
use Rattle.short_derivations.specs.Emitted.{AreEmitted}
use Rattle.short_derivations.specs.Inferences.{Line}
use Rattle.short_derivations.specs.Views.{lines_of}
use Rattle.short_derivations.proofs.EmittedLemmas.{emitted_all}
use Rattle.short_derivations.proofs.emitting.emitted.Goals as goal

pub returns : goal.returns
returns c =
    let s = c.args.theory.now in
    let t = tree_of c.args.deriv.now in
    let at = c.in_ok-emit.field-0 in
    let lines = lines_of c.emit.new.lines.items in
    let none : lines_of c.new-lines.result.items ≡ [] = ap lines_of c.new-lines.ensures.items in
    record {
      emission = emitted_all s t at lines (dependency_of c.args.goal)
          (subst (λ (old : List Line). AreEmitted s t old at lines) none c.in_ok-emit.ensures.emitted) c.requires.proof;
    }
