-- What is left to prove of `states`: that no line states the dependency.
use Rattle.std.proofs.Common.{◌≡◌, ◌∙◌, sym, subst, take_all, take, List}
use Rattle.std.specs.Prelude.{All}
use Rattle.std.proofs.lemmas.Bool.{false≢true}
use Rattle.std.proofs.lemmas.List.Elements.{All-push}
use Rattle.dep_model.specs.Deps.{dependency_of}
use Rattle.short_derivations.specs.declared.inference.Inference.{Inference}
use Rattle.short_derivations.specs.Inferences.{Line}
use Rattle.short_derivations.specs.Views.{lines_of}
use Rattle.short_derivations.proofs.PushedLines.{lines_next}
use Rattle.short_derivations.proofs.checking.states.Goals as goal

pub loop-line-preserved : goal.loop-line-preserved
loop-line-preserved c =
    let P : Line → Type 0 = λ m. m.stated ≡ dependency_of c.args.dep → ⊥ in
    subst (All P) (sym (lines_next c.args.lines.now c.loop-line.line-index _ c.loop-line-test.true))
    (All-push P (lines_of (take c.loop-line.line-index c.args.lines.now)) _ c.loop-line.invariant
    (λ same. false≢true (sym c.if-same_dep.false ∙ c.same_dep.ensures.same.1 same)))

pub returns : goal.returns
returns c = record {
  new = λ none.
      let P : Line → Type 0 = λ m. m.stated ≡ dependency_of c.args.dep → ⊥ in
      subst (λ (items : List Inference). All P (lines_of items)) (take_all c.loop-line.line-index c.args.lines.now c.loop-line-test.false) c.loop-line.invariant;
}
