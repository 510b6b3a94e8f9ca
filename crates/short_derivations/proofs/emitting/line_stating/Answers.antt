-- What is left to prove of `line_stating`: which line states the dependency, and that none does.
use Rattle.std.proofs.Common.{◌≡◌, ◌∙◌, sym, ap, subst, take_all, take, List}
use Rattle.std.specs.Prelude.{Some, All}
use Rattle.std.proofs.lemmas.Bool.{false≢true}
use Rattle.std.proofs.lemmas.List.Elements.{All-push}
use Rattle.dep_model.specs.Deps.{dependency_of}
use Rattle.short_derivations.specs.declared.inference.Inference.{Inference}
use Rattle.short_derivations.specs.Inferences.{Line}
use Rattle.short_derivations.specs.Views.{lines_of}
use Rattle.short_derivations.proofs.PushedLines.{stated_there, lines_next}
use Rattle.short_derivations.proofs.emitting.line_stating.Goals as goal

pub returns-then-same_dep-clause-states : goal.returns-then-same_dep-clause-states
returns-then-same_dep-clause-states c =
    stated_there c.args.lines.now c.loop-k.k _ c.loop-k-test.true ∙ ap Some (c.same_dep.ensures.same.0 c.if-same_dep.true)

pub loop-k-preserved : goal.loop-k-preserved
loop-k-preserved c =
    let P : Line → Type 0 = λ m. m.stated ≡ dependency_of c.args.dep → ⊥ in
    subst (All P) (sym (lines_next c.args.lines.now c.loop-k.k _ c.loop-k-test.true))
    (All-push P (lines_of (take c.loop-k.k c.args.lines.now)) _ c.loop-k.invariant
    (λ same. false≢true (sym c.if-same_dep.false ∙ c.same_dep.ensures.same.1 same)))

pub returns-clause-none : goal.returns-clause-none
returns-clause-none c none =
    let P : Line → Type 0 = λ m. m.stated ≡ dependency_of c.args.dep → ⊥ in
    subst (λ (items : List Inference). All P (lines_of items)) (take_all c.loop-k.k c.args.lines.now c.loop-k-test.false) c.loop-k.invariant
