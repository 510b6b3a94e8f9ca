-- What is left to prove of `closure_lines`: its clause `text`.
use Rattle.std.proofs.Common.{◌≡◌, ℕ, List, ap, subst, ◌∙◌}
use Rattle.attr_sets.specs.Attributes.{Attributes, difference}
use Rattle.attr_sets.specs.Sets.{attributes}
use Rattle.closure_steps.specs.declared.steps.ClosureStep.{ClosureStep}
use Rattle.closure_steps.specs.Steps.{reached, closure_step_values}
use Rattle.schema_printer.specs.Spelling.{printed_names_of}
use Rattle.desk_implication.specs.Closures.{IsBesideText, closure_text}
use Rattle.desk_implication.proofs.closures.closure_lines.Goals as goal

pub returns : goal.returns
returns c =
    let s = c.args.schema.now in
    let x = attributes c.args.start in
    let found = c.in_ok-found in
    let closed = attributes c.closure-closed.result in
    let beside = c.in_ok-beside.beside.items in
    let rest : attributes c.difference.result ≡ difference closed (reached x (closure_step_values found.found.steps.items)) =
    c.difference.ensures.members ∙ ap (λ (y : Attributes). difference closed y) found.ensures.reached in
    record {
      text = record {
        steps = closure_step_values found.found.steps.items;
        are_steps = rw (c.theory-theory.ensures.theory) at found.ensures.steps;
        closed = closed;
        is_closure = rw (c.theory-theory.ensures.theory) at c.closure-closed.ensures.closure;
        beside = beside;
        is_beside = subst (λ (y : Attributes). IsBesideText (printed_names_of s) y beside) rest c.in_ok-beside.ensures.text;
        reads = c.in_ok-text.ensures.text
            ∙ ap (λ (steps : List ClosureStep). closure_text s x (closure_step_values steps) c.deref-2.result.now closed) c.deref.ensures.value
            ∙ ap (λ (b : List ℕ). closure_text s x (closure_step_values found.found.steps.items) b closed) c.deref-2.ensures.value;
      };
    }
