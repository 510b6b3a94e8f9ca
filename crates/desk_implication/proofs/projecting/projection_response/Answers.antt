-- What is left to prove of `projection_response`: its clause `says`, piece by piece.
use Rattle.std.proofs.Common.{◌++◌, ℕ, List, ap, subst, ◌∙◌}
use Rattle.attr_sets.specs.Sets.{attributes}
use Rattle.dep_model.specs.Deps.{dependencies_of}
use Rattle.desk_responses.specs.ResponseValues.{Says}
use Rattle.desk_responses.specs.Responses.{response_value}
use Rattle.desk_responses.specs.declared.status.Status.TheVariants.{Yes}
use Rattle.schema_printer.specs.Parts.{part_text}
use Rattle.desk_implication.proofs.projecting.projection_response.Goals as goal

pub returns : goal.returns
returns c =
    let s = c.args.schema.now in
    let rest = part_text s (attributes c.args.set) (dependencies_of c.args.rules.now) in
    let text = c.in_ok-add.ensures.added
    ∙ ap (λ (t : List ℕ). c.in_ok-text.text.items ++ t) (c.deref.ensures.value ∙ c.in_ok-print_part.ensures.text)
    ∙ ap (λ (t : List ℕ). t ++ rest) c.in_ok-text.ensures.comment in
    record {
      says = subst (λ (t : List ℕ). Says Yes t (response_value c.with_text.result)) text c.with_text.ensures.says;
    }
