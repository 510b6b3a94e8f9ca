-- What is left to prove of `rules_response`: its clause `says`, piece by piece.
use Rattle.std.proofs.Common.{◌++◌, ℕ, List, ap, subst, ◌∙◌}
use Rattle.dep_model.specs.Deps.{dependencies_of}
use Rattle.desk_responses.specs.ResponseValues.{Says}
use Rattle.desk_responses.specs.Responses.{response_value}
use Rattle.desk_responses.specs.declared.status.Status.TheVariants.{Yes}
use Rattle.desk_discovery.specs.Discoveries.{rules_text}
use Rattle.desk_discovery.proofs.discovering.rules_response.Goals as goal

pub returns : goal.returns
returns c =
    let rest = rules_text c.args.names.items (dependencies_of c.args.deps.now) in
    let text = c.in_ok-add.ensures.added
    ∙ ap (λ (t : List ℕ). c.in_ok-text.text.items ++ t) (c.deref.ensures.value ∙ c.in_ok-rule_lines.ensures.text)
    ∙ ap (λ (t : List ℕ). t ++ rest) c.in_ok-text.ensures.comment in
    record {
      says = subst (λ (t : List ℕ). Says Yes t (response_value c.with_text.result)) text c.with_text.ensures.says;
    }
