-- What is left to prove of `keys_response`: its clause `says`, by `KeyLemmas`.
use Rattle.std.proofs.Common.{ℕ, List, subst, ◌∙◌}
use Rattle.desk_responses.specs.ResponseValues.{Says}
use Rattle.desk_responses.specs.Responses.{response_value}
use Rattle.desk_responses.specs.declared.status.Status.TheVariants.{Yes}
use Rattle.desk_discovery.proofs.KeyLemmas.{keys_printed}
use Rattle.desk_discovery.proofs.keys.keys_response.Goals as goal

pub returns : goal.returns
returns c = record {
  says = subst (λ (t : List ℕ). Says Yes t (response_value c.with_text.result))
      (c.in_ok-key_lines.ensures.text ∙ keys_printed c.args.names.items c.in_ok-schema.schema c.args.keys.now c.in_ok-schema.ensures.columns)
      c.with_text.ensures.says;
}
