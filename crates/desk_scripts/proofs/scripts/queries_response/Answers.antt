-- What is left to prove of `queries_response`: its clause `response`, by what `check_script` tells.
use Rattle.std.proofs.Common.{◌↔◌, ℕ, List, sym, ap, subst, ◌∙◌}
use Rattle.sql_check_laws.specs.HeldRelations.{Holds}
use Rattle.sql_check_laws.specs.CheckedRules.{NoBreachShown, RulesHold, NothingShown}
use Rattle.schema_model.specs.Schemas.{LegalFor}
use Rattle.sql_scripts.specs.Checking.{check_text}
use Rattle.sql_scripts.specs.Naming.{quoted_table}
use Rattle.desk_responses.specs.ResponseValues.{Says}
use Rattle.desk_responses.specs.Responses.{response_value}
use Rattle.desk_responses.specs.declared.status.Status.TheVariants.{Yes}
use Rattle.desk_scripts.proofs.scripts.queries_response.Goals as goal

pub returns : goal.returns
returns c =
    let s = c.args.schema.now in
    let same = c.bytes.ensures.bytes in
    let script = c.in_ok-script in
    record {
      response = (
        record {
          terms = script.ensures.exact;
          queries = λ e cell r holds over.
              subst (λ (t : List ℕ). LegalFor s r ↔ NoBreachShown e s (quoted_table t)) same
              (script.ensures.tells e cell r (subst (λ (t : List ℕ). Holds e (quoted_table t) s cell r) (sym same) holds) over);
          script = λ e cell r holds over casts.
              subst (λ (t : List ℕ). RulesHold s cell r ↔ NothingShown e s (quoted_table t)) same
              (script.ensures.tells_all e cell r (subst (λ (t : List ℕ). Holds e (quoted_table t) s cell r) (sym same) holds) over casts);
        },
        subst (λ (text : List ℕ). Says Yes text (response_value c.with_text.result))
            (script.ensures.text ∙ ap (λ (t : List ℕ). check_text s (quoted_table t)) same) c.with_text.ensures.says,
      );
    }
