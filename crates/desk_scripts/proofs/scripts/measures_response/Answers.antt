-- What is left to prove of `measures_response`: its clause `response`, by what `measure_script` promises.
use Rattle.std.proofs.Common.{ℕ, List, sym, ap, subst, ◌∙◌}
use Rattle.sql_check_laws.specs.HeldRelations.{Holds}
use Rattle.sql_measure_laws.specs.Measured.{MeasuresRules}
use Rattle.sql_scripts.specs.Measuring.{measure_text}
use Rattle.sql_scripts.specs.Naming.{quoted_table}
use Rattle.desk_responses.specs.ResponseValues.{Says}
use Rattle.desk_responses.specs.Responses.{response_value}
use Rattle.desk_responses.specs.declared.status.Status.TheVariants.{Yes}
use Rattle.desk_scripts.proofs.scripts.measures_response.Goals as goal

pub returns : goal.returns
returns c =
    let s = c.args.schema.now in
    let same = c.bytes.ensures.bytes in
    let script = c.in_ok-script in
    record {
      response = (
        λ e cell r holds over.
            subst (λ (t : List ℕ). MeasuresRules e s (quoted_table t) r) same
            (script.ensures.measures e cell r (subst (λ (t : List ℕ). Holds e (quoted_table t) s cell r) (sym same) holds) over),
        subst (λ (text : List ℕ). Says Yes text (response_value c.with_text.result))
            (script.ensures.text ∙ ap (λ (t : List ℕ). measure_text s (quoted_table t)) same) c.with_text.ensures.says,
      );
    }
