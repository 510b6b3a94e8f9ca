-- What is left to prove of `of_values`: its clause `reads`.
use Rattle.std.proofs.Common.{ℕ, List, Ok, Err, Result}
use Rattle.dep_model.specs.Tuples.{Relation}
use Rattle.schema_model.specs.Schemas.{Schema}
use Rattle.desk_cli.specs.Performs.{WithValues}
use Rattle.desk_inputs.specs.FileKinds.{WithFile}
use Rattle.desk_inputs.specs.Readings.{Reading}
use Rattle.desk_inputs.specs.Rows.{rows_file}
use Rattle.desk_inputs.proofs.CallLemmas.{not_opened, opened, reads_none, reads_so}
use Rattle.desk_measures.specs.Measures.{MeasuresRows}
use Rattle.desk_measures.specs.Untyped.{HasTextsAlone}
use Rattle.desk_responses.specs.ResponseValues.{Allowed}
use Rattle.desk_responses.specs.Responses.{RespondsAs}
use Rattle.desk_responses.specs.declared.response.EarlyExit.{EarlyExit}
use Rattle.desk_responses.specs.declared.response.Response.{Response}
use Rattle.desk_cli.proofs.tasks.of_values.Goals as goal

-- what rows of texts alone come to, rows of whatever values come to
values_found : (s texts : Schema) (file : List ℕ) (rest : Relation → Allowed) (result : Result Response EarlyExit) → HasTextsAlone s texts
    → (r : Reading) → RespondsAs (WithFile (rows_file texts) r file rest) result → RespondsAs (WithValues r s file rest) result
unfolding WithValues
values_found s texts file rest (Ok response) alone r goes = (texts, alone, goes)
values_found s texts file rest (Err exit) alone r goes = λ response e. (texts, alone, goes response e)

pub returns-in-Err : goal.returns-in-Err
returns-in-Err g c = record { reads = reads_none (λ r response is. absurd (cc)) }

pub returns-in-Err-open_rows : goal.returns-in-Err-open_rows
returns-in-Err-open_rows g c =
    let s = c.args.schema.now in
    let file = c.args.file.now in
    let result = Err c.in-Err-open_rows.exit in
    record {
      reads = reads_so (λ (r : Reading). RespondsAs (WithValues r s file (MeasuresRows s)) result)
          (values_found s c.in-Ok.texts file (MeasuresRows s) result c.in-Ok.ensures.texts)
          (not_opened (λ (r : Reading). MeasuresRows s) c.in-Err-open_rows.ensures.opens);
    }

pub returns : goal.returns
returns g c =
    let s = c.args.schema.now in
    let file = c.args.file.now in
    let result = c.measure_rows.result in
    record {
      reads = reads_so (λ (r : Reading). RespondsAs (WithValues r s file (MeasuresRows s)) result)
          (values_found s c.in-Ok.texts file (MeasuresRows s) result c.in-Ok.ensures.texts)
          (opened (MeasuresRows s) result c.in-Ok-open_rows.ensures.opens c.measure_rows.ensures.response);
    }
