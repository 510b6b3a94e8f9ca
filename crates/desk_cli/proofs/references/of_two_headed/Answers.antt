-- What is left to prove of `of_two_headed`: its clause `reads`.
use Rattle.std.proofs.Common.{[], ◌∷◌, Err}
use Rattle.headed_rows.specs.Headings.{HeadedRows, headed_of}
use Rattle.desk_inputs.specs.FileKinds.{WithFile}
use Rattle.desk_inputs.specs.Headed.{headed_file}
use Rattle.desk_inputs.specs.Readings.{Reading}
use Rattle.desk_references.specs.Checks.{ChecksReferences}
use Rattle.desk_inputs.proofs.CallLemmas.{not_opened, opened, opened_then, stopped}
use Rattle.desk_cli.proofs.references.of_two_headed.Goals as goal

pub returns-in-Err : goal.returns-in-Err
returns-in-Err g c = record {
  reads = stopped (c.args.other.now ∷ [])
      (λ (r : Reading) (own : HeadedRows). WithFile headed_file r c.args.other.now (λ others. ChecksReferences own c.args.names.now others c.args.other_names.now))
      c.in-Err.ensures.opens;
}

pub returns-in-Err-open_headed : goal.returns-in-Err-open_headed
returns-in-Err-open_headed g c = record {
  reads = opened_then
      (λ (r : Reading) (own : HeadedRows). WithFile headed_file r c.args.other.now (λ others. ChecksReferences own c.args.names.now others c.args.other_names.now))
      (Err c.in-Err-open_headed.exit) c.in-Ok.ensures.opens
      (not_opened (λ (r : Reading) (others : HeadedRows). ChecksReferences (headed_of c.in-Ok.own) c.args.names.now others c.args.other_names.now)
      c.in-Err-open_headed.ensures.opens);
}

pub returns : goal.returns
returns g c = record {
  reads = opened_then
      (λ (r : Reading) (own : HeadedRows). WithFile headed_file r c.args.other.now (λ others. ChecksReferences own c.args.names.now others c.args.other_names.now))
      c.check_references.result c.in-Ok.ensures.opens
      (opened (λ (others : HeadedRows). ChecksReferences (headed_of c.in-Ok.own) c.args.names.now others c.args.other_names.now) c.check_references.result
      c.in-Ok-open_headed.ensures.opens c.check_references.ensures.response);
}
