-- What is left to prove of `of_headed_files`: its clause `reads`.
use Rattle.std.proofs.Common.{List, map, subst}
use Rattle.headed_rows.specs.Headings.{headed_of}
use Rattle.headed_rows.specs.declared.headed_rows.Headed.{Headed}
use Rattle.desk_references.specs.Findings.{FindsReferences}
use Rattle.desk_responses.specs.Responses.{RespondsAs}
use Rattle.desk_inputs.specs.Readings.{Reading}
use Rattle.desk_inputs.proofs.CallLemmas.{not_opened, opened}
use Rattle.desk_cli.proofs.references.of_headed_files.Goals as goal

pub returns-in-Err : goal.returns-in-Err
returns-in-Err g c = record { reads = not_opened (λ (r : Reading). FindsReferences c.args.files.now) c.in-Err.ensures.opens }

pub returns : goal.returns
returns g c =
    let files = c.args.files.now in
    let result = c.find_references.result in
    record {
      reads = opened (FindsReferences files) result c.in-Ok.ensures.opens
          (subst (λ (read : List Headed). RespondsAs (FindsReferences files (map headed_of read)) result) c.deref.ensures.value c.find_references.ensures.response);
    }
