-- What is left to prove of `of_page_and_plan`: its clause `reads`.
use Rattle.desk_reports.specs.Reports.{ReportsPlan}
use Rattle.desk_inputs.specs.Readings.{Reading}
use Rattle.desk_inputs.proofs.CallLemmas.{not_opened, opened}
use Rattle.desk_cli.proofs.pages.of_page_and_plan.Goals as goal

pub returns-in-Err : goal.returns-in-Err
returns-in-Err g c = record { reads = not_opened (λ (r : Reading). ReportsPlan c.args.own.now c.args.planned.now c.args.schema.now) c.in-Err.ensures.opens }

pub returns : goal.returns
returns g c = record {
  reads = opened (ReportsPlan c.args.own.now c.args.planned.now c.args.schema.now) c.report_plan.result c.in-Ok.ensures.opens c.report_plan.ensures.response;
}
