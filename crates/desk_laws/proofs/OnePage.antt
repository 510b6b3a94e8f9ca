-- Two answers where a page is asked for are equal, or both say yes.
use Rattle.std.proofs.Common.{ℕ, List, refl, inl, inr}
use Rattle.schema_model.specs.Schemas.{Schema}
use Rattle.desk_outside.specs.Files.{Files}
use Rattle.desk_inputs.specs.FileKinds.{WithFile}
use Rattle.desk_inputs.specs.Plans.{plan_file}
use Rattle.desk_inputs.specs.Readings.{known_files}
use Rattle.desk_reports.specs.Reports.{ReportsPlan, ReportsSchema}
use Rattle.desk_responses.specs.ResponseValues.{ResponseValue}
use Rattle.desk_words.specs.Forms as form
use Rattle.desk_laws.proofs.OneFile.{two_after_file}
use Rattle.desk_laws.proofs.OneText.{plan_tables_once}
use Rattle.desk_laws.proofs.PageLaws.{page_says_yes, plan_page_says_yes}
use Rattle.desk_laws.specs.OneReading.{IsOneButForProof}

pub two_pages : (file : List ℕ) (s : Schema) (one other : ResponseValue) → ReportsSchema file s one
    → ReportsSchema file s other → IsOneButForProof s (form.report file) one other
two_pages file s one other first second =
    inr (inr (record {
      asks = inl (file, refl);
      one_says_yes = page_says_yes file s one first;
      other_says_yes = page_says_yes file s other second;
    }))

pub two_plan_pages : (files : Files) (file planned : List ℕ) (s : Schema) (one other : ResponseValue)
    → WithFile (plan_file s) (known_files files) planned (ReportsPlan file planned s) one
    → WithFile (plan_file s) (known_files files) planned (ReportsPlan file planned s) other
    → IsOneButForProof s (form.report_plan file planned) one other
two_plan_pages files file planned s =
    two_after_file files planned (plan_file s) (plan_tables_once s) (IsOneButForProof s (form.report_plan file planned))
    (ReportsPlan file planned s) (λ one other same. inl same)
    (λ plan one other is first second. inr (inr (record {
      asks = inr (file, planned, refl);
      one_says_yes = plan_page_says_yes file planned s plan one first;
      other_says_yes = plan_page_says_yes file planned s plan other second;
    })))
