-- What is left to prove of `put_use`: its clause, piece by piece.
use Rattle.std.proofs.Common.{ℕ, List, subst, ◌∙◌, codes}
use Rattle.table_names.specs.TableNames.{GivenNames}
use Rattle.plans.specs.Plans.{plan_of}
use Rattle.html_pages.specs.Pages.{title_with_words}
use Rattle.desk_designs.specs.Designs.{WritesPlan}
use Rattle.desk_designs.specs.Keeping.{JudgesKeeping}
use Rattle.desk_responses.specs.Responses.{RespondsAs}
use Rattle.desk_reports.specs.Tables.{two_files}
use Rattle.desk_reports.proofs.PieceLemmas.{adds_both, adds_folded, adds_opened}
use Rattle.desk_reports.proofs.planned.put_use.Goals as goal

pub returns : goal.returns
returns c =
    let s = c.args.schema.now in
    let planned = c.args.planned.now in
    let schemes = plan_of planned.plan in
    let words = two_files (codes "check keeps ") c.args.file.now c.args.plan_file.now in
    let writing = two_files (codes "ddl plan ") c.args.file.now c.args.plan_file.now in
    record {
      added = adds_both _ _ _ _ _
          (adds_opened (JudgesKeeping s schemes) (title_with_words (codes "Rules that they keep") words) c.deref.result.now
          c.check_keeps.result _ _ (c.deref.ensures.value ∙ c.in_ok-keeping.ensures.text)
          c.check_keeps.ensures.response c.in_ok-put_opened.ensures.added)
          (adds_folded (WritesPlan s planned.names.items schemes) (title_with_words (codes "SQL") writing) c.deref-3.result.now
          c.write_plan-written.result _ _ (c.deref-3.ensures.value ∙ c.in_ok-writing.ensures.text)
          (subst (λ (names : GivenNames). RespondsAs (WritesPlan s names schemes) c.write_plan-written.result)
          c.deref-2.ensures.value c.write_plan-written.ensures.response)
          c.in_ok-put_folded.ensures.added);
    }
