-- What is left to prove of `put_join`: its clause, piece by piece.
use Rattle.std.proofs.Common.{ℕ, List, refl, subst, ◌∙◌, codes}
use Rattle.table_names.specs.TableNames.{GivenNames}
use Rattle.plan_printer.specs.NamedPlans.{named_schemes}
use Rattle.plans.specs.Plans.{plan_of, scheme_sets}
use Rattle.html_pages.specs.Pages.{title_with_words}
use Rattle.desk_designs.specs.Joins.{JudgesJoin}
use Rattle.desk_reports.specs.Answers.{Adds}
use Rattle.desk_reports.specs.Tables.{ShowsPicture, ShowsPictureOf, two_files}
use Rattle.desk_reports.proofs.PieceLemmas.{adds_both, adds_opened, adds_weaker}
use Rattle.desk_reports.proofs.planned.put_join.Goals as goal

pub returns : goal.returns
returns c =
    let s = c.args.schema.now in
    let planned = c.args.planned.now in
    let plan = planned.plan in
    let title = title_with_words (codes "Joined again") (two_files (codes "check join ") c.args.file.now c.args.plan_file.now) in
    record {
      added = adds_both _ _ _ _ _
          (adds_opened (JudgesJoin s (plan_of plan)) title c.deref.result.now c.check_join.result _ _
          (c.deref.ensures.value ∙ c.in_ok-title.ensures.text) c.check_join.ensures.response c.in_ok-put_opened.ensures.added)
          (adds_weaker (ShowsPicture s planned.names.items (scheme_sets plan)) (ShowsPictureOf s (named_schemes planned)) _ _
          (λ piece shown. (scheme_sets plan, refl, shown))
          (subst (λ (names : GivenNames). Adds (ShowsPicture s names (scheme_sets plan)) c.put_opened.new.text.items c.put_picture.new.text.items)
          c.deref-2.ensures.value c.in_ok-put_picture.ensures.added));
    }
