-- What is left to prove of `plan_page`: its clause, section by section.
use Rattle.desk_reports.proofs.PageLemmas.{page_says}
use Rattle.desk_reports.proofs.PieceLemmas.{adds_both}
use Rattle.desk_reports.proofs.reports.plan_page.Goals as goal

pub returns : goal.returns
returns c =
    let adds = adds_both _ _ _ _ _ c.in_ok-put_front_sections.ensures.added
    (adds_both _ _ _ _ _ c.in_ok-put_plan_section.ensures.added c.in_ok-put_example_section.ensures.added) in
    record {
      response = (
        adds.piece,
        adds.is,
        page_says c.args.file.now _ adds.piece _ _ _ _ c.with_text.ensures.says c.in_ok-close_page.ensures.added adds.added c.in_ok-text.ensures.text c.bytes.ensures.bytes,
      );
    }
