-- What is left to prove of `put_tables_sections`: its clause, section by section.
use Rattle.desk_reports.proofs.PieceLemmas.{adds_both}
use Rattle.desk_reports.proofs.reports.put_tables_sections.Goals as goal

pub returns : goal.returns
returns c = record {
  added = adds_both _ _ _ _ _ c.in_ok-put_tables_section.ensures.added
      (adds_both _ _ _ _ _ c.in_ok-put_tables_section-2.ensures.added c.in_ok-put_tables_section-3.ensures.added);
}
