-- What is left to prove of `put_front_sections`: its clause, section by section.
use Rattle.desk_reports.proofs.PieceLemmas.{adds_both}
use Rattle.desk_reports.proofs.reports.put_front_sections.Goals as goal

pub returns : goal.returns
returns c = record {
  added = adds_both _ _ _ _ _ c.in_ok-put_attributes_section.ensures.added
      (adds_both _ _ _ _ _ c.in_ok-put_rules_section.ensures.added
      (adds_both _ _ _ _ _ c.in_ok-put_cover_section.ensures.added
      (adds_both _ _ _ _ _ c.in_ok-put_keys_section.ensures.added c.in_ok-put_forms_section.ensures.added)));
}
