-- What is left to prove of `put_rules_list`: its clause, piece by piece.
use Rattle.std.proofs.Common.{codes, refl}
use Rattle.desk_reports.specs.Pieces.{Just}
use Rattle.desk_reports.proofs.PieceLemmas.{adds_both, adds_just}
use Rattle.desk_reports.proofs.rules.put_rules_list.Goals as goal

pub returns : goal.returns
returns c = record {
  added = adds_both _ _ _ _ _
      (adds_just (Just (codes "<ul>\n")) _ (codes "<ul>\n") _ refl c.in_ok-add.ensures.added)
      (adds_both _ _ _ _ _ c.in_ok-put_rules.ensures.added
      (adds_just (Just (codes "</ul>\n")) _ (codes "</ul>\n") _ refl c.in_ok-add-2.ensures.added));
}
