-- What is left to prove of `put_tables`: its clause, piece by piece.
use Rattle.std.proofs.Common.{[], refl}
use Rattle.design_picture.specs.Picture.{picture_text}
use Rattle.plans.specs.Plans.{plan_of, scheme_sets}
use Rattle.desk_designs.specs.Keeping.{JudgesKeeping}
use Rattle.std.proofs.Common.{codes}
use Rattle.desk_reports.specs.Tables.{ShowsPicture}
use Rattle.desk_reports.proofs.PieceLemmas.{adds_both, adds_just, adds_later, adds_opened}
use Rattle.desk_reports.proofs.tables.put_tables.Goals as goal

pub returns : goal.returns
returns c =
    let s = c.args.schema.now in
    let plan = c.args.found.now.plan in
    let tables = c.in_ok-tables.tables in
    record {
      added = adds_later _ _ _ _ _ _ c.in_ok-put_plan.ensures.added
          (adds_both _ _ _ _ _
          (adds_just (ShowsPicture s [] (scheme_sets plan)) _ (picture_text s tables) _ (tables, c.in_ok-tables.ensures.sound, refl)
          c.in_ok-put_drawing.ensures.added)
          (adds_both _ _ _ _ _
          (adds_opened (JudgesKeeping s (plan_of plan)) (codes "Rules that they keep") (codes "Rules that they keep") c.check_keeps-kept.result _ _
          refl c.check_keeps-kept.ensures.response c.in_ok-put_opened.ensures.added)
          c.in_ok-put_sql.ensures.added));
    }
