-- What is left to prove of `put_picture`: its clause, of the design that it draws.
use Rattle.std.proofs.Common.{refl}
use Rattle.design_picture.specs.Picture.{picture_text}
use Rattle.plans.specs.Plans.{scheme_sets}
use Rattle.desk_reports.specs.Tables.{ShowsPicture}
use Rattle.desk_reports.proofs.PieceLemmas.{adds_just}
use Rattle.desk_reports.proofs.tables.put_picture.Goals as goal

pub returns : goal.returns
returns c =
    let s = c.args.schema.now in
    let tables = c.in_ok-tables.tables in
    record {
      added = adds_just (ShowsPicture s c.args.names.now (scheme_sets c.args.plan.now)) _ (picture_text s tables) _
          (tables, c.in_ok-tables.ensures.sound, refl) c.in_ok-put_drawing.ensures.added;
    }
