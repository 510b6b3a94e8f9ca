-- What is left to prove of `is_complete`: that the invariant of its loop holds at first and stays, and that a row with
-- a missing value is not complete, by `CompleteLemmas`.
use Rattle.std.proofs.Common.{not, length, refl, sym, ap, arith}
use Rattle.attr_sets.specs.Sets.{attributes}
use Rattle.dep_model.proofs.SchemeLemmas.{members_below-none}
use Rattle.row_store.specs.Rows.{row_at}
use Rattle.csv_migrate.proofs.ProjectionLemmas.{row_width}
use Rattle.csv_migrate.proofs.CompleteLemmas.{is_there, member_tested, outsider_passed, member_fails}
use Rattle.csv_migrate.proofs.complete.is_complete.Goals as goal

pub loop-attribute-init : goal.loop-attribute-init
loop-attribute-init c = rw (members_below-none (attributes c.args.key)) (record { so_far = refl })

pub loop-attribute-preserved-then-not-contains : goal.loop-attribute-preserved-then-not-contains
loop-attribute-preserved-then-not-contains c = record {
  so_far =
      outsider_passed (is_there (attributes c.args.nullable) c.args.rows.now c.args.row) c.loop-attribute.attribute
      (attributes c.args.key) (sym c.if-not-contains.ensures.member) c.loop-attribute.invariant.so_far;
}

pub loop-attribute-preserved : goal.loop-attribute-preserved
loop-attribute-preserved c = record {
  so_far =
      member_tested (is_there (attributes c.args.nullable) c.args.rows.now c.args.row) c.loop-attribute.attribute
      (attributes c.args.key) (sym c.if-not-contains.ensures.member) (ap not (sym c.if-is_missing.ensures.missing))
      c.loop-attribute.invariant.so_far;
}

pub returns-then-is_missing : goal.returns-then-is_missing
returns-then-is_missing c =
    let k = c.loop-attribute.attribute in
    let rows = c.args.rows.now in
    let row = c.args.row in
    let long = row_width c.args.width rows row c.requires.over c.requires.row in
    record {
      complete =
          sym (member_fails (is_there (attributes c.args.nullable) rows row) (length (row_at rows row)) (attributes c.args.key) k
          (omega (arith, c.loop-attribute-test.true, long)) (sym c.if-not-contains.ensures.member)
          (ap not (sym c.if-is_missing.ensures.missing)));
    }
