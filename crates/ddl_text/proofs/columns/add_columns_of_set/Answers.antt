-- What is left to prove of `add_columns_of_set`: that the invariant of its loop holds at first and stays,
-- by `TextLemmas`.
use Rattle.std.proofs.Common.{false, map, refl, sym, append-nil}
use Rattle.attr_sets.specs.Sets.{attributes}
use Rattle.dep_model.specs.Projections.{members_below}
use Rattle.dep_model.proofs.SchemeLemmas.{members_below-none}
use Rattle.ddl_text.specs.Ddl.{column_made}
use Rattle.ddl_text.proofs.TextLemmas.{members_inside, members_outside, lines_more}
use Rattle.sql_syntax.proofs.NameLemmas.{not_empty_more}
use Rattle.ddl_text.proofs.columns.add_columns_of_set.Goals as goal
use Rattle.ddl_text.proofs.columns.add_columns_of_set.Goals.{then-contains+in_ok-add_opening+in_ok-add_column, else-contains}

pub loop-attribute-init : goal.loop-attribute-init
loop-attribute-init c = rw (members_below-none (attributes c.args.scheme))
    (record { added = sym (append-nil c.args.text.now.items); any_before = refl })

pub loop-attribute-preserved : goal.loop-attribute-preserved
loop-attribute-preserved c =
    let s = c.args.schema.now in
    let x = attributes c.args.scheme in
    let n = c.loop-attribute.attribute in
    let column = column_made s (attributes c.args.nullable) in
    let before = c.loop-attribute.invariant in
    elim c.if-contains.branch [
      | then-contains+in_ok-add_opening+in_ok-add_column w ↦
          rw (members_inside column n x (sym w.if-contains.ensures.member), w.text-is, w.any_before-is) (record {
            added = lines_more false c.loop-attribute.any_before (map column (members_below n x))
                (column n) c.args.text.now.items c.loop-attribute.text.items
                w.add_opening.new.text.items w.add_column.new.text.items before.added before.any_before
                w.in_ok-add_opening.ensures.added w.in_ok-add_column.ensures.added;
            any_before = not_empty_more false (map column (members_below n x)) (column n);
          })
      | else-contains w ↦ rw (members_outside column n x (sym w.if-contains.ensures.member), w.text-is, w.any_before-is)
          before
    ]
