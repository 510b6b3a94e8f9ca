-- What is left to prove of `tests_text`: that the invariant of its loop holds at first and stays,
-- by `tests_more`.
use Rattle.std.proofs.Common.{◌∙◌, refl, sym}
use Rattle.attr_sets.specs.Sets.{attributes}
use Rattle.dep_model.proofs.SchemeLemmas.{members_below-none}
use Rattle.sql_scripts.proofs.ItemLemmas.{tests_more, not_empty_more, members_passed}
use Rattle.sql_scripts.proofs.missing.tests_text.Goals as goal
use Rattle.sql_scripts.proofs.missing.tests_text.Goals.{then-contains+in_ok-test+in_ok-add_test, else-contains}

pub loop-attribute-init : goal.loop-attribute-init
loop-attribute-init c = rw (members_below-none (attributes c.args.set)) (record { listed = c.new-text.ensures.items; any_written = refl })

pub loop-attribute-preserved : goal.loop-attribute-preserved
loop-attribute-preserved c =
    let x = attributes c.args.set in
    let n = c.loop-attribute.attribute in
    let before = c.loop-attribute.invariant in
    elim c.if-contains.branch [
      | then-contains+in_ok-test+in_ok-add_test w ↦ rw (w.text-is, w.any_written-is) (record {
        listed = tests_more c.args.schema.now c.args.asked x n c.loop-attribute.any_written c.loop-attribute.text.items w.add_test.new.text.items w.deref.result.now
            (sym w.if-contains.ensures.member) before.listed before.any_written (w.deref.ensures.value ∙ w.in_ok-test.ensures.text)
            w.in_ok-add_test.ensures.added;
        any_written = not_empty_more x n (sym w.if-contains.ensures.member);
      })
      | else-contains w ↦ rw (members_passed x n (sym w.if-contains.ensures.member), w.text-is, w.any_written-is) before
    ]
