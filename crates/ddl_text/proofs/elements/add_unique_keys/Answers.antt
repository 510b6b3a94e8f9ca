-- What is left to prove of `add_unique_keys`: that a round of its loop keeps the invariant, by
-- `uniques_more`, `uniques_not_empty` and `uniques_passed`.
use Rattle.std.proofs.Common.{List, ◌++◌, ◌||◌, sym, ap, ◌∙◌}
use Rattle.attr_sets.specs.declared.set.AttrSet.{AttrSet}
use Rattle.sql_syntax.specs.Names.{is_not_empty}
use Rattle.sql_syntax.specs.Statements.{Element, element_lines}
use Rattle.ddl_text.proofs.TextLemmas.{missing_from, never_from, uniques_more, uniques_not_empty, uniques_passed}
use Rattle.ddl_text.proofs.elements.add_unique_keys.Goals as goal

pub loop-key-preserved-then-may_be_missing : goal.loop-key-preserved-then-may_be_missing
loop-key-preserved-then-may_be_missing c =
    let d : AttrSet = record { 0 = 0 } in
    let same = uniques_passed c.args.schema.now c.args.keys.now c.loop-key.key-index d c.loop-key-test.true
    (missing_from _ _ c.if-may_be_missing.true c.may_be_missing.ensures.missing) in
    record {
      added = c.loop-key.invariant.added
          ∙ ap (λ (es : List Element). c.args.text.now.items ++ element_lines c.args.any_before es) (sym same);
      any_before = c.loop-key.invariant.any_before
          ∙ ap (λ (es : List Element). c.args.any_before || is_not_empty es) (sym same);
    }

pub loop-key-preserved : goal.loop-key-preserved
loop-key-preserved c =
    let s = c.args.schema.now in
    let keys = c.args.keys.now in
    let i = c.loop-key.key-index in
    let d : AttrSet = record { 0 = 0 } in
    let before = c.loop-key.invariant in
    let never = never_from _ _ c.if-may_be_missing.false c.may_be_missing.ensures.missing in
    record {
      added = uniques_more s keys i d c.args.any_before c.loop-key.any_before c.args.text.now.items c.loop-key.text.items
          c.add_opening.new.text.items c.add_unique_key.new.text.items c.loop-key-test.true never
          before.added before.any_before
          c.in_ok-add_opening.ensures.added c.in_ok-add_unique_key.ensures.added;
      any_before = uniques_not_empty s keys i d c.args.any_before c.loop-key-test.true never;
    }
