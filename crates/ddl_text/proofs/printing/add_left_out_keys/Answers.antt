-- What is left to prove of `add_left_out_keys`: that a round of its loop keeps the invariant, by
-- `left_out_more` and `left_out_passed`.
use Rattle.std.proofs.Common.{ℕ, List, ◌++◌, sym, ap, ◌∙◌}
use Rattle.attr_sets.specs.declared.set.AttrSet.{AttrSet}
use Rattle.ddl_text.proofs.TextLemmas.{missing_from, never_from, left_out_more, left_out_passed}
use Rattle.ddl_text.proofs.printing.add_left_out_keys.Goals as goal

pub loop-key-preserved-then-not-may_be_missing : goal.loop-key-preserved-then-not-may_be_missing
loop-key-preserved-then-not-may_be_missing c =
    let d : AttrSet = record { 0 = 0 } in
    let same = left_out_passed c.args.schema.now c.args.keys.now c.loop-key.key-index d c.loop-key-test.true
    (never_from _ _ c.if-not-may_be_missing.true c.may_be_missing.ensures.missing) in
    c.loop-key.invariant ∙ ap (λ (lines : List ℕ). c.args.text.now.items ++ lines) (sym same)

pub loop-key-preserved : goal.loop-key-preserved
loop-key-preserved c =
    let d : AttrSet = record { 0 = 0 } in
    left_out_more c.args.schema.now c.args.keys.now c.loop-key.key-index d c.args.text.now.items c.loop-key.text.items
    c.add_left_out_key.new.text.items c.loop-key-test.true
    (missing_from _ _ c.if-not-may_be_missing.false c.may_be_missing.ensures.missing)
    c.loop-key.invariant c.in_ok-add_left_out_key.ensures.added
