-- What is left to prove of `add_comment`: its clause `added`, by `remarks-empty_key` and `remarks-other_keys`.
use Rattle.std.proofs.Common.{List, sym, subst, ◌∙◌, ◌≡◌, ◌++◌}
use Rattle.std.specs.Prelude.{OnOk}
use Rattle.std.proofs.lemmas.Bool.{true≢false}
use Rattle.attr_sets.specs.Attributes.{IsEmpty}
use Rattle.attr_sets.specs.Sets.{attributes}
use Rattle.attr_sets.specs.declared.set.AttrSet.{AttrSet}
use Rattle.dep_model.specs.Plans.{schemes_of}
use Rattle.ddl_text.proofs.TextLemmas.{left_out_lines, remarks-empty_key, remarks-other_keys}
use Rattle.ddl_text.proofs.printing.add_comment.Goals as goal

pub returns-then-is_empty : goal.returns-then-is_empty
returns-then-is_empty c = record {
  added = rw (remarks-empty_key c.args.schema.now c.args.table.now
      (c.is_empty.ensures.empty.0 c.if-is_empty.true)) c.add.ensures.added;
}

pub returns-in-Some : goal.returns-in-Some
returns-in-Some c = record {
  added = rw (
    remarks-other_keys c.args.schema.now c.args.table.now
        (λ (empty : IsEmpty (attributes c.args.table.now.key)). true≢false
        (sym (c.is_empty.ensures.empty.1 empty) ∙ c.if-is_empty.false)),
    c.in-Some.is,
  ) (subst (λ (keys : List AttrSet). OnOk c.add_left_out_keys.result
      (c.add_left_out_keys.new.text.items ≡ c.args.text.now.items ++ left_out_lines c.args.schema.now (schemes_of keys)))
      c.deref.ensures.value c.add_left_out_keys.ensures.added);
}

pub returns-in-None : goal.returns-in-None
returns-in-None c = record {
  added = rw (
    remarks-other_keys c.args.schema.now c.args.table.now
        (λ (empty : IsEmpty (attributes c.args.table.now.key)). true≢false
        (sym (c.is_empty.ensures.empty.1 empty) ∙ c.if-is_empty.false)),
    c.in-None.is,
  ) c.add-in-None.ensures.added;
}
