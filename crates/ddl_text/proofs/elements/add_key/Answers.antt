-- What is left to prove of `add_key`: its clauses `added` and `any_written`, by `TextLemmas`.
use Rattle.std.proofs.Common.{sym, ◌∙◌, append-nil}
use Rattle.std.proofs.Math.Bool.{or-false}
use Rattle.std.proofs.lemmas.Bool.{true≢false}
use Rattle.attr_sets.specs.Attributes.{IsEmpty}
use Rattle.attr_sets.specs.Sets.{attributes}
use Rattle.ddl_text.proofs.TextLemmas.{no_key, key_added, key_not_empty}
use Rattle.ddl_text.proofs.elements.add_key.Goals as goal

pub returns-then-is_empty-clause-added : goal.returns-then-is_empty-clause-added
returns-then-is_empty-clause-added c =
    rw (no_key c.args.schema.now (attributes c.args.key) (c.is_empty.ensures.empty.0 c.if-is_empty.true))
    (sym (append-nil c.args.text.now.items))

pub returns-then-is_empty-clause-any_written : goal.returns-then-is_empty-clause-any_written
returns-then-is_empty-clause-any_written c =
    rw (no_key c.args.schema.now (attributes c.args.key) (c.is_empty.ensures.empty.0 c.if-is_empty.true))
    (sym (or-false c.args.any_before))

pub returns-clause-added : goal.returns-clause-added
returns-clause-added c =
    key_added c.args.schema.now c.args.key c.args.any_before c.args.text.now.items c.add_opening.new.text.items
    c.add.new.text.items c.add_name_list.new.text.items c.add-2.new.text.items
    (λ (empty : IsEmpty (attributes c.args.key)). true≢false (sym (c.is_empty.ensures.empty.1 empty) ∙ c.if-is_empty.false))
    c.in_ok-add_opening.ensures.added c.in_ok-add.ensures.added c.in_ok-add_name_list.ensures.added
    c.in_ok-add-2.ensures.added

pub returns-clause-any_written : goal.returns-clause-any_written
returns-clause-any_written c =
    key_not_empty c.args.schema.now c.args.key c.args.any_before
    (λ (empty : IsEmpty (attributes c.args.key)). true≢false (sym (c.is_empty.ensures.empty.1 empty) ∙ c.if-is_empty.false))
