-- What is left to prove of `add_set`: what it answers, case by case and that the invariant of its
-- loop holds at first and stays, by `PrintLemmas` and `SpellingLemmas`.
use Rattle.std.proofs.Common.{◌≡◌, ◌<◌, ◌≤◌, ◌+◌, append-nil, [], ◌∷◌, length, drop, get_or, sym, ◌∙◌, ap, Some, refl, arith, add-one, drop-cons}
use Rattle.attr_sets.specs.Sets.{attributes}
use Rattle.schema_printer.specs.Spelling.{spelling, printed_names_of}
use Rattle.schema_printer.specs.Printing.{set_text}
use Rattle.schema_printer.proofs.PrintLemmas.{set_inside, set_done, added_before}
use Rattle.schema_printer.proofs.SpellingLemmas.{printed_name, length_printed}
use Rattle.schema_printer.proofs.printing.add_set.Goals as goal
use Rattle.schema_printer.proofs.printing.add_set.Goals.{then-contains+in_ok-add_member, else-contains}

pub loop-attribute-init : goal.loop-attribute-init
unfolding set_text
loop-attribute-init c = record { same = refl }

pub loop-attribute-preserved : goal.loop-attribute-preserved
loop-attribute-preserved c = elim c.if-contains.branch [
  | then-contains+in_ok-add_member w ↦
      set_inside (printed_names_of c.args.schema.now) (attributes c.args.set) _ _ _ _ _ c.loop-attribute.attribute _ c.loop-attribute.invariant
      (printed_name c.args.schema.now c.loop-attribute.attribute _ w.name.ensures.name ∙ ap (λ n. Some (spelling n w.name.result.now)) (sym w.naming.ensures.naming)) w.if-contains.ensures.member
      (ap (λ t. t.items) w.text-is ∙ w.in_ok-add_member.ensures.added) w.any_written-is
  | else-contains w ↦
      let names = printed_names_of c.args.schema.now in
      let k = c.loop-attribute.attribute in
      let inside : k < length names = omega (arith, c.loop-attribute-test.true, c.width-attribute-end.ensures.count, length_printed c.args.schema.now) in
      let rest : drop k names ≡ get_or names k [] ∷ drop (k + 1) names =
      rw (add-one, drop-cons names k [] inside) refl in
      record {
        same = rw (ap (λ t. t.items) w.text-is, w.any_written-is)
            (rw (rest, ← w.if-contains.ensures.member) at c.loop-attribute.invariant.same);
      }
]

pub returns-then-any_written : goal.returns-then-any_written
returns-then-any_written c =
    let past : length (printed_names_of c.args.schema.now) ≤ c.loop-attribute.attribute =
    omega (arith, c.loop-attribute-test.false, c.width-attribute-end.ensures.count, length_printed c.args.schema.now) in
    let done = set_done (printed_names_of c.args.schema.now) (attributes c.args.set) c.args.text.now.items c.loop-attribute.text.items c.loop-attribute.any_written c.loop-attribute.attribute c.loop-attribute.invariant past in
    record { added = sym (append-nil c.loop-attribute.text.items) ∙ (rw c.if-any_written.true at done) }

pub returns-else-any_written : goal.returns-else-any_written
returns-else-any_written c =
    let past : length (printed_names_of c.args.schema.now) ≤ c.loop-attribute.attribute =
    omega (arith, c.loop-attribute-test.false, c.width-attribute-end.ensures.count, length_printed c.args.schema.now) in
    let done = set_done (printed_names_of c.args.schema.now) (attributes c.args.set) c.args.text.now.items c.loop-attribute.text.items c.loop-attribute.any_written c.loop-attribute.attribute c.loop-attribute.invariant past in
    record {
      added = added_before c.add.result c.args.text.now.items c.loop-attribute.text.items (40 ∷ 41 ∷ [])
          (set_text (printed_names_of c.args.schema.now) (attributes c.args.set)) c.add.new.text.items
          (rw c.if-any_written.false at done) c.add.ensures.added;
    }
