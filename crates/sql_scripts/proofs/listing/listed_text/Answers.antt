-- What is left to prove of `listed_text`: that the sum fits, and that the invariant of its
-- loop holds at first and stays.
use Rattle.std.proofs.Common.{◌+◌, ℕ, sym, ap, ◌∙◌, arith}
use Rattle.std.specs.Prelude.{nat_lt}
use Rattle.attr_sets.specs.Sets.{attributes}
use Rattle.attr_sets.proofs.AttributesLemmas.{count_below-member, count_below-outside}
use Rattle.dep_model.proofs.SchemeLemmas.{members_below-none}
use Rattle.sql_syntax.specs.Printing.{item_text}
use Rattle.sql_scripts.specs.Listing.{item_of, item_text_at}
use Rattle.sql_scripts.proofs.ListingLemmas.{not_empty-counted, none_counted}
use Rattle.sql_scripts.proofs.ItemLemmas.{listed_more, members_passed}
use Rattle.sql_scripts.proofs.listing.listed_text.Goals as goal
use Rattle.sql_scripts.proofs.listing.listed_text.Goals.{then-contains+in_ok-item+in_ok-add_listed, else-contains}

pub overflow_add-number : goal.overflow_add-number
overflow_add-number c =
    let low = c.loop-attribute.invariant.low in
    let limit = c.args.schema.now.valid.names_within_limit in
    omega (arith, low, c.loop-attribute-test.true, c.width-attribute-end.ensures.count, limit)

pub loop-attribute-init : goal.loop-attribute-init
loop-attribute-init c = rw (members_below-none (attributes c.args.set)) (record {
  listed = c.new-text.ensures.items;
  counted = sym (none_counted (attributes c.args.set));
  low = omega arith;
})

pub loop-attribute-preserved : goal.loop-attribute-preserved
loop-attribute-preserved c =
    let s = c.args.schema.now in
    let x = attributes c.args.set in
    let n = c.loop-attribute.attribute in
    let before = c.loop-attribute.invariant in
    elim c.if-contains.branch [
      | then-contains+in_ok-item+in_ok-add_listed w ↦ rw (w.text-is, w.number-is) (record {
        listed = listed_more (item_text_at s c.args.listed x) x n
            (nat_lt 0 c.loop-attribute.number) c.loop-attribute.text.items w.add_listed.new.text.items w.deref.result.now
            (sym w.if-contains.ensures.member) before.listed (ap (nat_lt 0) before.counted ∙ not_empty-counted n x)
            (w.deref.ensures.value ∙ w.in_ok-item.ensures.text
            ∙ ap (λ (number : ℕ). item_text (item_of s c.args.listed (number + 1) n)) before.counted)
            w.in_ok-add_listed.ensures.added;
        counted = ap (λ (number : ℕ). number + 1) before.counted ∙ sym (count_below-member n x (sym w.if-contains.ensures.member));
        low = let low = before.low in omega (arith, low);
      })
      | else-contains w ↦ rw (w.text-is, w.number-is) (record {
        listed = rw (members_passed x n (sym w.if-contains.ensures.member)) before.listed;
        counted = before.counted ∙ sym (count_below-outside n x (sym w.if-contains.ensures.member));
        low = let low = before.low in omega (arith, low);
      })
    ]
