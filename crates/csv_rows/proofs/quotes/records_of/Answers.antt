-- What is left to prove of `records_of`: its clause, and that its loop keeps its invariant, by
-- `QuoteLemmas`.
use Rattle.std.proofs.Common.{arith, ◌≡◌, sym, ap, ◌∙◌}
use Rattle.csv_rows.specs.declared.quotes.Place.{Place}
use Rattle.csv_rows.proofs.QuoteLemmas.{begins, count_of, byte_taken, nothing_begun, records_begun-is}
use Rattle.csv_rows.proofs.quotes.records_of.Goals.{then-begins_record, else-begins_record}
use Rattle.csv_rows.proofs.quotes.records_of.Goals as goal

pub loop-byte-preserved : goal.loop-byte-preserved
loop-byte-preserved c = elim c.if-begins_record.branch [
  | then-begins_record w ↦
      let step = c.next_place-next.ensures.place in
      let one : count_of (begins c.loop-byte.place c.if-begins_record.place) ≡ 1 =
      ap (λ (q : Place). count_of (begins c.loop-byte.place q)) w.place-is
      ∙ ap count_of (sym c.begins_record.ensures.begins ∙ w.if-begins_record.true) in
      let begun = byte_taken c.args.text.now c.loop-byte.byte-index 0 c.loop-byte.place c.if-begins_record.place
      c.loop-byte.records c.if-begins_record.records c.loop-byte-test.true (w.place-is ∙ step) (omega (arith, one, w.records-is)) in
      record {
        few = omega (arith, c.loop-byte.invariant.few, w.records-is);
        begun = begun ∙ c.loop-byte.invariant.begun;
      }
  | else-begins_record w ↦
      let step = c.next_place-next.ensures.place in
      let none : count_of (begins c.loop-byte.place c.if-begins_record.place) ≡ 0 =
      ap (λ (q : Place). count_of (begins c.loop-byte.place q)) w.place-is
      ∙ ap count_of (sym c.begins_record.ensures.begins ∙ w.if-begins_record.false) in
      let begun = byte_taken c.args.text.now c.loop-byte.byte-index 0 c.loop-byte.place c.if-begins_record.place
      c.loop-byte.records c.if-begins_record.records c.loop-byte-test.true (w.place-is ∙ step) (omega (arith, none, w.records-is)) in
      record {
        few = omega (arith, c.loop-byte.invariant.few, w.records-is);
        begun = begun ∙ c.loop-byte.invariant.begun;
      }
]

pub returns : goal.returns
returns c = record {
  records = sym (nothing_begun c.loop-byte.place c.args.text.now c.loop-byte.byte-index c.loop-byte.records (omega (arith, c.loop-byte-test.false)))
      ∙ c.loop-byte.invariant.begun ∙ records_begun-is c.args.text.now;
}
