-- What is left to prove of `without_mark`: its clause `text`, by `QuoteLemmas`.
use Rattle.std.proofs.Common.{arith, ◌≡◌, ◌-◌, true, length, drop, slice_index_or, ◌∙◌}
use Rattle.std.proofs.lemmas.List.{length-drop, take_all}
use Rattle.std.proofs.lemmas.Bool.Decides.{nat_tests}
use Rattle.csv.specs.Reading.{is_bom}
use Rattle.csv_rows.proofs.QuoteLemmas.{mark_cut, no_mark_short, no_mark_there}
use Rattle.csv_rows.proofs.quotes.without_mark.Goals.{else-text-ge3-via-then-text-ge3+then-text+then-text-2+else-text-3, else-text-ge3-via-then-text-ge3+then-text+else-text-2, else-text-ge3-via-then-text-ge3+else-text, else-text-ge3-via-else-text-ge3}
use Rattle.csv_rows.proofs.quotes.without_mark.Goals as goal

pub returns-then-text-3 : goal.returns-then-text-3
returns-then-text-3 c =
    let text = c.args.text.now in
    let is : is_bom (slice_index_or text 0 0) (slice_index_or text 1 0) (slice_index_or text 2 0) ≡ true =
    grind (arith, nat_tests, c.if-text.true, c.if-text-2.true, c.if-text-3.true) in
    record {
      text = take_all (length text - 3) (drop 3 text) (omega (arith, length-drop 3 text))
          ∙ mark_cut text (omega (arith, c.if-text-ge3.true)) is;
    }

pub returns-else-text-ge3 : goal.returns-else-text-ge3
returns-else-text-ge3 c = elim c.else-text-ge3.branch [
  | else-text-ge3-via-then-text-ge3+then-text+then-text-2+else-text-3 w ↦ record {
    text = no_mark_there c.args.text.now (omega (arith, w.if-text-ge3.true)) (grind (arith, nat_tests, w.if-text-3.false));
  }
  | else-text-ge3-via-then-text-ge3+then-text+else-text-2 w ↦ record {
    text = no_mark_there c.args.text.now (omega (arith, w.if-text-ge3.true)) (grind (arith, nat_tests, w.if-text-2.false));
  }
  | else-text-ge3-via-then-text-ge3+else-text w ↦ record {
    text = no_mark_there c.args.text.now (omega (arith, w.if-text-ge3.true)) (grind (arith, nat_tests, w.if-text.false));
  }
  | else-text-ge3-via-else-text-ge3 w ↦ record { text = no_mark_short c.args.text.now (omega (arith, w.if-text-ge3.false)) }
]
