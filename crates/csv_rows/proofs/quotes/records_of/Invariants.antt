-- What the loop of `records_of` keeps: with the records that the bytes to come begin, those of the text are counted.
use Rattle.std.proofs.Common.{◌≡◌, ◌+◌, ◌≤◌, drop}
use Rattle.csv_rows.specs.declared.quotes.Place.TheVariants as at
use Rattle.csv_rows.proofs.QuoteLemmas.{records_begun}
use Rattle.csv_rows.proofs.quotes.records_of.Given as goal

abbrev pub invariant-loop-byte : goal.invariant-loop-byte
invariant-loop-byte l = record {
  few : l.records ≤ l.byte-index;
  begun : l.records + records_begun l.place (drop l.byte-index l.text) ≡ records_begun at.BetweenRecords l.text;
}
