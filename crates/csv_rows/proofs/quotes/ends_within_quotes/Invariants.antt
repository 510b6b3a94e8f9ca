-- What the loop of `ends_within_quotes` keeps: what the bytes to come say, from the place at hand, is what the text says.
use Rattle.std.proofs.Common.{◌≡◌, length}
use Rattle.std.specs.List.{fold}
use Rattle.csv_rows.specs.Quotes.{next_place}
use Rattle.csv_rows.specs.declared.quotes.Place.TheVariants as at
use Rattle.csv_rows.proofs.quotes.ends_within_quotes.Given as goal

abbrev pub invariant-loop-quote : goal.invariant-loop-quote
invariant-loop-quote l = record {
  place : fold next_place l.place l.rest ≡ fold next_place at.BetweenRecords l.fn.text;
}

abbrev pub decreases-loop-quote : goal.decreases-loop-quote
decreases-loop-quote l = length l.rest
