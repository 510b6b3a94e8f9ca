-- What is left to prove of `ends_within_quotes`: that its loop keeps its invariant, and that none of the bytes before a
-- quote and after the last one is a quote, by `QuoteJumps`.
use Rattle.std.proofs.Common.{ap, ◌∙◌}
use Rattle.csv_rows.specs.Quotes.{next_place}
use Rattle.csv_rows.specs.declared.quotes.Place.{Place}
use Rattle.csv_rows.proofs.QuoteJumps.{no_quote_in, quote_taken}
use Rattle.csv_rows.proofs.quotes.ends_within_quotes.Goals as goal

pub loop-quote-preserved : goal.loop-quote-preserved
loop-quote-preserved c = record {
  place = quote_taken c.loop-quote.rest.now c.split_at.result.0.now c.split_at.result.1.now c.in-Some.quote c.loop-quote.place
      c.next_place-place.result c.in-Some.ensures.0.high c.in-Some.ensures.1 c.split_at.ensures.front c.split_at.ensures.back
      (c.next_place-place.ensures.place ∙ ap (λ (p : Place). next_place p 34) c.place_after.ensures.place)
      ∙ c.loop-quote.invariant.place;
}

pub place_after-requires-2 : goal.place_after-requires-2
place_after-requires-2 c = record { no_quote = no_quote_in c.loop-quote.rest.now c.in_default.ensures }
