-- What is left to prove of `place_after`: its clause, within quotes and outside them, by `QuoteJumps`.
use Rattle.std.proofs.Common.{arith, ◌≡◌, false, ap, sym, ◌∙◌}
use Rattle.std.specs.List.{fold}
use Rattle.std.proofs.lemmas.Bool.Decides.{nat_tests}
use Rattle.csv_rows.specs.Quotes.{next_place, is_quoted}
use Rattle.csv_rows.specs.declared.quotes.Place.{Place}
use Rattle.csv_rows.proofs.QuoteJumps.{quoted_through, last_decides, unquoted}
use Rattle.csv_rows.proofs.quotes.place_after.Goals as goal

pub returns-in-QuotedField : goal.returns-in-QuotedField
returns-in-QuotedField c = record {
  place = quoted_through c.args.bytes.now c.requires.no_quote
      ∙ ap (λ (p : Place). fold next_place p c.args.bytes.now) (sym c.in-QuotedField.is);
}

pub returns-in_default-2 : goal.returns-in_default-2
returns-in_default-2 c = record {
  place = c.plain_place.ensures.place
      ∙ last_decides c.args.bytes.now c.args.place (unquoted c.args.place c.in_default.not-QuotedField) c.requires.no_quote
      (grind (arith, nat_tests, c.if-is_empty.false, c.is_empty.ensures));
}
