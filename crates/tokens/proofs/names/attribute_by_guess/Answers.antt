-- What is left to prove of `attribute_by_guess`: what it answers in one case, by `named_here`.
use Rattle.std.proofs.Common.{◌≡◌, ◌<◌, length, ◌∙◌, sym, ap, arith}
use Rattle.std.specs.Str.{str_to_ascii_lowercase}
use Rattle.schema_model.specs.Schemas.{names_of}
use Rattle.tokens.proofs.NameLemmas.{named_here}
use Rattle.tokens.proofs.names.attribute_by_guess.Goals as goal

pub returns-then-is_spelled : goal.returns-then-is_spelled
returns-then-is_spelled c = record {
  attribute = let inside : c.args.guess < length (names_of c.args.schema.now) = omega (arith, c.if-guess-width.true, c.width.ensures.count) in
      let lower : str_to_ascii_lowercase c.name.result.now ≡ str_to_ascii_lowercase c.args.word.now = sym (ap str_to_ascii_lowercase c.bytes.ensures.value) ∙ c.is_spelled.ensures.same.0 c.if-is_spelled.true in
      sym (named_here (names_of c.args.schema.now) c.name.result.now c.args.word.now c.args.guess c.args.schema.now.valid.names_differ inside c.name.ensures.name lower);
}
