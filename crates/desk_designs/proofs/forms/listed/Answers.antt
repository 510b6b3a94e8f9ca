-- What is left to prove of `listed`: its clause, by `tested_testable`.
use Rattle.std.proofs.Common.{inl}
use Rattle.desk_designs.proofs.TestedLemmas.{tested_testable}
use Rattle.desk_designs.proofs.forms.listed.Goals as goal

pub returns : goal.returns
returns c = record {
  lists = inl (tested_testable c.args.schema.now c.args.found.now c.requires.tested, (c.in_ok-text.text.items, c.in_ok-text.ensures.texts, c.with_text.ensures.says));
}
