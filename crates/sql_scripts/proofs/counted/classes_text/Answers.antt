-- What is left to prove of `classes_text`: its clause `text`, by `classes_printed`.
use Rattle.std.proofs.Common.{◌≡◌, List, ℕ, true, subst, ap, ◌∙◌}
use Rattle.std.specs.Prelude.{IfOk}
use Rattle.attr_sets.specs.Sets.{attributes}
use Rattle.sql_syntax.specs.Printing.{in_brackets}
use Rattle.sql_scripts.proofs.MeasuringLemmas.{classes_printed}
use Rattle.sql_scripts.proofs.counted.classes_text.Goals as goal

pub returns : goal.returns
returns c = record {
  text = subst (λ (t : List ℕ). IfOk c.in_brackets.result (λ text. text.items ≡ t))
      (ap (in_brackets true) (c.deref-2.ensures.value ∙ c.in_ok-query.ensures.text)
      ∙ classes_printed c.args.schema.now c.args.table.now (attributes c.args.lhs) (attributes c.args.both) c.deref.result.now (c.deref.ensures.value ∙ c.in_ok-source.ensures.text))
      c.in_brackets.ensures.text;
}
