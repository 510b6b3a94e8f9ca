-- What is left to prove of `change_text`: its clause `text`, by `change_printed`.
use Rattle.std.proofs.Common.{◌≡◌, List, ℕ, subst, ◌∙◌}
use Rattle.std.specs.Prelude.{IfOk}
use Rattle.attr_sets.specs.Sets.{attributes}
use Rattle.sql_scripts.proofs.MeasuringLemmas.{change_printed}
use Rattle.sql_scripts.proofs.measured.change_text.Goals as goal

pub returns : goal.returns
returns c = record {
  text = subst (λ (t : List ℕ). IfOk c.totals_text.result (λ text. text.items ≡ t))
      (change_printed c.args.schema.now c.args.table.now (attributes c.args.lhs) (attributes c.args.both) c.deref.result.now (c.deref.ensures.value ∙ c.in_ok-groups.ensures.text))
      c.totals_text.ensures.text;
}
