-- What is left to prove of `lack_text`: its clause `text`, by `lack_printed`.
use Rattle.std.proofs.Common.{◌≡◌, List, ℕ, subst, ◌∙◌}
use Rattle.std.specs.Prelude.{IfOk}
use Rattle.attr_sets.specs.Sets.{attributes}
use Rattle.sql_scripts.proofs.MeasuringLemmas.{lack_printed}
use Rattle.sql_scripts.proofs.measured.lack_text.Goals as goal

pub returns : goal.returns
returns c = record {
  text = subst (λ (t : List ℕ). IfOk c.totals_text.result (λ text. text.items ≡ t))
      (lack_printed c.args.schema.now c.args.table.now (attributes c.args.lhs) (attributes c.args.first) (attributes c.args.second) c.deref.result.now
      (c.deref.ensures.value ∙ c.in_ok-groups.ensures.text))
      c.totals_text.ensures.text;
}
