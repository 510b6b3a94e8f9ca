-- What is left to prove of `pairs_text`: its clause `text`, by `pairs_printed` and `group_keys`.
use Rattle.std.proofs.Common.{◌≡◌, List, ℕ, subst, ap, ◌∙◌}
use Rattle.std.specs.Prelude.{IfOk}
use Rattle.attr_sets.specs.Sets.{attributes}
use Rattle.sql_syntax.specs.Printing.{in_brackets}
use Rattle.sql_scripts.proofs.MeasuringLemmas.{pairs_printed, group_keys}
use Rattle.sql_scripts.proofs.measured.pairs_text.Goals as goal
use Rattle.std.proofs.Common.{true}

pub returns : goal.returns
returns c =
    let s = c.args.schema.now in
    let x = attributes c.args.lhs in
    record {
      text = subst (λ (t : List ℕ). IfOk c.in_brackets.result (λ text. text.items ≡ t))
          (ap (in_brackets true) (c.deref-3.ensures.value ∙ c.in_ok-query.ensures.text)
          ∙ pairs_printed s c.args.table.now x (attributes c.args.first) (attributes c.args.second) c.deref.result.now c.deref-2.result.now
          (c.deref.ensures.value ∙ c.in_ok-counts.ensures.text) (c.deref-2.ensures.value ∙ c.in_ok-clause.ensures.text ∙ group_keys s x))
          c.in_brackets.ensures.text;
    }
