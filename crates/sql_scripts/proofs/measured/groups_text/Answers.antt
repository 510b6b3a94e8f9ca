-- What is left to prove of `groups_text`: its clause `text`, by `groups_printed` and `class_keys`.
use Rattle.std.proofs.Common.{◌≡◌, List, ℕ, subst, ap, ◌∙◌}
use Rattle.std.specs.Prelude.{IfOk}
use Rattle.attr_sets.specs.Sets.{attributes}
use Rattle.sql_syntax.specs.Printing.{in_brackets}
use Rattle.sql_scripts.proofs.MeasuringLemmas.{groups_printed, class_keys}
use Rattle.sql_scripts.proofs.measured.groups_text.Goals as goal
use Rattle.std.proofs.Common.{true}

pub returns : goal.returns
returns c =
    let s = c.args.schema.now in
    let x = attributes c.args.lhs in
    record {
      text = subst (λ (t : List ℕ). IfOk c.in_brackets.result (λ text. text.items ≡ t))
          (ap (in_brackets true) (c.deref-3.ensures.value ∙ c.in_ok-query.ensures.text)
          ∙ groups_printed s c.args.table.now x (attributes c.args.both) c.deref.result.now c.deref-2.result.now
          (c.deref.ensures.value ∙ c.in_ok-classes.ensures.text) (c.deref-2.ensures.value ∙ c.in_ok-clause.ensures.text ∙ class_keys s x))
          c.in_brackets.ensures.text;
    }
