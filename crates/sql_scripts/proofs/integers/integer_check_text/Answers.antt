-- What is left to prove of `integer_check_text`: its clause `text`, by `integer_line`.
use Rattle.std.proofs.Common.{◌≡◌, ℕ, List, subst, ◌∙◌}
use Rattle.std.specs.Prelude.{IfOk}
use Rattle.sql_scripts.proofs.ListingLemmas.{integer_line}
use Rattle.sql_scripts.proofs.integers.integer_check_text.Goals as goal

pub returns : goal.returns
returns c = record {
  text = subst (λ (t : List ℕ). IfOk c.line_of_query.result (λ text. text.items ≡ t))
      (integer_line c.args.naming c.args.table.now c.args.name.now c.deref.result.now c.deref-2.result.now
      (c.deref.ensures.value ∙ c.in_ok-comment.ensures.text) (c.deref-2.ensures.value ∙ c.in_ok-query.ensures.text))
      c.line_of_query.ensures.text;
}
