-- What is left to prove of `measured_fd`: its clause `text`, by `measured_fd_rule` and `unmeasured_fd`.
use Rattle.std.proofs.Common.{List, ℕ, ◌≡◌, ◌++◌, sym, subst, ap, ◌∙◌}
use Rattle.std.specs.Prelude.{IfOk, codes}
use Rattle.attr_sets.specs.Sets.{attributes}
use Rattle.sql_scripts.proofs.MeasuringLemmas.{measured_fd_rule, unmeasured_fd}
use Rattle.sql_scripts.proofs.measured.measured_fd.Goals as goal

pub returns-then-is_subset : goal.returns-then-is_subset
returns-then-is_subset c = record {
  text = subst (λ (t : List ℕ). IfOk c.holds_always.result (λ text. text.items ≡ t))
      (unmeasured_fd c.args.schema.now c.args.table.now (attributes c.args.lhs) (attributes c.args.rhs) (sym c.is_subset.ensures.test ∙ c.if-is_subset.true))
      c.holds_always.ensures.text;
}

pub returns : goal.returns
returns c = record {
  text = subst (λ (t : List ℕ). IfOk c.line_of_query.result (λ text. text.items ≡ t))
      (ap (λ (q : List ℕ). codes "\n" ++ (q ++ codes ";\n")) (c.deref.ensures.value ∙ c.in_ok-query.ensures.text)
      ∙ measured_fd_rule c.args.schema.now c.args.table.now (attributes c.args.lhs) (attributes c.args.rhs) (attributes c.union.result)
      (sym c.is_subset.ensures.test ∙ c.if-is_subset.false) c.union.ensures.members)
      c.line_of_query.ensures.text;
}
