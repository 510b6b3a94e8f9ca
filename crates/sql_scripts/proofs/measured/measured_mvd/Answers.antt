-- What is left to prove of `measured_mvd`: its clause `text`, by `measured_mvd_rule`, `unmeasured_mvd` and
-- `unmeasured_all`.
use Rattle.std.proofs.Common.{List, ℕ, ◌≡◌, ◌++◌, sym, subst, ap, ◌∙◌}
use Rattle.std.specs.Prelude.{IfOk, codes}
use Rattle.attr_sets.specs.Attributes.{below}
use Rattle.attr_sets.specs.Sets.{attributes}
use Rattle.sql_scripts.proofs.MeasuringLemmas.{measured_mvd_rule, unmeasured_mvd, unmeasured_all}
use Rattle.sql_scripts.proofs.measured.measured_mvd.Goals as goal

pub returns-then-is_subset : goal.returns-then-is_subset
returns-then-is_subset c = record {
  text = subst (λ (t : List ℕ). IfOk c.holds_always.result (λ text. text.items ≡ t))
      (unmeasured_mvd c.args.schema.now c.args.table.now (attributes c.args.lhs) (attributes c.args.rhs) (sym c.is_subset.ensures.test ∙ c.if-is_subset.true))
      c.holds_always.ensures.text;
}

pub returns-then-is_subset-2 : goal.returns-then-is_subset-2
returns-then-is_subset-2 c =
    let s = c.args.schema.now in
    record {
      text = subst (λ (t : List ℕ). IfOk c.holds_always-then-is_subset-2.result (λ text. text.items ≡ t))
          (unmeasured_all s c.args.table.now (attributes c.args.lhs) (attributes c.args.rhs) (attributes c.full-universe.result) (attributes c.union-both.result)
          (c.full-universe.ensures.members ∙ ap below c.width.ensures.count) c.union-both.ensures.members
          (sym c.is_subset.ensures.test ∙ c.if-is_subset.false) (sym c.is_subset-2.ensures.test ∙ c.if-is_subset-2.true))
          c.holds_always-then-is_subset-2.ensures.text;
    }

pub returns : goal.returns
returns c =
    let s = c.args.schema.now in
    record {
      text = subst (λ (t : List ℕ). IfOk c.line_of_query.result (λ text. text.items ≡ t))
          (ap (λ (q : List ℕ). codes "\n" ++ (q ++ codes ";\n")) (c.deref.ensures.value ∙ c.in_ok-query.ensures.text)
          ∙ measured_mvd_rule s c.args.table.now (attributes c.args.lhs) (attributes c.args.rhs) (attributes c.full-universe.result) (attributes c.union-both.result)
          (attributes c.difference-left.result) (attributes c.difference-rest.result)
          (c.full-universe.ensures.members ∙ ap below c.width.ensures.count) c.union-both.ensures.members
          c.difference-left.ensures.members c.difference-rest.ensures.members
          (sym c.is_subset.ensures.test ∙ c.if-is_subset.false) (sym c.is_subset-2.ensures.test ∙ c.if-is_subset-2.false))
          c.line_of_query.ensures.text;
    }
