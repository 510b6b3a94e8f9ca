-- What is left to prove of `link_of`: what it answers, case by case, by `link_crosswise` and
-- `link_by_columns`.
use Rattle.std.proofs.Common.{List, ℕ, ◌≡◌, ◌++◌, sym, subst, ap, ◌∙◌}
use Rattle.std.proofs.lemmas.Bool.{true≢false}
use Rattle.std.specs.Prelude.{IfOk, codes}
use Rattle.attr_sets.specs.Attributes.{IsEmpty}
use Rattle.attr_sets.specs.Sets.{attributes}
use Rattle.sql_syntax.specs.Names.{quoted_name}
use Rattle.sql_scripts.proofs.JoiningLemmas.{link_crosswise, link_by_columns}
use Rattle.sql_scripts.proofs.joining.link_of.Goals as goal

pub returns-then-is_empty : goal.returns-then-is_empty
returns-then-is_empty c = record {
  text = subst (λ (t : List ℕ). IfOk c.crosswise.result (λ text. text.items ≡ t))
      (ap (λ (name : List ℕ). codes " CROSS JOIN " ++ name) (c.deref.ensures.value ∙ c.in_ok-table.ensures.text)
      ∙ link_crosswise c.args.schema.now (attributes c.args.shared) c.args.table.now (c.is_empty.ensures.empty.0 c.if-is_empty.true))
      c.crosswise.ensures.text;
}

pub returns : goal.returns
returns c = record {
  text = subst (λ (t : List ℕ). IfOk c.by_columns.result (λ text. text.items ≡ t))
      (ap (λ (name : List ℕ). codes " JOIN " ++ name ++ codes " USING (" ++ c.deref-else-is_empty-2.result.now ++ codes ")")
      (c.deref-else-is_empty.ensures.value ∙ c.in_ok-table.ensures.text)
      ∙ ap (λ (names : List ℕ). codes " JOIN " ++ quoted_name c.args.table.now.name ++ codes " USING (" ++ names ++ codes ")")
      (c.deref-else-is_empty-2.ensures.value ∙ c.in_ok-names_text.ensures.text)
      ∙ link_by_columns c.args.schema.now c.args.shared c.args.table.now
      (λ (empty : IsEmpty (attributes c.args.shared)). true≢false (sym (c.is_empty.ensures.empty.1 empty) ∙ c.if-is_empty.false)))
      c.by_columns.ensures.text;
}
