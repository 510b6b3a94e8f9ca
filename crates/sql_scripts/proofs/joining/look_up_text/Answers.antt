-- What is left to prove of `look_up_text`: its clause `text`, by the name of the table and the names of its key.
use Rattle.std.proofs.Common.{◌≡◌, ◌++◌, ◌∙◌, ℕ, List, ap, subst}
use Rattle.std.specs.Prelude.{IfOk, codes}
use Rattle.sql_syntax.specs.Names.{quoted_name}
use Rattle.sql_scripts.proofs.joining.look_up_text.Goals as goal

pub returns : goal.returns
returns c = record {
  text = subst (λ (t : List ℕ). IfOk c.by_columns.result (λ text. text.items ≡ t))
      (ap (λ (name : List ℕ). codes " LEFT JOIN " ++ name ++ codes " USING (" ++ c.deref-2.result.now ++ codes ")")
      (c.deref.ensures.value ∙ c.in_ok-name.ensures.text)
      ∙ ap (λ (names : List ℕ). codes " LEFT JOIN " ++ quoted_name c.args.table.now.name ++ codes " USING (" ++ names ++ codes ")")
      (c.deref-2.ensures.value ∙ c.in_ok-names.ensures.text))
      c.by_columns.ensures.text;
}
