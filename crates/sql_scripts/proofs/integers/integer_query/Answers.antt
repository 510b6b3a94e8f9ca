-- What is left to prove of `integer_query`: its clause `text`.
use Rattle.std.proofs.Common.{◌≡◌, ℕ, List, ◌++◌, false, subst, ap, ◌∙◌}
use Rattle.std.specs.Prelude.{IfOk, codes}
use Rattle.sql_syntax.specs.Names.{quoted_name}
use Rattle.sql_syntax.specs.Printing.{selected_text, condition_text}
use Rattle.sql_syntax.specs.Syntax.{Condition, differs, as_text, as_integer, column}
use Rattle.sql_check.specs.Columns.{named_column}
use Rattle.sql_check.specs.Checks.{integer_query}
use Rattle.sql_scripts.specs.Listing.{integer_test}
use Rattle.sql_scripts.proofs.ListingLemmas.{one_item}
use Rattle.sql_scripts.proofs.integers.integer_query.Goals as goal

-- the test of a column
abbrev test_of : List ℕ → Condition
test_of name = differs (as_text (as_integer (column (named_column (codes "r") name)))) (as_text (column (named_column (codes "r") name)))

pub returns : goal.returns
unfolding integer_query
returns c =
    let name = c.args.name.now in
    let own = codes "r." ++ quoted_name name in
    let is_column = c.in_ok-column.ensures.text in
    let clause : c.deref-3.result.now ≡ codes " WHERE " ++ condition_text (test_of name) =
    c.deref-3.ensures.value ∙ c.in_ok-clause.ensures.text
    ∙ ap (λ (t : List ℕ). codes " WHERE " ++ integer_test t)
    (c.deref.ensures.value ∙ is_column) in
    record {
      text = subst (λ (t : List ℕ). IfOk c.selected_text.result (λ text. text.items ≡ t))
          (ap (λ (t : List ℕ). selected_text false t c.args.table.now (codes "r") c.deref-3.result.now) (c.deref-2.ensures.value ∙ is_column)
          ∙ ap (selected_text false own c.args.table.now (codes "r")) clause
          ∙ one_item c.args.table.now own (codes " WHERE " ++ condition_text (test_of name)))
          c.selected_text.ensures.text;
    }
