-- What is left to prove of `several_text`: its clause `text`, by whether the left side has an attribute.
use Rattle.std.proofs.Common.{◌≡◌, ◌++◌, ℕ, Bool, true, false, List, [], ◌∷◌, subst, sym, ap, ◌∙◌}
use Rattle.std.specs.Fmt.{decimal}
use Rattle.std.specs.Prelude.{IfOk, if◌then◌else◌, codes}
use Rattle.attr_sets.specs.Attributes.{Attributes}
use Rattle.attr_sets.specs.Sets.{attributes}
use Rattle.schema_model.specs.Schemas.{Schema}
use Rattle.sql_syntax.specs.Names.{comma_list}
use Rattle.sql_syntax.specs.Printing.{selected_text, item_text, group_text, source_text, query_text, in_brackets}
use Rattle.sql_check.specs.Columns.{columns_on, items_on}
use Rattle.sql_check.specs.Checks.{line_item, values_query, groups_of_several, count_of_several, several_query, has_members}
use Rattle.sql_scripts.proofs.ListingLemmas.{count_printed}
use Rattle.sql_scripts.proofs.several.several_text.Goals as goal

-- which of the two queries
several_is : (s : Schema) (t : List ℕ) (line : ℕ) (x w : Attributes) (b : Bool) → has_members s x ≡ b
    → query_text (if b then groups_of_several s t line x w else count_of_several s t line w) ≡ query_text (several_query s t line x w)
several_is s t line x w b is = ap (λ (b : Bool). query_text (if b then groups_of_several s t line x w else count_of_several s t line w)) (sym is)

grouped : (s : Schema) (t : List ℕ) (line : ℕ) (x w : Attributes) (source : List ℕ) → source ≡ source_text (values_query s t w)
    → selected_text false (comma_list item_text (line_item line ∷ items_on s (codes "d") x)) source (codes "d") (group_text (columns_on s (codes "d") x) ++ codes " HAVING COUNT(*) > 1")
    ≡ query_text (groups_of_several s t line x w)
unfolding groups_of_several
grouped s t line x w source is =
    ap (λ (z : List ℕ). selected_text false (comma_list item_text (line_item line ∷ items_on s (codes "d") x)) z (codes "d") (group_text (columns_on s (codes "d") x) ++ codes " HAVING COUNT(*) > 1")) is

counted : (s : Schema) (t : List ℕ) (line : ℕ) (w : Attributes) (source : List ℕ) → source ≡ source_text (values_query s t w)
    → selected_text false (decimal line ++ codes " AS line, " ++ codes "c.n") (in_brackets true (selected_text false (codes "COUNT(*) AS n") source (codes "d") [])) (codes "c") (codes " WHERE c.n > 1")
    ≡ query_text (count_of_several s t line w)
unfolding count_of_several
counted s t line w source is =
    ap (λ (z : List ℕ). selected_text false (decimal line ++ codes " AS line, " ++ codes "c.n") (in_brackets true (selected_text false (codes "COUNT(*) AS n") z (codes "d") [])) (codes "c") (codes " WHERE c.n > 1")) is
    ∙ ap (λ (items : List ℕ). selected_text false items (in_brackets true (selected_text false (codes "COUNT(*) AS n") (source_text (values_query s t w)) (codes "d") [])) (codes "c") (codes " WHERE c.n > 1"))
    (count_printed line)

pub returns-then-has_members : goal.returns-then-has_members
returns-then-has_members c =
    let s = c.args.schema.now in
    let t = c.args.table.now in
    record {
      text = subst (λ (t : List ℕ). IfOk c.groups_of_several.result (λ text. text.items ≡ t))
          (grouped s t c.args.line (attributes c.args.lhs) (attributes c.args.both) c.deref.result.now (c.deref.ensures.value ∙ c.in_ok-source.ensures.text)
          ∙ several_is s t c.args.line (attributes c.args.lhs) (attributes c.args.both) true (sym c.has_members.ensures.members ∙ c.if-has_members.true))
          c.groups_of_several.ensures.text;
    }

pub returns : goal.returns
returns c =
    let s = c.args.schema.now in
    let t = c.args.table.now in
    record {
      text = subst (λ (t : List ℕ). IfOk c.counted_text.result (λ text. text.items ≡ t))
          (counted s t c.args.line (attributes c.args.both) c.deref-else-has_members.result.now (c.deref-else-has_members.ensures.value ∙ c.in_ok-source.ensures.text)
          ∙ several_is s t c.args.line (attributes c.args.lhs) (attributes c.args.both) false (sym c.has_members.ensures.members ∙ c.if-has_members.false))
          c.counted_text.ensures.text;
    }
