-- What is left to prove of `unpaired_text`: its clause `text`, by whether the left side has an attribute.
use Rattle.std.proofs.Common.{◌≡◌, ◌++◌, ℕ, Bool, true, false, List, [], ◌∷◌, subst, sym, ap, ◌∙◌}
use Rattle.std.specs.Fmt.{decimal}
use Rattle.std.specs.Prelude.{IfOk, if◌then◌else◌, codes}
use Rattle.attr_sets.specs.Attributes.{Attributes}
use Rattle.attr_sets.specs.Sets.{attributes}
use Rattle.schema_model.specs.Schemas.{Schema}
use Rattle.sql_syntax.specs.Names.{comma_list}
use Rattle.sql_syntax.specs.Printing.{selected_text, item_text, group_text, source_text, query_text, in_brackets}
use Rattle.sql_check.specs.Columns.{groups_on, groups_shown}
use Rattle.sql_check.specs.Checks.{line_item, three_counts, groups_of_unpaired, count_of_unpaired, unpaired_query, has_members}
use Rattle.sql_scripts.proofs.ListingLemmas.{count_printed}
use Rattle.sql_scripts.proofs.unpaired.unpaired_text.Goals as goal

-- which of the two queries
unpaired_is : (s : Schema) (t : List ℕ) (line : ℕ) (x y z : Attributes) (b : Bool) → has_members s x ≡ b
    → query_text (if b then groups_of_unpaired s t line x y z else count_of_unpaired s t line x y z) ≡ query_text (unpaired_query s t line x y z)
unpaired_is s t line x y z b is =
    ap (λ (b : Bool). query_text (if b then groups_of_unpaired s t line x y z else count_of_unpaired s t line x y z)) (sym is)

grouped : (s : Schema) (t : List ℕ) (line : ℕ) (x y z : Attributes) (source : List ℕ) → source ≡ source_text (three_counts s t x y z)
    → selected_text false (comma_list item_text (line_item line ∷ groups_shown s x)) source (codes "e") (group_text (groups_on s x) ++ codes " HAVING SUM(e.y) * SUM(e.z) <> SUM(e.n)")
    ≡ query_text (groups_of_unpaired s t line x y z)
unfolding groups_of_unpaired
grouped s t line x y z source is =
    ap (λ (from : List ℕ). selected_text false (comma_list item_text (line_item line ∷ groups_shown s x)) from (codes "e") (group_text (groups_on s x) ++ codes " HAVING SUM(e.y) * SUM(e.z) <> SUM(e.n)")) is

abbrev product : List ℕ
product = codes "SUM(e.y) * SUM(e.z) - SUM(e.n) AS n"

counted : (s : Schema) (t : List ℕ) (line : ℕ) (x y z : Attributes) (source : List ℕ) → source ≡ source_text (three_counts s t x y z)
    → selected_text false (decimal line ++ codes " AS line, " ++ codes "c.n") (in_brackets true (selected_text false product source (codes "e") [])) (codes "c") (codes " WHERE c.n <> 0")
    ≡ query_text (count_of_unpaired s t line x y z)
unfolding count_of_unpaired
counted s t line x y z source is =
    ap (λ (from : List ℕ). selected_text false (decimal line ++ codes " AS line, " ++ codes "c.n") (in_brackets true (selected_text false product from (codes "e") [])) (codes "c") (codes " WHERE c.n <> 0")) is
    ∙ ap (λ (items : List ℕ). selected_text false items (in_brackets true (selected_text false product (source_text (three_counts s t x y z)) (codes "e") [])) (codes "c") (codes " WHERE c.n <> 0"))
    (count_printed line)

pub returns-then-has_members : goal.returns-then-has_members
returns-then-has_members c =
    let s = c.args.schema.now in
    let t = c.args.table.now in
    let x = attributes c.args.lhs in
    let y = attributes c.args.first in
    let z = attributes c.args.second in
    record {
      text = subst (λ (t : List ℕ). IfOk c.groups_of_unpaired.result (λ text. text.items ≡ t))
          (grouped s t c.args.line x y z c.deref.result.now (c.deref.ensures.value ∙ c.in_ok-source.ensures.text)
          ∙ unpaired_is s t c.args.line x y z true (sym c.has_members.ensures.members ∙ c.if-has_members.true))
          c.groups_of_unpaired.ensures.text;
    }

pub returns : goal.returns
returns c =
    let s = c.args.schema.now in
    let t = c.args.table.now in
    let x = attributes c.args.lhs in
    let y = attributes c.args.first in
    let z = attributes c.args.second in
    record {
      text = subst (λ (t : List ℕ). IfOk c.counted_text.result (λ text. text.items ≡ t))
          (counted s t c.args.line x y z c.deref-else-has_members.result.now (c.deref-else-has_members.ensures.value ∙ c.in_ok-source.ensures.text)
          ∙ unpaired_is s t c.args.line x y z false (sym c.has_members.ensures.members ∙ c.if-has_members.false))
          c.counted_text.ensures.text;
    }
