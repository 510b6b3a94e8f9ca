-- What is left to prove of `counts_text`: its clause `text`, by `counts_listed`.
use Rattle.std.proofs.Common.{◌≡◌, ◌++◌, ℕ, Bool, List, false, sym, subst, ap, ◌∙◌, append-nil}
use Rattle.std.specs.Prelude.{IfOk, codes, if◌then◌else◌}
use Rattle.attr_sets.specs.Sets.{attributes}
use Rattle.sql_syntax.specs.Names.{comma_list, separator}
use Rattle.sql_syntax.specs.Printing.{selected_text, item_text, source_text, group_text}
use Rattle.sql_check.specs.Columns.{groups_made, columns_on}
use Rattle.sql_check.specs.Checks.{has_members, values_query, counts_query}
use Rattle.sql_scripts.specs.Listing.{counts_of}
use Rattle.sql_scripts.proofs.ListingLemmas.{counts_listed}
use Rattle.sql_scripts.proofs.unpaired.counts_text.Goals as goal

pub returns : goal.returns
unfolding counts_query
returns c =
    let s = c.args.schema.now in
    let x = attributes c.args.lhs in
    let counts = comma_list item_text (counts_of c.args.counted) in
    let keys = comma_list item_text (groups_made s x) in
    let source = source_text (values_query s c.args.table.now (attributes c.args.set)) in
    let all : c.add_listed.new.text.items ≡ comma_list item_text (groups_made s x ++ counts_of c.args.counted) =
    c.in_ok-add_listed.ensures.added
    ∙ ap (λ (t : List ℕ). t ++ (if c.has_members.result then separator ++ c.count_items.result.now else c.count_items.result.now)) c.in_ok-items.ensures.text
    ∙ ap (λ (b : Bool). keys ++ (if b then separator ++ c.count_items.result.now else c.count_items.result.now)) c.has_members.ensures.members
    ∙ ap (λ (t : List ℕ). keys ++ (if has_members s x then separator ++ t else t)) c.count_items.ensures.text
    ∙ sym (counts_listed s x c.args.counted) in
    let items = comma_list item_text (groups_made s x ++ counts_of c.args.counted) in
    record {
      text = subst (λ (t : List ℕ). IfOk c.selected_text.result (λ text. text.items ≡ t))
          (ap (λ (i : List ℕ). selected_text false i c.deref-2.result.now (codes "d") c.deref-3.result.now) (c.deref.ensures.value ∙ all)
          ∙ ap (λ (t : List ℕ). selected_text false items t (codes "d") c.deref-3.result.now) (c.deref-2.ensures.value ∙ c.in_ok-source.ensures.text)
          ∙ ap (selected_text false items source (codes "d")) (c.deref-3.ensures.value ∙ c.in_ok-clause.ensures.text ∙ sym (append-nil (group_text (columns_on s (codes "d") x)))))
          c.selected_text.ensures.text;
    }
