-- What is left to prove of `add_elements`: its clause `added`, by `elements_added`.
use Rattle.std.proofs.Common.{◌≡◌, ◌++◌, List, ℕ, subst}
use Rattle.std.specs.Prelude.{OnOk}
use Rattle.ddl_text.specs.Ddl.{columns_made, keys_made, references_made, references_to}
use Rattle.sql_syntax.specs.Statements.{element_lines}
use Rattle.ddl_text.proofs.TextLemmas.{elements_added}
use Rattle.ddl_text.proofs.elements.add_elements.Goals as goal

pub returns : goal.returns
returns c =
    let s = c.args.schema.now in
    let tables = c.args.tables.now in
    let table = c.args.table.now in
    let one = c.in_ok-any_before.any_before in
    let two = c.in_ok-any_before-2.any_before in
    record {
      added = elements_added c.add_references.result (columns_made s table)
          (keys_made s table) (references_made s tables table) one two
          c.args.text.now.items c.add_columns.new.text.items c.add_keys.new.text.items c.add_references.new.text.items
          c.in_ok-any_before.ensures.added c.in_ok-any_before.ensures.any_written c.in_ok-any_before-2.ensures.added c.in_ok-any_before-2.ensures.any_written
          (subst (λ (refs : List ℕ). OnOk c.add_references.result
          (c.add_references.new.text.items ≡ c.add_keys.new.text.items ++ element_lines two
          (references_to s tables table refs)))
          c.deref.ensures.value (c.add_references.ensures.added table));
    }
