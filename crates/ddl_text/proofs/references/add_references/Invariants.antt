-- What the loop of `add_references` keeps: `added` and `any_before`.
use Rattle.std.proofs.Common.{◌≡◌, ◌++◌, ◌||◌, take}
use Rattle.ddl_text.specs.Ddl.{references_to}
use Rattle.ddl_text.specs.declared.table.TableDesign.{TableDesign}
use Rattle.sql_syntax.specs.Statements.{element_lines}
use Rattle.sql_syntax.specs.Names.{is_not_empty}
use Rattle.ddl_text.proofs.references.add_references.Given as goal

-- the references so far
abbrev pub invariant-loop-j : goal.invariant-loop-j
invariant-loop-j l = record {
  added : (table : TableDesign) → l.text.items ≡ l.fn.text.items ++ element_lines l.fn.any_before
      (references_to l.schema l.tables table (take l.j-index l.refs));
  any_before : (table : TableDesign) → l.any_before ≡ (l.fn.any_before || is_not_empty (references_to l.schema l.tables table (take l.j-index l.refs)));
}
