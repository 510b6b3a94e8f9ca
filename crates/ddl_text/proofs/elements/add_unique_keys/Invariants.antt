-- What the loop of `add_unique_keys` keeps: `added` and `any_before`.
use Rattle.std.proofs.Common.{◌≡◌, ◌++◌, ◌||◌, take}
use Rattle.dep_model.specs.Plans.{schemes_of}
use Rattle.ddl_text.specs.Ddl.{uniques_made}
use Rattle.sql_syntax.specs.Statements.{element_lines}
use Rattle.sql_syntax.specs.Names.{is_not_empty}
use Rattle.ddl_text.proofs.elements.add_unique_keys.Given as goal

-- the keys so far
abbrev pub invariant-loop-key : goal.invariant-loop-key
invariant-loop-key l = record {
  added : l.text.items ≡ l.fn.text.items ++ element_lines l.fn.any_before
      (uniques_made l.schema (schemes_of (take l.key-index l.keys)));
  any_before : l.any_before ≡ (l.fn.any_before || is_not_empty (uniques_made l.schema (schemes_of (take l.key-index l.keys))));
}
