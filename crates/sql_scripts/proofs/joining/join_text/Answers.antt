-- What is left to prove of `join_text`: what it answers, by `no_tables` and `some_tables`.
use Rattle.std.proofs.Common.{◌≡◌, ◌<◌, ◌∙◌, ◌++◌, ℕ, List, length, subst, ap, arith}
use Rattle.std.proofs.lemmas.Bool.Decides.{nat_tests}
use Rattle.std.specs.Prelude.{IfOk}
use Rattle.std.specs.List.{flat_map}
use Rattle.attr_sets.specs.Sets.{attributes}
use Rattle.sql_syntax.specs.Names.{quoted_name}
use Rattle.sql_syntax.specs.Printing.{joined_text, link_text}
use Rattle.sql_migrate.specs.Script.{links}
use Rattle.sql_migrate.specs.declared.joining.JoinedTable.{JoinedTable}
use Rattle.sql_scripts.proofs.ItemLemmas.{rest_slice}
use Rattle.sql_scripts.proofs.JoiningLemmas.{no_tables, some_tables}
use Rattle.sql_scripts.proofs.joining.join_text.Goals as goal

pub returns-then-is_empty : goal.returns-then-is_empty
returns-then-is_empty c =
    let s = c.args.schema.now in
    let tables = c.args.tables.now in
    let none : length tables ≡ 0 = grind (arith, nat_tests, c.if-is_empty.ensures) in
    record {
      text = λ optional are. subst (λ (t : List ℕ). IfOk c.joined_text.result (λ text. text.items ≡ t))
          (no_tables s tables optional c.deref.result.now c.args.look_ups.now none (c.deref.ensures.value ∙ c.in_ok-names.ensures.text) are)
          c.joined_text.ensures.text;
    }

pub returns : goal.returns
returns c =
    let s = c.args.schema.now in
    let tables = c.args.tables.now in
    let first = c.index-tables-0.result in
    let some : 0 < length tables = grind (arith, nat_tests, c.if-is_empty.ensures) in
    record {
      text = λ optional are. subst (λ (t : List ℕ). IfOk c.join_from.result (λ text. text.items ≡ t))
          (ap (λ (more : List JoinedTable). joined_text c.deref-2.result.now (quoted_name first.name)
          (flat_map link_text (links s (attributes first.scheme) more) ++ c.args.look_ups.now)) (rest_slice tables 1)
          ∙ some_tables s tables optional first c.deref-2.result.now c.args.look_ups.now some c.index-tables-0.is
          (c.deref-2.ensures.value ∙ c.in_ok-names.ensures.text) are)
          c.join_from.ensures.text;
    }
