-- What the loop of `links_text` keeps: `text` and `seen`.
use Rattle.std.proofs.Common.{◌≡◌, take}
use Rattle.std.specs.List.{flat_map}
use Rattle.attr_sets.specs.Sets.{attributes}
use Rattle.sql_syntax.specs.Printing.{link_text}
use Rattle.sql_migrate.specs.Script.{links}
use Rattle.sql_scripts.proofs.JoiningLemmas.{seen_with}
use Rattle.sql_scripts.proofs.joining.links_text.Given as goal

-- the tables so far
abbrev pub invariant-loop-table : goal.invariant-loop-table
invariant-loop-table l = record {
  text : l.text.items ≡ flat_map link_text (links l.schema (attributes l.fn.scheme) (take l.table-index l.tables));
  seen : attributes l.seen ≡ seen_with (attributes l.fn.scheme) (take l.table-index l.tables);
}
