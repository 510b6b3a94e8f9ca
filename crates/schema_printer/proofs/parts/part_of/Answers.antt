-- What is left to prove of `part_of`: that the parts make a schema.
use Rattle.std.proofs.Common.{◌≡◌, ◌<◌, ◌≤◌, ℕ, true, false, List, [], length, sym, ap, subst, ◌∙◌, arith}
use Rattle.std.specs.Prelude.{All, AllPairs, Contains, IsTrue}
use Rattle.attr_sets.specs.Attributes.{IsSubset, IsEmpty, below, none}
use Rattle.attr_sets.specs.Sets.{attributes}
use Rattle.schema_printer.proofs.PartLemmas.{part_is_schema, part_is_declared}
use Rattle.schema_printer.proofs.parts.part_of.Goals as goal

pub with_columns-requires-clause-schema : goal.with_columns-requires-clause-schema
with_columns-requires-clause-schema c =
    part_is_schema c.args.schema.now (attributes c.args.set) c.in_ok-names.names.items _ _ c.in_ok-names.ensures.names c.requires.within c.requires.not_empty c.new.ensures.items c.new-2.ensures.items

pub with_columns-requires-clause-columns : goal.with_columns-requires-clause-columns
with_columns-requires-clause-columns c =
    part_is_declared c.args.schema.now (attributes c.args.set) c.in_ok-names.names.items c.in_ok-columns.columns.items (attributes c.empty.result) c.naming.result
    c.in_ok-names.ensures.names c.in_ok-columns.ensures.columns c.in_ok-columns.ensures.each c.empty.ensures.members c.naming.ensures.naming
