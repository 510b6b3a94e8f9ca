-- What is left to prove of `schema_of_columns`: what `with_columns` requires, by `header_schema` and `headed_declared`.
use Rattle.std.proofs.Common.{arith, ap, rules, ◌∙◌}
use Rattle.row_store.specs.declared.limits.TheConstants.{WIDEST_HEADED}
use Rattle.headed_rows.proofs.HeaderLemmas.{header_schema}
use Rattle.headed_rows.specs.Headers.{naming_under}
use Rattle.desk_discovery.proofs.RuleLemmas.{headed_declared}
use Rattle.desk_discovery.proofs.discovering.schema_of_columns.Goals as goal

pub with_columns-requires-clause-schema : goal.with_columns-requires-clause-schema
with_columns-requires-clause-schema c =
    header_schema WIDEST_HEADED c.args.names.items _ _ (omega arith) c.requires.header c.requires.any_name
    c.new-deps.ensures.items c.new-lines.ensures.items

pub with_columns-requires-clause-columns : goal.with_columns-requires-clause-columns
with_columns-requires-clause-columns c =
    headed_declared c.args.names.items c.naming_under-naming.result c.in_ok-columns.columns.items _ c.len.result
    (c.naming_under-naming.ensures.naming ∙ ap naming_under c.deref.ensures.value) c.in_ok-columns.ensures.columns (search rules)
    c.empty-nullable.ensures.members
