-- What is left to prove of `schema_of_columns`: what `with_columns` requires, by `header_schema`.
use Rattle.std.proofs.Common.{arith}
use Rattle.attr_sets.specs.declared.set.TheConstants.{MOST_ATTRIBUTES}
use Rattle.headed_rows.proofs.HeaderLemmas.{header_schema}
use Rattle.desk_imports.proofs.columns.schema_of_columns.Goals as goal

pub with_columns-requires-clause-schema : goal.with_columns-requires-clause-schema
with_columns-requires-clause-schema c =
    header_schema MOST_ATTRIBUTES c.args.headed.names.items _ _ (omega arith) c.requires.header c.requires.any_name
    c.new-deps.ensures.items c.new-lines.ensures.items
