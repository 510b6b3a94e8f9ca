-- What is left to prove of `text_columns_alone`: what `with_columns` requires, and its clause `texts`.
use Rattle.std.proofs.Common.{ℕ, ap, ◌∙◌}
use Rattle.std.specs.Prelude.{replicate}
use Rattle.attr_sets.specs.Sets.{attributes}
use Rattle.dep_model.specs.Deps.{dependencies_of}
use Rattle.schema_model.specs.declared.column_type.ColumnType.TheVariants.{Text}
use Rattle.desk_measures.proofs.TextLemmas.{texts_are_declared, texts_are_schema}
use Rattle.desk_measures.proofs.untyped.text_columns_alone.Goals as goal

pub with_columns-requires-clause-schema : goal.with_columns-requires-clause-schema
with_columns-requires-clause-schema c =
    texts_are_schema c.args.schema.now _ _ _ c.in_ok-names.ensures.names (c.in_ok-deps.ensures.items ∙ c.deps.ensures.deps)
    c.in_ok-lines.ensures.lines

pub with_columns-requires-clause-columns : goal.with_columns-requires-clause-columns
with_columns-requires-clause-columns c =
    texts_are_declared c.args.schema.now _ _ _ (attributes c.nullable.result) c.width.result c.naming.ensures.naming
    c.in_ok-names.ensures.names c.in_ok-columns.ensures.columns c.width.ensures.count c.nullable.ensures.nullable

pub returns : goal.returns
returns c = record {
  texts = record {
    naming = c.with_columns.ensures.naming ∙ c.naming.ensures.naming;
    names = c.with_columns.ensures.names ∙ c.in_ok-names.ensures.names;
    types = c.with_columns.ensures.columns ∙ c.in_ok-columns.ensures.columns
        ∙ ap (λ (n : ℕ). replicate n Text) c.width.ensures.count;
    nullable = c.with_columns.ensures.nullable ∙ c.nullable.ensures.nullable;
    theory = ap dependencies_of
        (c.with_columns.ensures.deps ∙ c.in_ok-deps.ensures.items ∙ c.deps.ensures.deps);
    lines = c.with_columns.ensures.lines ∙ c.in_ok-lines.ensures.lines;
  };
}
