-- What is left to prove of `tables_response`: that keys lie within their schemes, and that the text speaks of the
-- rows that go along with the tables.
use Rattle.std.proofs.Common.{List, ℕ, ap, ◌∙◌}
use Rattle.schema_model.specs.Schemas.{naming_of}
use Rattle.dep_model.specs.Tuples.{Relation}
use Rattle.schema_model.specs.declared.naming.Naming.{Naming}
use Rattle.named_tables.specs.Tables.{table_values}
use Rattle.desk_responses.specs.ResponseValues.{yes_with_tables}
use Rattle.desk_tables.specs.Migrations.{migrated_text}
use Rattle.desk_tables.proofs.TidyLemmas.{keys_within}
use Rattle.desk_tables.proofs.migration.tables_response.Goals as goal

pub tables-requires-clause-keys_within : goal.tables-requires-clause-keys_within
tables-requires-clause-keys_within c = keys_within c.args.schema.now c.args.design.now c.requires.keys

pub returns : goal.returns
returns c =
    let tables = table_values c.in_ok-tables.tables in
    record {
      response = λ plan keyed. (
        tables,
        record {
          design = c.args.design.now;
          keyed = keyed;
          projections = c.in_ok-tables.ensures.tables;
          reads_back = λ can. c.in_ok-tables.ensures.reads_back c.requires.legal can c.requires.tidy;
          joins = λ filled. c.in_ok-tables.ensures.joins c.requires.legal c.requires.lossless filled;
        },
        c.with_tables.ensures.gives
            ∙ ap (λ (text : List ℕ). yes_with_tables text tables)
            (c.in_ok-text.ensures.text
            ∙ ap (λ (naming : Naming). migrated_text naming c.in_ok-tables.tables.rows tables) c.naming.ensures.naming
            ∙ ap (λ (rows : Relation). migrated_text (naming_of c.args.schema.now) rows tables) c.in_ok-tables.ensures.rows),
      );
    }
