-- What the reader's values stand for, in the words of the grammar: for schema_reader. `Desk` does
-- not cite it.
use Rattle.std.specs.Prelude.{ℕ, ◌+◌, ◌<◌, ◌^◌, List, length, Option, Some, None}
use denote.Ref.{Bor}
use Rattle.attr_sets.specs.Sets.{attributes}
use Rattle.dep_model.specs.Deps.{dependencies_of}
use Rattle.schema_grammar.specs.Declarations.{Declarations}
use Rattle.schema_grammar.specs.Grammar.{Reached, start, left, left_empty, after_sign, right, right_empty}
use Rattle.schema_reader.specs.declared.draft.Draft.{Draft}
use Rattle.schema_reader.specs.declared.stage.Stage.{Stage}
use Rattle.schema_reader.specs.declared.stage.Stage.TheVariants as stage

abbrev pub declarations_of_draft : Draft → Declarations
declarations_of_draft d =
    record {
      naming = d.naming;
      nullable = attributes d.nullable;
      names = d.names.items;
      columns = d.columns.items;
      deps = dependencies_of d.deps.items;
      lines = d.lines.items;
    }

abbrev pub reached_of : Stage → Reached
reached_of stage.Start = start
reached_of (stage.Left x) = left (attributes x)
reached_of stage.LeftEmpty = left_empty
reached_of (stage.AfterSign s x) = after_sign s (attributes x)
reached_of (stage.Right s x y) = right s (attributes x) (attributes y)
reached_of (stage.RightEmpty s x) = right_empty s (attributes x)

-- there is room for their numbers
abbrev pub AreAtMostAll : ℕ → Option (Bor (List ℕ)) → Type 0
AreAtMostAll number None = number < 2 ^ 31
AreAtMostAll number (Some after) = (number + 1) + length after.now < 2 ^ 31
