-- What a schema has whose scripts are read back from their texts: for the laws of what is printed. `Desk` does not cite
-- it.
use Rattle.std.specs.Prelude.{Bool, true, not, IsTrue, IsSome, All, codes}
use Rattle.schema_model.specs.declared.column_type.ColumnType.{ColumnType}
use Rattle.schema_model.specs.declared.column_type.ColumnType.TheVariants.{Other}
use Rattle.schema_model.specs.Schemas.{Schema, width_of, types_of}
use Rattle.relation_queries.specs.Queries.{breaches_of}
use Rattle.sql_check.specs.Checks.{rules_of}
use Rattle.script_texts.specs.Queries.{is_number}
use Rattle.script_texts.specs.Scripts.{ends_with}

-- the text of a type of SQL does not itself say that no value may be missing
abbrev pub leaves_missing : ColumnType → Bool
leaves_missing (Other text) = not (ends_with text (codes " NOT NULL"))
leaves_missing column = true

abbrev pub HasPlainTypes : Schema → Type 0
HasPlainTypes s = All (λ column. IsTrue (leaves_missing column)) (types_of s)

-- each dependency that a relation may break stands in a line whose number is 2 or more, of 64 bits; one that stands in
-- line 1 has no names
abbrev pub HasLaterLines : Schema → Type 0
HasLaterLines s =
    All (λ rule. IsSome (breaches_of (width_of s) rule.1) → IsTrue (is_number rule.0)) (rules_of s)
