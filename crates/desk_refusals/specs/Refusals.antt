-- The refusals of schema texts, of goals and of sets at their places.
use Rattle.std.specs.Prelude.{ℕ, List, ◌∷◌, ◌++◌, codes, if◌then◌else◌}
use Rattle.std.specs.Fmt.{decimal}
use Rattle.schema_grammar.specs.declared.refusal.SchemaRefusal.{SchemaRefusal}
use Rattle.schema_grammar.specs.RefusalTexts.{place_and_reason}
use Rattle.schema_grammar.specs.DiagnosticKinds.{number_of, diagnostic_kind}
use Rattle.desk_texts.specs.Texts.{line}

-- a refusal of a text at its place: the kind of text, its name, the line and the column
abbrev pub refusal_text : List ℕ → List ℕ → SchemaRefusal → List ℕ
refusal_text group name refusal =
    line (codes "refused: " ++ group ++ codes " " ++ decimal (number_of (diagnostic_kind refusal.kind))
    ++ codes " at " ++ name ++ codes ":" ++ place_and_reason refusal)

-- a goal is named `goal`
abbrev pub goal_refusal_text : SchemaRefusal → List ℕ
goal_refusal_text refusal = refusal_text (codes "goal") (codes "goal") refusal

-- and a set `set`
abbrev pub set_refusal_text : SchemaRefusal → List ℕ
set_refusal_text refusal = refusal_text (codes "set") (codes "set") refusal
