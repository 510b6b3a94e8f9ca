-- Whether rows are legal for a schema: for `check rows`, and for `migrate` before it makes tables.
use Rattle.std.specs.Prelude.{ℕ, List, ◌++◌, codes, slice_get}
use Rattle.std.specs.Fmt.{decimal}
use Rattle.std.specs.List.{flat_map}
use Rattle.schema_model.specs.Schemas.{width_of, theory_of, deps_of, lines_of, LegalFor}
use Rattle.dep_model.specs.Tuples.{Relation}
use Rattle.schema_model.specs.Schemas.{Schema}
use Rattle.schema_printer.specs.Spelling.{printed_names_of}
use Rattle.legality.specs.declared.offence.Offence.{Offence}
use Rattle.legality.specs.Offences.{OffencesOf}
use Rattle.desk_responses.specs.declared.status.Status.TheVariants.{Yes, No}
use Rattle.desk_responses.specs.ResponseValues.{Allowed, Says, Unless}
use Rattle.desk_responses.specs.Lines.{dep_text, line_number_text}
use Rattle.desk_texts.specs.Texts.{line}

abbrev pub legal_text : List ℕ
legal_text = line (codes "legal")

-- an offence: the line of the dependency, the dependency, and the two rows that break it
abbrev pub offence_text : Schema → Offence → List ℕ
offence_text schema offence =
    line (codes "line " ++ line_number_text (slice_get (lines_of schema) offence.dep)
    ++ codes ": " ++ dep_text (printed_names_of schema) (slice_get (deps_of schema) offence.dep)
    ++ codes " broken by rows " ++ decimal offence.first ++ codes " and " ++ decimal offence.second)

-- a line for each offence
abbrev pub offences_text : Schema → List Offence → List ℕ
offences_text schema offences = flat_map (offence_text schema) offences

-- how the test of rows ends a command: no, exactly where they do not obey every dependency, with a line
-- for each that they break and the least pair of rows that breaks it
abbrev pub OffenceStops : Schema → Relation → Allowed
OffenceStops schema rows response =
    (LegalFor schema rows → ⊥)
    × ((offences : List Offence) × OffencesOf (width_of schema) (theory_of schema) rows offences
    × Says No (offences_text schema offences) response)

-- the rows are legal, and then the rest follows
abbrev pub WithLegal : Schema → Relation → Allowed → Allowed
WithLegal schema rows = Unless (OffenceStops schema rows) (LegalFor schema rows)

-- yes where the rows are legal
abbrev pub JudgesRows : Schema → Relation → Allowed
JudgesRows schema rows = WithLegal schema rows (Says Yes legal_text)
