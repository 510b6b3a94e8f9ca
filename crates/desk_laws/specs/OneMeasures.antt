-- What the laws of `one_measure` say: of what is wrong with rows. `Desk` does not cite it.
use Rattle.std.specs.Prelude.{◌≡◌}
use Rattle.dep_model.specs.Tuples.{Relation}
use Rattle.schema_model.specs.Schemas.{Schema}
use Rattle.implication_laws.specs.OneAnswer.{AllowsOne}
use Rattle.desk_measures.specs.Keeping.{KeepsRows}
use Rattle.desk_measures.specs.Measures.{MeasuresRows}
use Rattle.desk_measures.specs.Offences.{ListsOffences, ListsOffencesByRow}
use Rattle.desk_measures.specs.Untyped.{HasTextsAlone}

-- `measure` has one answer
abbrev pub OneAnswerOfMeasure : Type 0
OneAnswerOfMeasure =
    (s : Schema) (rows : Relation) → AllowsOne (MeasuresRows s rows)

-- `offences` has one answer, by classes and row by row (`classes`)
abbrev pub OneAnswerOfOffencesClasses : Type 0
OneAnswerOfOffencesClasses =
    (s : Schema) (rows : Relation) → AllowsOne (ListsOffences s rows)

-- `offences` has one answer, by classes and row by row (`rows`)
abbrev pub OneAnswerOfOffencesRows : Type 0
OneAnswerOfOffencesRows =
    (s : Schema) (rows : Relation) → AllowsOne (ListsOffencesByRow s rows)

-- `kept` has one answer
abbrev pub OneAnswerOfKept : Type 0
OneAnswerOfKept =
    (s : Schema) (rows : Relation) → AllowsOne (KeepsRows s rows)

-- there is one schema of text columns alone that declares what a schema does
abbrev pub OneSchemaOfTexts : Type 0
OneSchemaOfTexts =
    (s one other : Schema) → HasTextsAlone s one → HasTextsAlone s other
    → one ≡ other
