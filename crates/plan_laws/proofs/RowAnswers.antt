-- `check rows` and `migrate` have one answer each.
use Rattle.std.proofs.Common.{◌≡◌, List, sym, ap, subst, ◌∙◌}
use Rattle.attr_sets.specs.Attributes.{Attributes}
use Rattle.attr_sets.specs.declared.set.AttrSet.{AttrSet}
use Rattle.dep_model.specs.Plans.{schemes_of}
use Rattle.schema_model.specs.Schemas.{width_of, theory_of, LegalFor, naming_of}
use Rattle.dep_model.specs.Tuples.{Relation}
use Rattle.schema_model.specs.Schemas.{Schema}
use Rattle.legality.proofs.OffenceLaws.{one_list}
use Rattle.named_tables.specs.Tables.{TableValue}
use Rattle.table_names.specs.TableNames.{GivenNames}
use Rattle.implication_laws.specs.OneAnswer.{AllowsOne}
use Rattle.implication_laws.proofs.StepLaws.{same_says, Unless-one}
use Rattle.desk_responses.specs.ResponseValues.{ResponseValue, Allowed, Says, yes_with_tables}
use Rattle.desk_responses.specs.declared.status.Status.TheVariants.{Yes, No}
use Rattle.desk_tables.specs.Legality.{JudgesRows, OffenceStops, WithLegal, legal_text, offences_text}
use Rattle.desk_tables.specs.Migrations.{AreTablesOf, GivesTables, MigratesPlan, MigratesRows, migrated_text}
use Rattle.desk_tables.specs.Tidiness.{WithTidy}
use Rattle.plan_laws.proofs.DesignAnswers.{one_without_loss}
use Rattle.plan_laws.proofs.DesignedLaws.{tables_alike}
use Rattle.plan_laws.proofs.TidyAnswers.{one_keyed, one_with_tidy}

-- ---- legal rows
one_offence_stop : (s : Schema) (rows : Relation) → AllowsOne (OffenceStops s rows)
one_offence_stop s rows one other (broken, (offences, are, says)) (also, (others, again, said)) =
    same_says No _ _ one other says said
    (ap (offences_text s) (one_list (width_of s) rows 0 (theory_of s) offences others are again))

pub one_with_legal : (s : Schema) (rows : Relation) (rest : Allowed) → (LegalFor s rows → AllowsOne rest)
    → AllowsOne (WithLegal s rows rest)
one_with_legal s rows rest one_rest =
    Unless-one (OffenceStops s rows) (LegalFor s rows) rest (one_offence_stop s rows)
    (λ response legal stops. stops.0 legal) one_rest

pub one_rows_answer : (s : Schema) (rows : Relation) → AllowsOne (JudgesRows s rows)
one_rows_answer s rows = one_with_legal s rows (Says Yes legal_text) (λ legal one other says said. says ∙ sym said)

-- ---- tables
one_migration : (s : Schema) (names : GivenNames) (plan : List Attributes) (rows : Relation) (tables others : List TableValue)
    → AreTablesOf s names plan rows tables → AreTablesOf s names plan rows others → tables ≡ others
one_migration s names plan rows tables others first second =
    first.projections
    ∙ tables_alike s names rows 0 first.design second.design (one_keyed s plan first.design second.design first.keyed second.keyed)
    ∙ sym second.projections

one_given : (s : Schema) (names : GivenNames) (plan : List Attributes) (rows : Relation) → AllowsOne (GivesTables s names plan rows)
one_given s names plan rows one other (tables, are, says) (others, also, said) =
    says
    ∙ ap (λ (ts : List TableValue). yes_with_tables (migrated_text (naming_of s) rows ts) ts)
    (one_migration s names plan rows tables others are also)
    ∙ sym said

pub one_migrated : (s : Schema) (names : GivenNames) (plan : List Attributes) (rows : Relation) → AllowsOne (MigratesRows s names plan rows)
one_migrated s names plan rows =
    one_with_legal s rows (WithTidy s plan rows (GivesTables s names plan rows))
    (λ legal. one_with_tidy s plan rows (GivesTables s names plan rows) legal (one_given s names plan rows))

pub same_migrated : (s : Schema) (names : GivenNames) (rows : Relation) (plan others : List AttrSet) (one other : ResponseValue)
    → schemes_of plan ≡ schemes_of others → MigratesRows s names (schemes_of plan) rows one
    → MigratesRows s names (schemes_of others) rows other → one ≡ other
same_migrated s names rows plan others one other at first second =
    one_migrated s names (schemes_of plan) rows one other first
    (subst (λ (schemes : List Attributes). MigratesRows s names schemes rows other) (sym at) second)

pub one_plan_migrated : (s : Schema) (names : GivenNames) (plan : List Attributes) (rows : Relation) → AllowsOne (MigratesPlan s names plan rows)
one_plan_migrated s names plan rows = one_without_loss s plan (MigratesRows s names plan rows) (one_migrated s names plan rows)
