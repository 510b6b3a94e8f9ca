-- After each file that words name there is one answer, where what is asked of its value has one.
use Rattle.std.proofs.Common.{ℕ, List, [], map, inl, inr, refl, sym, subst}
use Rattle.std.proofs.lemmas.List.{map-id}
use Rattle.attr_sets.specs.Attributes.{Attributes}
use Rattle.csv_rows.specs.declared.part.PartialRows.{PartialRows}
use Rattle.dep_model.specs.Plans.{IsPlan}
use Rattle.schema_model.specs.Schemas.{names_of, naming_of, width_of}
use Rattle.dep_model.specs.Tuples.{Relation}
use Rattle.schema_model.specs.Schemas.{Schema}
use Rattle.desk_outside.specs.Files.{Files}
use Rattle.implication_laws.specs.OneAnswer.{AllowsOne}
use Rattle.plan_grammar.proofs.PlanLaws.{lines_within, lines_not_empty}
use Rattle.lexer.specs.Lines.{line_texts, without_mark}
use Rattle.table_join.specs.Tables.{PartialRelation, table_of_part, tables_of}
use Rattle.headed_rows.specs.Headings.{HeadedRows, IsHeadedWithin, discovered}
use Rattle.desk_inputs.specs.Readings.{Reading, known_files}
use Rattle.desk_responses.specs.ResponseValues.{ResponseValue, Allowed}
use Rattle.desk_inputs.specs.FileKinds.{AreFiles, WithFile, WithFiles}
use Rattle.desk_inputs.specs.Headed.{headed_file}
use Rattle.desk_inputs.specs.Parts.{part_file}
use Rattle.desk_inputs.specs.Plans.{MeansTables, plan_file}
use Rattle.plan_printer.specs.NamedPlans.{NamedSchemes}
use Rattle.desk_inputs.specs.Rows.{rows_file}
use Rattle.desk_laws.proofs.OneFile.{one_after_file}
use Rattle.desk_laws.proofs.OneFiles.{after_files, one_after_files}
use Rattle.desk_laws.proofs.OneText.{headed_text_once, part_text_once, plan_tables_once, rows_text_once, MeansTable}

-- ---- plans
-- the tables of a text are those of a plan
pub tables_plan : (s : Schema) (text : List ℕ) (plan : NamedSchemes) → MeansTables s text plan
    → IsPlan (width_of s) plan.schemes
tables_plan s text plan means =
    let lines = line_texts (without_mark text) in
    let read = means.read in
    subst (λ (schemes : List Attributes). IsPlan (width_of s) schemes) (sym means.schemes)
    (record {
      within = lines_within (naming_of s) (names_of s) [] lines read means.means.lines;
      not_empty = lines_not_empty (naming_of s) (names_of s) [] lines read means.means.lines;
      covers = means.means.covers;
    })

-- ---- files
module _ (files : Files) where
  abbrev known : Reading
  known = known_files files

  pub one_after_plan : (s : Schema) (name : List ℕ) (rest : NamedSchemes → Allowed)
      → ((plan : NamedSchemes) → IsPlan (width_of s) plan.schemes → AllowsOne (rest plan))
      → AllowsOne (WithFile (plan_file s) known name rest)
  one_after_plan s name rest each =
      one_after_file files name (plan_file s) (plan_tables_once s) rest
      (λ plan is. each plan (tables_plan s is.bytes plan is.means))

  pub one_after_rows : (s : Schema) (name : List ℕ) (rest : Relation → Allowed)
      → ((rows : Relation) → AllowsOne (rest rows)) → AllowsOne (WithFile (rows_file s) known name rest)
  one_after_rows s name rest each =
      one_after_file files name (rows_file s) (rows_text_once s) rest (λ rows is. each rows)

  -- ---- several files
  -- of some columns, of which a text settles the table
  pub one_after_parts : (s : Schema) (names : List (List ℕ)) (rest : List PartialRelation → Allowed)
      → ((tables : List PartialRelation) → AllowsOne (rest tables))
      → AllowsOne (WithFiles (part_file s) known names (λ parts. rest (tables_of parts)))
  one_after_parts s names rest each =
      one_after_files files (part_file s) table_of_part (MeansTable s) (part_text_once s)
      (λ text p means. (p, means.rows, means.columns, refl)) names rest each

  pub after_parts : (s : Schema) (names : List (List ℕ)) (parts : List PartialRows) (rest : List PartialRelation → Allowed)
      (response : ResponseValue) → AreFiles (part_file s) known names parts
      → WithFiles (part_file s) known names (λ others. rest (tables_of others)) response → rest (tables_of parts) response
  after_parts s names parts rest response are answered =
      after_files files (part_file s) table_of_part (MeansTable s) (part_text_once s)
      (λ text p means. (p, means.rows, means.columns, refl)) names parts rest response are answered

  -- of rows under names of their own, which a text settles
  headed_again : (names : List (List ℕ)) (rest : List HeadedRows → Allowed) (response : ResponseValue)
      → WithFiles headed_file known names rest response
      → WithFiles headed_file known names (λ hs. rest (map (λ (h : HeadedRows). h) hs)) response
  headed_again names rest response (inl stops) = inl stops
  headed_again names rest response (inr (hs, are, found)) =
      inr (hs, are, subst (λ (l : List HeadedRows). rest l response) (sym (map-id hs)) found)

  pub one_after_headed_files : (names : List (List ℕ)) (rest : List HeadedRows → Allowed)
      → ((hs : List HeadedRows) → AllowsOne (rest hs)) → AllowsOne (WithFiles headed_file known names rest)
  one_after_headed_files names rest each one other first second =
      one_after_files files headed_file (λ (h : HeadedRows). h) (IsHeadedWithin discovered) (headed_text_once discovered)
      (λ text h means. means) names rest each one other (headed_again names rest one first) (headed_again names rest other second)

  pub after_headed_files : (names : List (List ℕ)) (hs : List HeadedRows) (rest : List HeadedRows → Allowed)
      (response : ResponseValue) → AreFiles headed_file known names hs → WithFiles headed_file known names rest response
      → rest hs response
  after_headed_files names hs rest response are answered =
      subst (λ (l : List HeadedRows). rest l response) (map-id hs)
      (after_files files headed_file (λ (h : HeadedRows). h) (IsHeadedWithin discovered) (headed_text_once discovered)
      (λ text h means. means) names hs rest response are (headed_again names rest response answered))
