-- The lines of tables, plans in a normal form, and the sample.
use Rattle.std.proofs.Common.{◌≡◌, ◌<◌, ℕ, ◌+◌, Ok, Err, Result, List, [], ◌∷◌, ◌++◌, length, take, get_or, map, refl, ap, ◌∙◌, append-nil}
use Rattle.std.proofs.lemmas.List.{take_more, map-append}
use Rattle.std.proofs.lemmas.Grind.{flat_map-append}
use Rattle.dep_model.specs.Plans.{schemes_of}
use Rattle.schema_model.specs.declared.naming.Naming.{Naming}
use Rattle.schema_model.specs.Schemas.{Schema}
use Rattle.schema_printer.specs.Printing.{words_text}
use Rattle.schema_printer.specs.Spelling.{spelling}
use Rattle.dep_model.specs.declared.form.Form.TheVariants.{Fourth}
use Rattle.sample_rows.specs.Sample.{sample_relation}
use Rattle.desk_designs.specs.Decompositions.{WithPlanInForm}
use Rattle.desk_responses.specs.declared.response.Response.{Response}
use Rattle.desk_responses.specs.declared.response.EarlyExit.{EarlyExit}
use Rattle.desk_responses.specs.Responses.{RespondsAs}
use Rattle.std.specs.List.{flat_map}
use Rattle.dep_model.specs.Tuples.{Relation}
use Rattle.named_tables.specs.declared.table.ChosenTable.{ChosenTable}
use Rattle.named_tables.specs.Tables.{chosen_value, chosen_values}
use Rattle.desk_tables.specs.Migrations.{table_line, IsSampleSchema, MigratesRows, Samples}

pub lines_of : (naming : Naming) (rows : Relation) (tables : List ChosenTable)
    → flat_map (λ table. table_line naming (chosen_value rows table)) tables ≡ flat_map (table_line naming) (chosen_values rows tables)
lines_of naming rows [] = refl
lines_of naming rows (table ∷ tables) =
    ap (λ (l : List ℕ). table_line naming (chosen_value rows table) ++ l) (lines_of naming rows tables)

-- one word more
pub words_more : (naming : Naming) (names : List (List ℕ)) (i : ℕ) (d : List ℕ) → i < length names
    → words_text (map (spelling naming) (take (i + 1) names))
    ≡ words_text (map (spelling naming) (take i names)) ++ (32 ∷ spelling naming (get_or names i d))
words_more naming names i d within =
    ap words_text (ap (map (spelling naming)) (take_more names i d within)
    ∙ map-append (spelling naming) (take i names) (get_or names i d ∷ []))
    ∙ flat_map-append (λ word. 32 ∷ word) (map (spelling naming) (take i names)) (spelling naming (get_or names i d) ∷ [])
    ∙ ap (λ (last : List ℕ). words_text (map (spelling naming) (take i names)) ++ last) (append-nil (32 ∷ spelling naming (get_or names i d)))

-- what is answered of the schema of the sample is answered of the sample
pub sample_response : (persons : ℕ) (schema : Schema) (result : Result Response EarlyExit) → IsSampleSchema schema
    → RespondsAs (WithPlanInForm schema Fourth (λ plan. MigratesRows schema [] (schemes_of plan) (sample_relation persons))) result → RespondsAs (Samples persons) result
sample_response persons schema (Ok response) is goes = (schema, is, goes)
sample_response persons schema (Err exit) is goes = λ response e. (schema, is, goes response e)
