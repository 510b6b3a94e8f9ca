-- What the laws of `imported` say: of what was printed. `Desk` does not cite it.
use Rattle.std.specs.Prelude.{◌≡◌, ◌≤◌, ℕ, List, [], ◌∷◌, length, Some, codes}
use Rattle.dep_model.specs.declared.form.Form.{Form}
use Rattle.desk_cli.specs.Performs.{Answers}
use Rattle.desk_designs.specs.NormalForms.{form_word}
use Rattle.desk_inputs.specs.Readings.{known_files}
use Rattle.desk_inputs.specs.declared.sql.TheConstants.{MOST_SQL_BYTES}
use Rattle.desk_outside.specs.Files.{Files, bytes_of_file}
use Rattle.desk_responses.specs.ResponseValues.{ResponseValue}
use Rattle.desk_responses.specs.declared.status.Status.TheVariants.{Yes}
use Rattle.desk_tables.specs.OwnFolders.{Looks}
use Rattle.desk_laws.specs.Imported.{FormIsImported, PlanIsImported}

-- what `ddl plan` prints after yes, kept in a file, is imported table by table: the schema of a table of the
-- design has its columns, those of which a value may be missing, and its keys
abbrev pub TablesOfAPlanAreImported : Type 0
TablesOfAPlanAreImported =
    (looks later : Looks) (before after : Files) (schema plan file : List ℕ) (printed : ResponseValue)
    → Answers looks (known_files before) (codes "ddl" ∷ codes "plan" ∷ schema ∷ plan ∷ []) printed
    → printed.status ≡ Yes → bytes_of_file after file ≡ Some printed.text
    → length printed.text ≤ MOST_SQL_BYTES → PlanIsImported later before after schema plan file

-- what `ddl` prints after yes for a normal form, kept in a file, is imported table by table
abbrev pub TablesOfAFormAreImported : Type 0
TablesOfAFormAreImported =
    (form : Form) (looks later : Looks) (before after : Files) (schema file : List ℕ)
    (printed : ResponseValue)
    → Answers looks (known_files before) (codes "ddl" ∷ form_word form ∷ schema ∷ []) printed
    → printed.status ≡ Yes → bytes_of_file after file ≡ Some printed.text
    → length printed.text ≤ MOST_SQL_BYTES → FormIsImported later before after form schema file
