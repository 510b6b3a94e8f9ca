-- What `cover` and `cover canonical` print is confirmed by `check cover` and `check cover canonical`.
use Rattle.std.proofs.Common.{◌≡◌, ◌≤◌, ℕ, List, [], ◌∷◌, Some, subst, ap, arith}
use Rattle.std.specs.Prelude.{codes, length}
use Rattle.std.specs.List.{count_by}
use Rattle.cover_accounts.specs.declared.diagnostic.CoverForm.{CoverForm}
use Rattle.cover_accounts.specs.declared.diagnostic.CoverForm.TheVariants.{Canonical, Minimal}
use Rattle.dep_model.specs.Dependencies.{Dependency}
use Rattle.implication_laws.proofs.WrittenCovers as covers
use Rattle.implication_laws.proofs.WrittenCovers.{cover_confirmed, dependencies_on_lines}
use Rattle.lexer.specs.Lines.{is_line_feed}
use Rattle.schema_grammar.specs.Schemas.{MeansSchema}
use Rattle.schema_grammar.specs.Texts.{declarations_of}
use Rattle.schema_grammar.specs.declared.format.TheConstants.{MOST_DEPENDENCY_LINES}
use Rattle.schema_model.specs.Schemas.{Schema}
use Rattle.schema_printer.specs.Printing.{schema_text}
use Rattle.desk_covers.specs.CoverChecks.{ChecksCoverForm}
use Rattle.desk_covers.specs.Covering.{GivesCanonicalCover, GivesCover}
use Rattle.desk_inputs.specs.FileKinds.{IsFile, WithFile}
use Rattle.desk_inputs.specs.Inputs.{schema_file}
use Rattle.desk_inputs.specs.Readings.{known_files}
use Rattle.desk_outside.specs.Files.{Files, bytes_of_file}
use Rattle.desk_responses.specs.ResponseValues.{ResponseValue, Says}
use Rattle.desk_responses.specs.declared.status.Status.TheVariants.{Yes}
use Rattle.desk_laws.specs.AcceptedTexts.{FitsSchemaFile, PrintedCanonicalCoverIsConfirmed, PrintedCoverIsConfirmed}
use Rattle.desk_laws.proofs.CompleteLaws as calls
use Rattle.desk_laws.proofs.CompleteLaws.{after_schema}
use Rattle.desk_laws.proofs.FileLemmas.{given_there, held_again}
use Rattle.desk_laws.proofs.QuestionLaws as questions

-- a printed text has few dependencies where it has few lines
few_there : (s : Schema) (ds : List Dependency) (printed : ResponseValue) → Says Yes (schema_text s ds) printed
    → FitsSchemaFile printed.text → length ds ≤ MOST_DEPENDENCY_LINES
few_there s ds printed says fits =
    let on_lines = dependencies_on_lines s ds in
    let within : count_by is_line_feed (schema_text s ds) ≤ MOST_DEPENDENCY_LINES =
    subst (λ (text : List ℕ). count_by is_line_feed text ≤ MOST_DEPENDENCY_LINES) (ap (λ (r : ResponseValue). r.text) says) fits.1 in
    omega (arith, on_lines, within)

module _ (before after : Files) (schema file : List ℕ) (s t : Schema) (printed : ResponseValue)
    (held : IsFile schema_file (known_files before) schema s)
    (same : bytes_of_file after schema ≡ bytes_of_file before schema)
    (kept : bytes_of_file after file ≡ Some printed.text) (fits : FitsSchemaFile printed.text)
    (means : MeansSchema printed.text (declarations_of t)) where
  -- the schema is read again, and then what was printed
  checked_there : (form : CoverForm) (response : ResponseValue)
      → WithFile schema_file (known_files after) schema
      (λ r. WithFile schema_file (known_files after) file (λ p. ChecksCoverForm form r p schema file)) response
      → ChecksCoverForm form s t schema file response
  checked_there form response checks =
      let again = held_again before after schema s held same in
      let other : IsFile schema_file (known_files after) file t =
      record { bytes = printed.text; content = (kept, fits.0); means = means } in
      after_schema after file t (λ p. ChecksCoverForm form s p schema file) response other
      (after_schema after schema s
      (λ r. WithFile schema_file (known_files after) file (λ p. ChecksCoverForm form r p schema file)) response again checks)

pub minimal_confirmed : PrintedCoverIsConfirmed
minimal_confirmed schema looks later before after file printed response answered says_yes same kept fits again =
    let given = given_there before schema GivesCover printed says_yes (calls.cover_asks before schema looks printed answered) in
    let found = cover_confirmed given.1.bytes given.0 printed given.1.means given.2 in
    let other = found.2 (few_there given.0 found.0 printed found.1 fits) in
    other.3 schema file response
    (checked_there before after schema file given.0 other.0 printed given.1 same kept fits other.2 Minimal response
    (questions.cover_asks after schema file later response again))

pub canonical_confirmed : PrintedCanonicalCoverIsConfirmed
canonical_confirmed schema looks later before after file printed response answered says_yes same kept fits again =
    let given = given_there before schema GivesCanonicalCover printed says_yes (calls.canonical_asks before schema looks printed answered) in
    let found = covers.canonical_confirmed given.1.bytes given.0 printed given.1.means given.2 in
    let other = found.2 (few_there given.0 found.0 printed found.1 fits) in
    other.3 schema file response
    (checked_there before after schema file given.0 other.0 printed given.1 same kept fits other.2 Canonical response
    (questions.canonical_asks after schema file later response again))
