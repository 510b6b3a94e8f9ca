-- What the laws of `accepted` say: what one command prints, kept in a file, another accepts. `Desk` does not
-- cite it.
use Rattle.std.specs.Prelude.{◌≡◌, ℕ, ◌≤◌, List, [], ◌∷◌, length, Some, codes}
use Rattle.std.specs.List.{count_by}
use Rattle.lexer.specs.Lines.{is_line_feed}
use Rattle.schema_grammar.specs.declared.format.TheConstants.{MOST_DEPENDENCY_LINES}
use Rattle.proof_text.specs.declared.text.TheConstants.{MOST_PROOF_BYTES}
use Rattle.schema_reader.specs.declared.text.TheConstants.{MOST_TEXT_BYTES}
use Rattle.desk_outside.specs.Files.{Files, bytes_of_file}
use Rattle.desk_responses.specs.ResponseValues.{ResponseValue}
use Rattle.desk_responses.specs.declared.status.Status.TheVariants.{Yes}
use Rattle.desk_tables.specs.OwnFolders.{Looks}
use Rattle.desk_inputs.specs.Readings.{known_files}
use Rattle.desk_cli.specs.Performs.{Answers}

-- a text is within the limit of certificate and derivation files
abbrev pub FitsProofFile : List ℕ → Type 0
FitsProofFile text = length text ≤ MOST_PROOF_BYTES

-- a text is within the limits of schema files: of bytes, and of dependencies, of which a line has one at most
abbrev pub FitsSchemaFile : List ℕ → Type 0
FitsSchemaFile text = (length text ≤ MOST_TEXT_BYTES) × (count_by is_line_feed text ≤ MOST_DEPENDENCY_LINES)

-- what these words print after yes fits and is kept in a file, beside the file of the same schema: then yes is the
-- answer to the other words, which name that file too
abbrev pub IsAcceptedBy : List ℕ → List (List ℕ) → (List ℕ → Type 0) → (List ℕ → List (List ℕ)) → Type 0
IsAcceptedBy schema words Fits others =
    (looks later : Looks) (before after : Files) (file : List ℕ) (printed response : ResponseValue)
    → Answers looks (known_files before) words printed → printed.status ≡ Yes
    → bytes_of_file after schema ≡ bytes_of_file before schema → bytes_of_file after file ≡ Some printed.text
    → Fits printed.text
    → Answers later (known_files after) (others file) response → response.status ≡ Yes

-- `check proof` accepts what `implies` prints
abbrev pub PrintedProofIsAccepted : Type 0
PrintedProofIsAccepted =
    (schema goal : List ℕ)
    → IsAcceptedBy schema (codes "implies" ∷ schema ∷ goal ∷ []) FitsProofFile
    (λ file. codes "check" ∷ codes "proof" ∷ schema ∷ file ∷ goal ∷ [])

-- `check derivation` accepts what `explain implies` prints
abbrev pub PrintedDerivationIsAccepted : Type 0
PrintedDerivationIsAccepted =
    (schema goal : List ℕ)
    → IsAcceptedBy schema (codes "explain" ∷ codes "implies" ∷ schema ∷ goal ∷ []) FitsProofFile
    (λ file. codes "check" ∷ codes "derivation" ∷ schema ∷ file ∷ goal ∷ [])

-- `check cover` confirms what `cover` prints
abbrev pub PrintedCoverIsConfirmed : Type 0
PrintedCoverIsConfirmed =
    (schema : List ℕ)
    → IsAcceptedBy schema (codes "cover" ∷ schema ∷ []) FitsSchemaFile
    (λ file. codes "check" ∷ codes "cover" ∷ schema ∷ file ∷ [])

-- `check cover canonical` confirms what `cover canonical` prints
abbrev pub PrintedCanonicalCoverIsConfirmed : Type 0
PrintedCanonicalCoverIsConfirmed =
    (schema : List ℕ)
    → IsAcceptedBy schema (codes "cover" ∷ codes "canonical" ∷ schema ∷ []) FitsSchemaFile
    (λ file. codes "check" ∷ codes "cover" ∷ codes "canonical" ∷ schema ∷ file ∷ [])
