-- Whether a schema is a minimal or a canonical cover of another, and what keeps it from being one: for
-- `check cover` and `check cover canonical`.
use Rattle.std.specs.Prelude.{◌≡◌, ◌⊎◌, ℕ, Bool, true, false, List, [], ◌++◌, codes, slice_get}
use Rattle.std.specs.List.{flat_map, list_all}
use Rattle.attr_sets.specs.Attributes.{only}
use Rattle.cover_accounts.specs.CoverDiagnostics.{AreCoverDiagnostics}
use Rattle.cover_accounts.specs.declared.diagnostic.CoverDiagnostic.{CoverDiagnostic}
use Rattle.cover_accounts.specs.declared.diagnostic.CoverDiagnostic.TheVariants.{SeveralOnRight, SameLeft}
use Rattle.cover_accounts.specs.declared.diagnostic.CoverDiagnostic.TheVariants.{NotNeededOnLeft, NotNeededOnRight}
use Rattle.cover_accounts.specs.declared.diagnostic.CoverDiagnostic.TheVariants.{Follows}
use Rattle.cover_accounts.specs.declared.diagnostic.CoverForm.{CoverForm}
use Rattle.cover_accounts.specs.declared.diagnostic.CoverForm.TheVariants.{Minimal, Canonical}
use Rattle.dep_model.specs.Dependencies.{is_fd}
use Rattle.schema_model.specs.Schemas.{deps_of, lines_of, width_of, theory_of}
use Rattle.schema_model.specs.Schemas.{Schema}
use Rattle.schema_printer.specs.Printing.{set_text}
use Rattle.schema_printer.specs.Spelling.{printed_names_of}
use Rattle.desk_responses.specs.declared.status.Status.TheVariants.{Yes, No}
use Rattle.desk_responses.specs.Lines.{line_number_text, dep_text}
use Rattle.desk_responses.specs.ResponseValues.{Allowed, Says}
use Rattle.desk_covers.specs.Sameness.{SayTheSame, Differ, WithSameNames, different_text}
use Rattle.desk_texts.specs.Texts.{line}

-- ---- texts
-- a dependency of a file, after its line
abbrev pub placed_dep_text : Schema → ℕ → List ℕ
placed_dep_text schema k =
    codes "line " ++ line_number_text (slice_get (lines_of schema) k) ++ codes ": "
    ++ dep_text (printed_names_of schema) (slice_get (deps_of schema) k)

abbrev pub not_needed_text : Schema → ℕ → ℕ → List ℕ → List ℕ
not_needed_text schema k a words =
    line (placed_dep_text schema k ++ codes ": " ++ set_text (printed_names_of schema) (only a) ++ words)

abbrev pub diagnostic_text : Schema → CoverDiagnostic → List ℕ
diagnostic_text schema (SeveralOnRight k) =
    line (placed_dep_text schema k ++ codes " has more than one attribute on the right")
diagnostic_text schema (SameLeft k j) =
    line (placed_dep_text schema k ++ codes " has the left side of line "
    ++ line_number_text (slice_get (lines_of schema) j))
diagnostic_text schema (NotNeededOnLeft k a) = not_needed_text schema k a (codes " is not needed on the left")
diagnostic_text schema (NotNeededOnRight k a) = not_needed_text schema k a (codes " is not needed on the right")
diagnostic_text schema (Follows k) = line (placed_dep_text schema k ++ codes " follows from the others")

abbrev pub diagnostics_text : Schema → List CoverDiagnostic → List ℕ
diagnostics_text schema found = flat_map (diagnostic_text schema) found

-- what is said where nothing is wrong; beside a multivalued dependency a functional one may still follow from
-- both kinds, so each kind is such a cover by itself
abbrev pub form_words : CoverForm → Bool → List ℕ
form_words Minimal true = codes "equivalent and minimal"
form_words Minimal false = codes "equivalent, and minimal by kind"
form_words Canonical true = codes "equivalent and canonical"
form_words Canonical false = codes "equivalent, and canonical by kind"

abbrev pub form_text : CoverForm → Schema → List ℕ
form_text form schema = line (form_words form (list_all is_fd (theory_of schema)))

-- ---- answers
-- yes exactly where nothing keeps a schema from being a cover of a form; else no, with all that does
abbrev pub TestsForm : CoverForm → Schema → Allowed
TestsForm form schema response =
    (found : List CoverDiagnostic) × AreCoverDiagnostics form (width_of schema) (theory_of schema) found
    × (((found ≡ []) × Says Yes (form_text form schema) response)
    ⊎ ((found ≡ [] → ⊥) × Says No (diagnostics_text schema found) response))

-- where the two do not say the same, the answer of `check same`; else whether the other is a cover of the form
abbrev pub TestsCover : CoverForm → Schema → Schema → List ℕ → List ℕ → Allowed
TestsCover form schema other file other_file response =
    ((of_schema : List ℕ) × (of_other : List ℕ) × Differ schema other of_schema of_other
    × Says No (different_text schema other file other_file of_schema of_other) response)
    ⊎ (SayTheSame schema other × TestsForm form other response)

-- the same of schemas that may have other names
abbrev pub ChecksCoverForm : CoverForm → Schema → Schema → List ℕ → List ℕ → Allowed
ChecksCoverForm form schema other file other_file =
    WithSameNames schema other file other_file (TestsCover form schema other file other_file)

abbrev pub ChecksCover : Schema → Schema → List ℕ → List ℕ → Allowed
ChecksCover = ChecksCoverForm Minimal

abbrev pub ChecksCanonicalCover : Schema → Schema → List ℕ → List ℕ → Allowed
ChecksCanonicalCover = ChecksCoverForm Canonical
