-- The checks of covers say nothing of exactly the schemas that are covers of the form, and yes to exactly those
-- that say the same.
use Rattle.std.proofs.Common.{◌≡◌, ◌↔◌, ℕ, List, [], ◌∷◌, inl, inr, refl, subst, arith}
use Rattle.cover_accounts.specs.CoverDiagnostics.{AreCoverDiagnostics}
use Rattle.cover_accounts.specs.declared.diagnostic.CoverDiagnostic.{CoverDiagnostic}
use Rattle.cover_accounts.specs.declared.diagnostic.CoverForm.{CoverForm}
use Rattle.cover_accounts.specs.declared.diagnostic.CoverForm.TheVariants.{Minimal, Canonical}
use Rattle.dep_model.proofs.ListLemmas.{Contains-nil, Contains-head}
use Rattle.schema_model.specs.Schemas.{Schema, width_of, theory_of}
use Rattle.schema_match.specs.Carried.{HaveSameLegalRelations}
use Rattle.schema_match.specs.Columns.{SameNames}
use Rattle.desk_covers.specs.CoverChecks.{TestsForm, ChecksCoverForm}
use Rattle.desk_covers.specs.Sameness.{NameStops}
use Rattle.desk_responses.specs.ResponseValues.{ResponseValue}
use Rattle.desk_responses.specs.declared.status.Status.TheVariants.{Yes, No, Refused}
use Rattle.implication_laws.specs.Minimality.{IsCoverByKind}
use Rattle.implication_laws.proofs.AlikeLaws.{names_go}
use Rattle.implication_laws.proofs.CanonicalLaws.{canonical_without, none_of_canonical}
use Rattle.implication_laws.proofs.GoalLemmas.{says-status}
use Rattle.implication_laws.proofs.ImplyingLaws.{no_not_yes, refused_not_yes}
use Rattle.implication_laws.proofs.MinimalLaws.{HasNone, minimal_without, none_of_minimal}

-- ---- a list without a diagnostic
cover_without : (form : CoverForm) (schema : Schema) → HasNone form (width_of schema) (theory_of schema) → IsCoverByKind form schema
cover_without Minimal schema none = minimal_without schema none
cover_without Canonical schema none = canonical_without schema none

none_of_cover : (form : CoverForm) (schema : Schema) → IsCoverByKind form schema → HasNone form (width_of schema) (theory_of schema)
none_of_cover Minimal schema is = none_of_minimal schema is
none_of_cover Canonical schema is = none_of_canonical schema is

pub said_of_none : (form : CoverForm) (schema : Schema) → AreCoverDiagnostics form (width_of schema) (theory_of schema) [] ↔ IsCoverByKind form schema
said_of_none form schema = (
  (λ are. cover_without form schema (λ one is. Contains-nil one (are.all one is))),
  (λ cover. record {
    each = λ one has. absurd (Contains-nil one has);
    all = λ one is. absurd (none_of_cover form schema cover one is);
    ordered = λ i j d before low. absurd (omega (arith, low));
  }),
)

-- ---- the answer
name_stops-status : (schema other : Schema) (file other_file : List ℕ) (response : ResponseValue)
    → NameStops schema other file other_file response → response.status ≡ Refused
name_stops-status schema other file other_file response (inl (a, first, says)) = says-status Refused _ response says
name_stops-status schema other file other_file response (inr (declared, (a, first, says))) = says-status Refused _ response says

tested_to : (form : CoverForm) (other : Schema) (response : ResponseValue) → response.status ≡ Yes → TestsForm form other response → IsCoverByKind form other
tested_to form other response says_yes (found, are, inl (none, says)) =
    (said_of_none form other).0 (subst (λ (ones : List CoverDiagnostic). AreCoverDiagnostics form (width_of other) (theory_of other) ones) none are)
tested_to form other response says_yes (found, are, inr (some, says)) =
    absurd (no_not_yes response says_yes (says-status No _ response says))

tested_from : (form : CoverForm) (other : Schema) (response : ResponseValue) → IsCoverByKind form other → TestsForm form other response → response.status ≡ Yes
tested_from form other response cover (found, are, inl (none, says)) = says-status Yes _ response says
tested_from form other response cover ([], are, inr (some, says)) = absurd (some refl)
tested_from form other response cover (one ∷ found, are, inr (some, says)) =
    absurd (none_of_cover form other cover one (are.each one (Contains-head one found)))

yes-to : (form : CoverForm) (schema other : Schema) (file other_file : List ℕ) (response : ResponseValue) → ChecksCoverForm form schema other file other_file response
    → response.status ≡ Yes → SameNames schema other × HaveSameLegalRelations schema other × IsCoverByKind form other
yes-to form schema other file other_file response (inl stops) says_yes =
    absurd (refused_not_yes response says_yes (name_stops-status schema other file other_file response stops))
yes-to form schema other file other_file response (inr (names, inl (there, back, differ, says))) says_yes =
    absurd (no_not_yes response says_yes (says-status No _ response says))
yes-to form schema other file other_file response (inr (names, inr (same, tests))) says_yes =
    (names, same.legal, tested_to form other response says_yes tests)

pub yes-from : (form : CoverForm) (schema other : Schema) (file other_file : List ℕ) (response : ResponseValue) → ChecksCoverForm form schema other file other_file response
    → SameNames schema other × HaveSameLegalRelations schema other × IsCoverByKind form other → response.status ≡ Yes
yes-from form schema other file other_file response (inl stops) holds =
    absurd (names_go schema other file other_file response holds.0 stops)
yes-from form schema other file other_file response (inr (names, inl (there, back, differ, says))) holds = absurd (differ.legal holds.1)
yes-from form schema other file other_file response (inr (names, inr (same, tests))) holds = tested_from form other response holds.2 tests

pub said_yes : (form : CoverForm) (schema other : Schema) (file other_file : List ℕ) (response : ResponseValue) → ChecksCoverForm form schema other file other_file response
    → (response.status ≡ Yes) ↔ (SameNames schema other × HaveSameLegalRelations schema other × IsCoverByKind form other)
said_yes form schema other file other_file response checks = (
  yes-to form schema other file other_file response checks,
  yes-from form schema other file other_file response checks,
)
