-- What the code has of a page: texts that were added, the texts of answers, and what was found before they were
-- written. For the functions below `report_schema`. `Desk` does not cite it.
use Rattle.std.specs.Prelude.{◌≡◌, ℕ, ◌≤◌, List, ◌++◌, All, Result, Ok, Err, length}
use Rattle.dep_model.specs.Dependencies.{functional_part}
use Rattle.dep_model.specs.Deps.{dependencies_of, IsDepWithin}
use Rattle.dep_model.specs.declared.failure.Failure.TheVariants as failed
use Rattle.schema_model.specs.Schemas.{Schema, theory_in, theory_of, universe_of, width_of}
use Rattle.min_cover.specs.Covers.{IsFixedWholeCover, IsMinimalCover, IsWholeCover}
use Rattle.cover_accounts.specs.Steps.{AreCoverSteps, places_of, shortened_list}
use Rattle.cover_accounts.specs.declared.steps.CoverSteps.{CoverSteps}
use Rattle.key_listing.specs.Listing.{AreAllKeys}
use Rattle.key_listing.specs.Refusals.{IsRefusedListing, IsTooWide}
use Rattle.key_listing.specs.declared.refusal.TheConstants.{MOST_KEYS}
use Rattle.html_pages.specs.Pages.{folded_text, open_text}
use Rattle.desk_responses.specs.declared.response.Response.{Response}
use Rattle.desk_responses.specs.declared.response.EarlyExit.{EarlyExit}
use Rattle.desk_responses.specs.declared.response.EarlyExit.TheVariants.{Answered, OutOfMemory}
use Rattle.desk_reports.specs.Pieces.{Shown}
use Rattle.desk_reports.specs.declared.found.FoundKeys.{FoundKeys}
use Rattle.desk_reports.specs.declared.found.FoundKeys.TheVariants.{Listed, Refused}

-- ---- texts
-- what may stand at a place was added to a text
pub record Adds (shown : Shown) (text more : List ℕ) : Type 0 where
  pub piece : List ℕ
  pub is : shown piece
  pub added : more ≡ text ++ piece

-- the text of an answer; running out of memory has none
abbrev pub IsTextOf : Result Response EarlyExit → List ℕ → Type 0
IsTextOf (Ok response) text = text ≡ response.text.items
IsTextOf (Err (Answered response)) text = text ≡ response.text.items
IsTextOf (Err OutOfMemory) text = ⊥

-- the same, below a title
abbrev pub OpensText : List ℕ → Result Response EarlyExit → Shown
OpensText title answer text = (printed : List ℕ) × IsTextOf answer printed × (text ≡ open_text title printed)

-- the same, folded
abbrev pub FoldsText : List ℕ → Result Response EarlyExit → Shown
FoldsText title answer text = (printed : List ℕ) × IsTextOf answer printed × (text ≡ folded_text title printed)

-- ---- what was found
-- the fixed whole cover of a schema, and how it comes about
pub record IsFoundCover (s : Schema) (cover : CoverSteps) : Type 0 where
  pub steps : AreCoverSteps (width_of s) (theory_of s) (shortened_list cover.members.items) (places_of cover.gone.items)
  pub fixed : IsFixedWholeCover (width_of s) (theory_of s) (dependencies_of cover.whole.items)
  pub minimal : IsMinimalCover (width_of s) (theory_of s) (functional_part (dependencies_of cover.whole.items))
  pub whole_cover : IsWholeCover (width_of s) (theory_of s) (dependencies_of cover.whole.items)
  pub within : All (IsDepWithin (universe_of s)) cover.whole.items

-- all keys of the universe of a schema, or why they are not listed
abbrev pub AreFoundKeys : Schema → FoundKeys → Type 0
AreFoundKeys s (Listed keys) =
    AreAllKeys (width_of s) (theory_of s) (universe_of s) keys.items × (length keys.items ≤ MOST_KEYS)
    × (IsTooWide (theory_in s) → ⊥)
AreFoundKeys s (Refused refusal) = IsRefusedListing (theory_in s) (failed.Refused refusal)
