-- What is found wrong at one position after the other, as texts: for `Measures` and `Offences`.
use Rattle.std.specs.Prelude.{◌≡◌, ◌&&◌, ◌+◌, ℕ, zero, suc, Bool, true, if◌then◌else◌, List, [], ◌++◌}
use Rattle.desk_responses.specs.declared.status.Status.{Status}
use Rattle.desk_responses.specs.declared.status.Status.TheVariants.{Yes, No}

-- whether nothing is wrong, and what is said
abbrev pub Finding : Type 1
Finding = Bool → List ℕ → Type 0

-- nothing is wrong, and nothing is said
abbrev pub FindsNothing : Finding
FindsNothing clean text = (clean ≡ true) × (text ≡ [])

-- one thing after another: the texts follow each other
pub record FindsBoth (First Second : Finding) (clean : Bool) (text : List ℕ) : Type 0 where
  pub first_clean : Bool
  pub first_text : List ℕ
  pub second_clean : Bool
  pub second_text : List ℕ
  pub first : First first_clean first_text
  pub second : Second second_clean second_text
  pub both : clean ≡ (first_clean && second_clean)
  pub reads : text ≡ first_text ++ second_text

-- at each position below one, in their order
unfoldable pub FindsBelow : (ℕ → Finding) → ℕ → Finding
FindsBelow Finds zero = FindsNothing
FindsBelow Finds (suc k) = FindsBoth (FindsBelow Finds k) (Finds k)

-- what is found is added at the end of a text
abbrev pub Adds : Finding → List ℕ → List ℕ → Bool → Type 0
Adds Finds old new clean = (text : List ℕ) × Finds clean text × (new ≡ old ++ text)

-- yes where nothing is wrong
abbrev pub status_of : Bool → Status
status_of clean = if clean then Yes else No
