-- What may stand at a place of a page: for all its sections.
use Rattle.std.specs.Prelude.{◌≡◌, ℕ, zero, suc, List, [], ◌++◌, codes}
use Rattle.html_pages.specs.Pages.{folded_text, open_text, section_text}
use Rattle.desk_responses.specs.ResponseValues.{Allowed, ResponseValue}

-- which texts may stand at a place
abbrev pub Shown : Type 1
Shown = List ℕ → Type 0

-- just this text
abbrev pub Just : List ℕ → Shown
Just one text = text ≡ one

-- one after the other
abbrev pub Then : Shown → Shown → Shown
Then first rest text = (front : List ℕ) × (back : List ℕ) × first front × rest back × (text ≡ front ++ back)

-- what stands at each position below a number, one after the other
abbrev pub EachBelow : ℕ → (ℕ → Shown) → Shown
EachBelow zero piece = Just []
EachBelow (suc k) piece = Then (EachBelow k piece) (piece k)

-- what a command prints, where it allows these answers
abbrev pub Prints : Allowed → Shown
Prints answers text = (response : ResponseValue) × answers response × (text ≡ response.text)

-- what a command prints, below a title
abbrev pub Opens : List ℕ → Allowed → Shown
Opens title answers text = (printed : List ℕ) × Prints answers printed × (text ≡ open_text title printed)

-- the same, folded
abbrev pub Folds : List ℕ → Allowed → Shown
Folds title answers text = (printed : List ℕ) × Prints answers printed × (text ≡ folded_text title printed)

-- what `explain` prints of what stands before, folded
abbrev pub FoldsReasons : Allowed → Shown
FoldsReasons answers = Folds (codes "Why") answers

-- what a command prints, below a title, and what `explain` prints of it
abbrev pub OpensExplained : List ℕ → Allowed → Allowed → Shown
OpensExplained title answers explained = Then (Opens title answers) (FoldsReasons explained)

-- pieces below the heading of a section
abbrev pub Section : List ℕ → Shown → Shown
Section heading shown text = (pieces : List ℕ) × shown pieces × (text ≡ section_text heading pieces)
