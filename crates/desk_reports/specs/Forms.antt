-- The section of a page on the normal forms of the universe of a schema.
use Rattle.std.specs.Prelude.{◌⊎◌, ◌↔◌, ℕ, Bool, if◌then◌else◌, IsTrue, List, [], ◌∷◌, ◌++◌, codes}
use Rattle.attr_sets.specs.Attributes.{Attributes}
use Rattle.dep_model.specs.Dependencies.{Dependency, fd, mvd}
use Rattle.schema_model.specs.Schemas.{ImpliedBy, theory_of, universe_of, width_of}
use Rattle.schema_model.specs.Schemas.{Schema}
use Rattle.fd_closure.specs.LeftSides.{IsWideScheme}
use Rattle.html_pages.specs.Commands.{shell_word}
use Rattle.html_pages.specs.Pages.{title_with_words}
use Rattle.dep_model.specs.declared.form.Form.{Form}
use Rattle.dep_model.specs.declared.form.Form.TheVariants.{Third, Bcnf, Fourth}
use Rattle.which_form.specs.declared.forms.TestedForm.{TestedForm}
use Rattle.which_form.specs.declared.forms.TestedForm.TheVariants.{Second, Higher}
use Rattle.which_form.specs.Tested.{IsInTested, IsNamedViolation}
use Rattle.schema_printer.specs.Printing.{dependency_text}
use Rattle.schema_printer.specs.Spelling.{printed_names_of}
use Rattle.desk_designs.specs.FormsOfSchemes.{ListsFormOfAll}
use Rattle.desk_designs.specs.NormalForms.{JudgesForm, tested_violation_of}
use Rattle.desk_implication.specs.Implication.{DecidesGoal}
use Rattle.desk_reports.specs.Pieces.{Folds, Just, Opens, Section, Shown, Then}

-- the name of a normal form, at the start of a title
abbrev pub form_title : Form → List ℕ
form_title Third = codes "Third normal form"
form_title Bcnf = codes "Boyce-Codd normal form"
form_title Fourth = codes "Fourth normal form"

-- and that of a form that the universe is tested for
abbrev pub tested_title : TestedForm → List ℕ
tested_title Second = codes "Second normal form"
tested_title (Higher form) = form_title form

-- a dependency, as a goal of a schema
abbrev pub goal_text : Schema → Dependency → List ℕ
goal_text s d = dependency_text (printed_names_of s) d

-- the words that ask whether a goal is implied
abbrev pub goal_words : List ℕ → List ℕ → List ℕ
goal_words file goal = codes "implies " ++ shell_word file ++ codes " " ++ shell_word goal

-- whether the dependency that violates the form is implied
abbrev pub ShowsWhy : List ℕ → Schema → TestedForm → Attributes → Attributes → Shown
ShowsWhy file s form x y = Folds
    (title_with_words (codes "Why")
    (goal_words file (goal_text s (tested_violation_of form x y))))
    (DecidesGoal s (goal_text s (tested_violation_of form x y)))

-- the title above whether the left side of a violation determines all attributes by all dependencies: where it
-- does not, two rows store a functional violation twice, and agree on the left side of a multivalued one; where it
-- does, as beside multivalued dependencies a violation of second or third form may, it is a key
abbrev pub functional_title : Bool → List ℕ
functional_title is_key =
    if is_key then codes "Its left side is a key by all dependencies" else codes "Two rows that store it twice"

abbrev pub left_side_title : Dependency → Bool → List ℕ
left_side_title (fd x y) is_key = functional_title is_key
left_side_title (mvd x y) is_key = codes "Two rows that agree on its left side"

-- whether it does, of the violation of a form
abbrev pub ShowsLeftSide : Schema → TestedForm → Attributes → Attributes → Shown
ShowsLeftSide s form x y text =
    (is_key : Bool) × (IsTrue is_key ↔ ImpliedBy s (fd x (universe_of s)))
    × Folds (left_side_title (tested_violation_of form x y) is_key)
    (DecidesGoal s (goal_text s (fd x (universe_of s)))) text

-- why the universe is not in the form, where that is violated; nothing where it is not, or the universe is too wide
-- to be tested
abbrev pub ShowsViolation : List ℕ → Schema → TestedForm → Shown
ShowsViolation file s form text =
    ((IsWideScheme (theory_of s) (universe_of s) ⊎ IsInTested (width_of s) (theory_of s) form (universe_of s))
    × Just [] text)
    ⊎ ((IsWideScheme (theory_of s) (universe_of s) → ⊥)
    × ((x : Attributes) × (y : Attributes)
    × IsNamedViolation (width_of s) (theory_of s) form (universe_of s) x y
    × Then (ShowsWhy file s form x y) (ShowsLeftSide s form x y) text))

-- whether the universe is in the form, and why it is not
abbrev pub ShowsForm : List ℕ → Schema → TestedForm → Shown
ShowsForm file s form =
    Then (Opens (tested_title form) (JudgesForm s form (universe_of s ∷ []))) (ShowsViolation file s form)

-- which form the universe is in
abbrev pub ShowsWhichForm : List ℕ → Schema → Shown
ShowsWhichForm file s =
    Opens (title_with_words (codes "Which form") (codes "form " ++ shell_word file)) (ListsFormOfAll s)

-- each of the forms that the universe is tested for
abbrev pub ShowsEachForm : List ℕ → Schema → Shown
ShowsEachForm file s =
    Then (ShowsForm file s Second) (Then (ShowsForm file s (Higher Third))
    (Then (ShowsForm file s (Higher Bcnf)) (ShowsForm file s (Higher Fourth))))

abbrev pub FormsSection : List ℕ → Schema → Shown
FormsSection file s = Section (codes "Normal forms") (Then (ShowsWhichForm file s) (ShowsEachForm file s))
