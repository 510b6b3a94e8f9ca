-- The section of a page on the dependencies of a schema.
use Rattle.std.specs.Prelude.{◌≡◌, ◌↔◌, ℕ, Bool, if◌then◌else◌, IsTrue, List, ◌++◌, codes, length, slice_get, Some}
use Rattle.std.specs.List.{remove}
use Rattle.dep_model.specs.Dependencies.{Dependency}
use Rattle.dep_model.specs.Implication.{Implies}
use Rattle.schema_model.specs.Schemas.{deps_of, lines_of, theory_of, width_of}
use Rattle.schema_model.specs.Schemas.{Schema}
use Rattle.html_pages.specs.Escapes.{html_text}
use Rattle.schema_printer.specs.Spelling.{printed_names_of}
use Rattle.desk_responses.specs.Lines.{dep_text, line_number_text}
use Rattle.desk_reports.specs.Pieces.{EachBelow, Just, Section, Shown, Then}

-- the dependency at a position follows from the others
abbrev pub FollowsFromOthers : Schema → ℕ → Type 0
FollowsFromOthers s k = (d : Dependency) → slice_get (theory_of s) k ≡ Some d
    → Implies (width_of s) (remove (theory_of s) k) d

-- what is said of a dependency that follows from the others
abbrev pub follows_mark : Bool → List ℕ
follows_mark follows = if follows then codes " (follows from the others)" else codes ""

-- a dependency, with the line of the file on which it stands
unfoldable pub rule_text : Schema → ℕ → Bool → List ℕ
rule_text s k follows =
    codes "<li>line " ++ line_number_text (slice_get (lines_of s) k) ++ codes ": "
    ++ html_text (dep_text (printed_names_of s) (slice_get (deps_of s) k))
    ++ follows_mark follows ++ codes "</li>\n"

-- the same, which says whether it follows from the others
abbrev pub ShowsRule : Schema → ℕ → Shown
ShowsRule s k text = (follows : Bool) × (IsTrue follows ↔ FollowsFromOthers s k) × (text ≡ rule_text s k follows)

-- each dependency, in the order of the file
abbrev pub ShowsRules : Schema → Shown
ShowsRules s =
    Then (Just (codes "<ul>\n")) (Then (EachBelow (length (deps_of s)) (ShowsRule s)) (Just (codes "</ul>\n")))

abbrev pub RulesSection : Schema → Shown
RulesSection s = Section (codes "Rules") (ShowsRules s)
