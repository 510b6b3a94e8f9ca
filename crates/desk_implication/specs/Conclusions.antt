-- What is printed of a text that proves a goal, or concludes another: for `check proof` and `check derivation`.
use Rattle.std.specs.Prelude.{List, codes, ℕ, ◌++◌}
use Rattle.dep_model.specs.Dependencies.{Dependency}
use Rattle.schema_printer.specs.Printing.{dependency_text}
use Rattle.desk_texts.specs.Texts.{line}

abbrev pub checked_text : List (List ℕ) → Dependency → List ℕ
checked_text names d = line (codes "checked " ++ dependency_text names d)

-- what a text concludes, and what was asked
abbrev pub concludes_text : List (List ℕ) → Dependency → Dependency → List ℕ
concludes_text names concluded asked =
    line (codes "concludes " ++ dependency_text names concluded)
    ++ line (codes "asked " ++ dependency_text names asked)
