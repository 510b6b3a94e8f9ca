-- The sample: persons, each in a city, with any of two skills beside any of two tongues. For
-- `sample` (`desk_tables/Migrations`).
use Rattle.std.specs.Prelude.{ℕ, ◌+◌, ◌*◌, ◌%◌, List, [], ◌∷◌, ◌++◌, map, codes}
use Rattle.std.specs.List.{flat_map, range_with_len}
use Rattle.std.specs.Fmt.{decimal}
use Rattle.attr_sets.specs.Attributes.{only}
use Rattle.dep_model.specs.Tuples.{Tuple, Relation}
use Rattle.dep_model.specs.Dependencies.{Dependency, fd, mvd}

-- the names of the attributes
abbrev pub sample_names : List (List ℕ)
sample_names = codes "PERSON" ∷ codes "CITY" ∷ codes "SKILL" ∷ codes "TONGUE" ∷ []

-- `PERSON -> CITY` and `PERSON ->> SKILL`
abbrev pub sample_theory : List Dependency
sample_theory = fd (only 0) (only 1) ∷ mvd (only 0) (only 2) ∷ []

-- the row of a person with one of the two skills and one of the two tongues
abbrev pub sample_row : ℕ → ℕ → ℕ → Tuple
sample_row person skill tongue =
    (codes "p" ++ decimal person)
    ∷ (codes "c" ++ decimal (person % 100))
    ∷ (codes "s" ++ decimal ((3 * person + skill) % 50))
    ∷ (codes "l" ++ decimal ((7 * person + tongue) % 20))
    ∷ []

-- the rows of a person: one for each skill, and within a skill one for each tongue
abbrev pub person_rows : ℕ → Relation
person_rows person =
    flat_map (λ skill. map (λ tongue. sample_row person skill tongue) (range_with_len 0 2))
    (range_with_len 0 2)

-- the rows of so many persons, who are numbered from 0
abbrev pub sample_relation : ℕ → Relation
sample_relation persons = flat_map person_rows (range_with_len 0 persons)
