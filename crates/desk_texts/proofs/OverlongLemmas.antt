-- When a comment stands before dependencies: where they are more than a schema file takes.
use Rattle.std.proofs.Common.{◌≡◌, ◌<◌, ◌≤◌, List, [], length, refl, inl, inr, arith}
use Rattle.std.proofs.lemmas.Bool.{cases_Bool, lt-ltb, ltb-true}
use Rattle.std.specs.Prelude.{codes, nat_lt}
use Rattle.dep_model.specs.Dependencies.{Dependency}
use Rattle.dep_model.specs.declared.theory.TheConstants.{MOST_DEPENDENCIES}
use Rattle.desk_texts.specs.Texts.{line, overlong_text}

pub overlong : (ds : List Dependency) → MOST_DEPENDENCIES < length ds
    → overlong_text ds ≡ line (codes "# more than 4096 dependencies: no schema file takes so many")
overlong ds more = rw (lt-ltb MOST_DEPENDENCIES (length ds) more) refl

pub not_overlong : (ds : List Dependency) → length ds ≤ MOST_DEPENDENCIES → overlong_text ds ≡ []
not_overlong ds few = elim (cases_Bool (nat_lt MOST_DEPENDENCIES (length ds))) [
  | inl more ↦ absurd (omega (arith, few, ltb-true MOST_DEPENDENCIES (length ds) more))
  | inr none ↦ rw none refl
]
