-- What the rows of the irreducible closed sets that were found of a schema show.
use Rattle.std.proofs.Common.{◌≡◌, ℕ, ◌<◌, ◌≤◌, List, length, sym, subst, ap, ◌∙◌, arith}
use Rattle.std.proofs.lemmas.List.{length-map}
use Rattle.attr_sets.specs.Attributes.{Attributes, count_below}
use Rattle.attr_sets.specs.Sets.{attributes}
use Rattle.attr_sets.specs.declared.set.AttrSet.{AttrSet}
use Rattle.attr_sets.specs.declared.set.TheConstants.{MOST_ATTRIBUTES}
use Rattle.dep_model.specs.declared.dep.Dep.{Dep}
use Rattle.dep_model.specs.Theories.{Theory}
use Rattle.dep_model.specs.Dependencies.{functional_part}
use Rattle.dep_model.specs.Deps.{dependencies_of}
use Rattle.dep_model.specs.Plans.{schemes_of}
use Rattle.dep_model.specs.Theories.{width_of, theory_of, deps_of}
use Rattle.dep_model.specs.Tuples.{Relation}
use Rattle.fd_closure.specs.LeftSides.{left_sides}
use Rattle.armstrong_rel.specs.declared.refusal.TheConstants.{MOST_EXHIBITED_ROWS}
use Rattle.armstrong_rel.specs.Exhibits.{tuples_for}
use Rattle.armstrong_rel.specs.Refusals.{IsFunctional}
use Rattle.armstrong_rel.specs.Searching.{AreFoundSets}
use Rattle.armstrong_rel.proofs.ExactLemmas.{IsLegalExhibit, tuples_for_exhibit}
use Rattle.armstrong_rel.proofs.FoundLemmas.{found_all}
use Rattle.armstrong_rel.proofs.TupleLemmas.{length-tuples_for}

-- the list that was read from a schema is functional
pub schema_functional : (s : Theory) (deps : List Dep) → deps ≡ deps_of s → functional_part (dependencies_of deps) ≡ dependencies_of deps → IsFunctional s
schema_functional s deps same functional =
    subst (λ (ds : List Dep). functional_part (dependencies_of ds) ≡ dependencies_of ds) same functional

-- how many attributes stand in left sides
pub left_count : (s : Theory) (deps : List Dep) (used : Attributes) → deps ≡ deps_of s → used ≡ left_sides (dependencies_of deps)
    → count_below used MOST_ATTRIBUTES ≡ count_below (left_sides (theory_of s)) MOST_ATTRIBUTES
left_count s deps used same is =
    ap (λ (x : Attributes). count_below x MOST_ATTRIBUTES) (is ∙ ap (λ (ds : List Dep). left_sides (dependencies_of ds)) same)

-- the rows of the sets that were found, where they are all
pub found_exhibit : (s : Theory) (n : ℕ) (found given : List AttrSet) (rows : Relation) → n ≡ width_of s → IsFunctional s
    → AreFoundSets (width_of s) (theory_of s) found → length found < MOST_EXHIBITED_ROWS → given ≡ found
    → rows ≡ tuples_for n (schemes_of given) → IsLegalExhibit s rows × (length rows ≤ MOST_EXHIBITED_ROWS)
found_exhibit s n found given rows width functional sets few same is =
    let made : rows ≡ tuples_for (width_of s) (schemes_of found) =
    is ∙ ap (λ (m : ℕ). tuples_for m (schemes_of given)) width ∙ ap (λ (xs : List AttrSet). tuples_for (width_of s) (schemes_of xs)) same in
    let long : length (schemes_of found) ≡ length found = length-map found attributes in
    let rows_long = length-tuples_for (width_of s) (schemes_of found) in (
      subst (IsLegalExhibit s) (sym made)
          (tuples_for_exhibit s (schemes_of found) functional (found_all (width_of s) (theory_of s) found sets few) (omega (arith, long, few))),
      omega (arith, ap length made, rows_long, long, few),
    )
