-- The dependencies that do not follow, gathered in the order of the file.
use Rattle.std.proofs.Common.{◌≡◌, ℕ, ◌+◌, ◌<◌, ◌≤◌, ◌↔◌, ◌⊎◌, inl, inr, List, [], ◌∷◌, ◌++◌, length, get_or}
use Rattle.std.proofs.Common.{Option, Some, refl, sym, ◌∙◌, ap, subst, ⊎_elim, arith}
use Rattle.std.specs.Prelude.{All, AllPairs, Contains, slice_get, option_map}
use Rattle.std.proofs.lemmas.Bool.{cases_eq}
use Rattle.std.proofs.lemmas.List.{length-map}
use Rattle.std.proofs.lemmas.List.Elements.{Contains-append_left, Contains-push, Contains-push_cases, Contains-get_or}
use Rattle.std.proofs.lemmas.List.Quantifiers.{all_pairs_push}
use Rattle.std.proofs.lemmas.Option.{slice_get-map, same_Some, slice_get_within, slice_get-get_or}
use Rattle.std.proofs.lemmas.Option.{get_or_from_slice_get}
use Rattle.dep_model.specs.declared.dep.Dep.{Dep}
use Rattle.schema_model.specs.Schemas.{Schema}
use Rattle.dep_model.specs.Dependencies.{Dependency, IsWithin}
use Rattle.dep_model.specs.Deps.{dependency_of, IsDepWithin}
use Rattle.schema_model.specs.Schemas.{deps_of, universe_of, theory_of, ImpliedBy}
use Rattle.dep_model.proofs.ListLemmas.{Contains-head}
use Rattle.schema_match.specs.Carried.{carry_dependency, FollowsInSchema, IsImpliedBy}
use Rattle.schema_match.specs.Differences.{IsDifference, AreDifferences}
use Rattle.schema_match.specs.Namesakes.{AreNamesakes}
use Rattle.schema_match.proofs.MatchLemmas.{carry_dependency-within}

-- the same of the first n dependencies
pub record AreDifferencesTo (schema other : Schema) (n : ℕ) (numbers : List ℕ) : Type 0 where
  pub each : (k : ℕ) → Contains numbers k → (k < n) × IsDifference schema other k
  pub all : (k : ℕ) (d : Dependency) → k < n → slice_get (theory_of schema) k ≡ Some d
      → Contains numbers k ⊎ FollowsInSchema other schema d
  pub ascending : AllPairs (λ j k. j < k) numbers

same_dependency : (d e : Dependency) → Some d ≡ Some e → d ≡ e
same_dependency d e same = same_Some d e same

-- the next one follows
pub differences_follow : (schema other : Schema) (n : ℕ) (numbers : List ℕ) (d : Dependency)
    → AreDifferencesTo schema other n numbers
    → slice_get (theory_of schema) n ≡ Some d → FollowsInSchema other schema d
    → AreDifferencesTo schema other (n + 1) numbers
differences_follow schema other n numbers d before here follows = record {
  each = λ k h. let found = before.each k h in (omega (arith, found.0), found.1);
  all = λ k e lt read. ⊎_elim
      (λ (last : k ≡ n).
      let same : d ≡ e = same_dependency d e
      (sym here ∙ ap (λ (j : ℕ). slice_get (theory_of schema) j) (sym last) ∙ read) in
      inr (subst (λ (f : Dependency). FollowsInSchema other schema f) same follows))
      (λ (earlier : k ≡ n → ⊥). before.all k e (omega (arith, lt, earlier)) read)
      (cases_eq k n);
  ascending = before.ascending;
}

-- it does not
pub differences_differ : (schema other : Schema) (n : ℕ) (numbers : List ℕ) (d : Dependency)
    → AreDifferencesTo schema other n numbers
    → slice_get (theory_of schema) n ≡ Some d → (FollowsInSchema other schema d → ⊥)
    → AreDifferencesTo schema other (n + 1) (numbers ++ n ∷ [])
differences_differ schema other n numbers d before here fails = record {
  each = λ k h. ⊎_elim
      (λ old. let found = before.each k old in (omega (arith, found.0), found.1))
      (λ (new : n ≡ k). (omega (arith, new), subst (λ (j : ℕ). IsDifference schema other j) new (d, here, fails)))
      (Contains-push_cases numbers n k h);
  all = λ k e lt read. ⊎_elim
      (λ (last : k ≡ n). inl (subst (λ (j : ℕ). Contains (numbers ++ n ∷ []) j) (sym last) (Contains-push numbers n)))
      (λ (earlier : k ≡ n → ⊥). ⊎_elim
      (λ old. inl (Contains-append_left numbers (n ∷ []) k old))
      (λ follows. inr follows)
      (before.all k e (omega (arith, lt, earlier)) read))
      (cases_eq k n);
  ascending = all_pairs_push (λ j k. j < k) numbers n before.ascending
      (λ k e lt. (before.each (get_or numbers k e) (Contains-get_or numbers k e lt)).0);
}

pub differences_done : (schema other : Schema) (n : ℕ) (numbers : List ℕ) → length (deps_of schema) ≤ n
    → AreDifferencesTo schema other n numbers
    → AreDifferences schema other numbers
differences_done schema other n numbers all_seen before = record {
  each = λ k h. (before.each k h).1;
  all = λ k d read. before.all k d
      (omega (
        arith,
        all_seen,
        slice_get_within (theory_of schema) k d read,
        length-map
            (deps_of schema) dependency_of,
      )) read;
  ascending = before.ascending;
}

-- each is the number of a dependency
pub differences_inside : (schema other : Schema) (numbers : List ℕ) → AreDifferences schema other numbers
    → All (λ k. k < length (deps_of schema)) numbers
differences_inside schema other numbers are k d lt =
    let found = are.each (get_or numbers k d) (Contains-get_or numbers k d lt) in
    let inside = slice_get_within (theory_of schema) (get_or numbers k d) found.0 found.1 in
    omega (arith, inside, length-map (deps_of schema) dependency_of)

-- the dependency of a number
pub dependency_at : (schema : Schema) (k : ℕ) (d : Dep) → k < length (deps_of schema)
    → slice_get (theory_of schema) k ≡ Some (dependency_of (get_or (deps_of schema) k d))
dependency_at schema k d lt = slice_get-map dependency_of (deps_of schema) k
    ∙ ap (λ (o : Option Dep). option_map dependency_of o) (slice_get-get_or (deps_of schema) k d lt)

-- there is none exactly where all follow
all_follow : (schema other : Schema) (numbers : List ℕ) → AreDifferences schema other numbers → numbers ≡ []
    → IsImpliedBy other schema
all_follow schema other numbers are none k d lt =
    ⊎_elim
    (λ (not_empty : Contains numbers k). absurd (omega (arith, not_empty.1, ap (λ (xs : List ℕ). length xs) none)))
    (λ follows. follows)
    (are.all k (get_or (theory_of schema) k d) (slice_get-get_or (theory_of schema) k d lt))

no_difference : (schema other : Schema) (numbers : List ℕ) → AreDifferences schema other numbers
    → IsImpliedBy other schema → numbers ≡ []
no_difference schema other [] are follow = refl
no_difference schema other (k ∷ numbers) are follow =
    let found = are.each k (Contains-head k numbers) in
    let d = found.0 in
    let lt = slice_get_within (theory_of schema) k d found.1 in
    let read : get_or (theory_of schema) k d ≡ d = get_or_from_slice_get (theory_of schema) k d d found.1 in
    absurd (found.2 (subst (λ (e : Dependency). FollowsInSchema other schema e) read (follow k d lt)))

pub none_exactly : (schema other : Schema) (numbers : List ℕ) → AreDifferences schema other numbers
    → (numbers ≡ []) ↔ IsImpliedBy other schema
none_exactly schema other numbers are = (all_follow schema other numbers are, no_difference schema other numbers are)

-- ---- what is carried over is a dependency of the schema
pub carried_here : (schema other : Schema) (deps : List Dep) (attributes namesakes : List ℕ) (k : ℕ) (d : Dep)
    (e : Dependency) → deps ≡ deps_of schema → attributes ≡ namesakes
    → AreNamesakes schema other namesakes → k < length deps
    → ((s o : Schema) → AreNamesakes s o attributes → IsDepWithin (universe_of s) (get_or deps k d)
    → e ≡ carry_dependency s o (dependency_of (get_or deps k d)))
    → (f : Dependency) × (slice_get (theory_of schema) k ≡ Some f) × (e ≡ carry_dependency schema other f)
carried_here schema other deps attributes namesakes k d e same same_attributes are lt carries =
    let inside : k < length (deps_of schema) = subst (λ (ds : List Dep). k < length ds) same lt in
    let within : IsDepWithin (universe_of schema) (get_or deps k d) =
    subst (λ (ds : List Dep). IsDepWithin (universe_of schema) (get_or ds k d)) (sym same)
    (schema.valid.deps_within k d inside) in
    let named : AreNamesakes schema other attributes =
    subst (λ (xs : List ℕ). AreNamesakes schema other xs) (sym same_attributes) are in (
      dependency_of (get_or (deps_of schema) k d),
      dependency_at schema k d inside,
      carries schema other named within
          ∙ ap (λ (ds : List Dep). carry_dependency schema other (dependency_of (get_or ds k d))) same,
    )

pub carried_within : (schema other : Schema) (e f : Dependency) → e ≡ carry_dependency schema other f
    → IsWithin (universe_of other) e
carried_within schema other e f is =
    subst (λ (g : Dependency). IsWithin (universe_of other) g) (sym is) (carry_dependency-within schema other f)

pub implied_is : (schema other : Schema) (e f : Dependency) → e ≡ carry_dependency schema other f → ImpliedBy other e
    → FollowsInSchema other schema f
implied_is schema other e f is implied = subst (λ (g : Dependency). ImpliedBy other g) is implied

pub follows_is : (schema other : Schema) (e f : Dependency) → e ≡ carry_dependency schema other f
    → FollowsInSchema other schema f → ImpliedBy other e
follows_is schema other e f is follows = subst (λ (g : Dependency). ImpliedBy other g) (sym is) follows
