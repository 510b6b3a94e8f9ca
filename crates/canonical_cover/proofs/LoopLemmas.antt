-- One turn of each loop: a dependency merged, a right side added.
use Rattle.std.proofs.Common.{◌≡◌, ℕ, ◌+◌, ◌<◌, suc, Bool, true, false, ◌&&◌, ◌||◌, List, [], ◌∷◌, ◌++◌, map, take, drop, length, get_or, refl, sym, subst, ap, ◌∙◌, append_assoc}
use mathlib.Core.Path.{fun_ext}
use Rattle.std.specs.List.{list_any}
use Rattle.std.proofs.Math.Seq.{drop-cons}
use Rattle.std.proofs.lemmas.List.{map_more, map-append}
use Rattle.std.proofs.lemmas.List.Folds.{list_any-append}
use Rattle.attr_sets.specs.Attributes.{Attributes}
use Rattle.attr_sets.proofs.AttributesLemmas.{same_at}
use Rattle.dep_model.specs.declared.dep.Dep.{Dep}
use Rattle.dep_model.specs.Dependencies.{Dependency, right_of}
use Rattle.dep_model.specs.Deps.{dependency_of, dependencies_of}
use Rattle.canonical_cover.specs.Merging.{have_same_left, merge_left_sides, with_right_sides}
use Rattle.canonical_cover.proofs.MergeLemmas.{beside, merge-passed, merge-added}

or-false_right : (a b : Bool) → (a || b) ≡ (a || (b || false))
or-false_right true b = refl
or-false_right false true = refl
or-false_right false false = refl

-- what those of a list that have a left side have on the right
abbrev pub gathered : Dependency → List Dependency → Attributes
gathered d ds k = list_any (λ e. have_same_left d e && right_of e k) ds

-- one more
pub gathered_next : (deps : List Dep) (i : ℕ) (first : Dep) (d : Dependency) (old new : Attributes) → i < length deps → old ≡ gathered d (dependencies_of (take i deps))
    → new ≡ (λ k. old k || (have_same_left d (dependency_of (get_or deps i first)) && right_of (dependency_of (get_or deps i first)) k))
    → new ≡ gathered d (dependencies_of (take (i + 1) deps))
gathered_next deps i first d old new lt before step = fun_ext (λ k.
    let e = dependency_of (get_or deps i first) in
    let front = dependencies_of (take i deps) in
    let test : Dependency → Bool = λ f. have_same_left d f && right_of f k in
    same_at step k
    ∙ ap (λ (b : Bool). b || test e) (same_at before k)
    ∙ or-false_right (list_any test front) (test e)
    ∙ sym (list_any-append test front (e ∷ [])) ∙ ap (λ (es : List Dependency). list_any test es) (sym (map_more dependency_of deps i first lt)))

-- ---- a dependency more
-- what is merged up to a position, and what is to come
abbrev pub AreMergedTo : List Dep → List Dep → ℕ → Type 0
AreMergedTo deps once i =
    merge_left_sides (dependencies_of deps) ≡ dependencies_of once ++ beside (dependencies_of once) (merge_left_sides (dependencies_of (drop i deps)))

any_of_map : {X Y : Type 0} (f : X → Y) (p : Y → Bool) (xs : List X) → list_any p (map f xs) ≡ list_any (λ x. p (f x)) xs
any_of_map f p [] = refl
any_of_map f p (x ∷ xs) = ap (λ (b : Bool). p (f x) || b) (any_of_map f p xs)

merged_next : (deps once : List Dep) (i : ℕ) (first : Dep) → i < length deps → AreMergedTo deps once i
    → merge_left_sides (dependencies_of deps)
    ≡ dependencies_of once ++ beside (dependencies_of once) (merge_left_sides (dependency_of (get_or deps i first) ∷ dependencies_of (drop (suc i) deps)))
merged_next deps once i first lt before =
    before ∙ ap (λ (ds : List Dep). dependencies_of once ++ beside (dependencies_of once) (merge_left_sides (dependencies_of ds))) (drop-cons deps i first lt)

pub merged_passed : (deps once : List Dep) (i next : ℕ) (first : Dep) → next ≡ suc i → i < length deps → AreMergedTo deps once i
    → list_any (λ o. have_same_left (dependency_of o) (dependency_of (get_or deps i first))) once ≡ true → AreMergedTo deps once next
merged_passed deps once i next first is_next lt before stands =
    let e = dependency_of (get_or deps i first) in
    let rest = dependencies_of (drop (suc i) deps) in
    subst (λ (k : ℕ). AreMergedTo deps once k) (sym is_next)
    (merged_next deps once i first lt before
    ∙ ap (λ (ds : List Dependency). dependencies_of once ++ ds)
    (merge-passed (dependencies_of once) e rest (any_of_map dependency_of (λ o. have_same_left o e) once ∙ stands)))

pub merged_added : (deps once : List Dep) (i next : ℕ) (first new : Dep) → next ≡ suc i → i < length deps → AreMergedTo deps once i
    → list_any (λ o. have_same_left (dependency_of o) (dependency_of (get_or deps i first))) once ≡ false
    → dependency_of new ≡ with_right_sides (dependencies_of (drop i deps)) (dependency_of (get_or deps i first))
    → AreMergedTo deps (once ++ new ∷ []) next
merged_added deps once i next first new is_next lt before none grown =
    let e = dependency_of (get_or deps i first) in
    let rest = dependencies_of (drop (suc i) deps) in
    let w = with_right_sides (e ∷ rest) e in
    let is : dependency_of new ≡ w = grown ∙ ap (λ (ds : List Dep). with_right_sides (dependencies_of ds) e) (drop-cons deps i first lt) in
    let more : dependencies_of (once ++ new ∷ []) ≡ dependencies_of once ++ w ∷ [] =
    map-append dependency_of once (new ∷ []) ∙ ap (λ (d : Dependency). dependencies_of once ++ d ∷ []) is in
    subst (λ (k : ℕ). AreMergedTo deps (once ++ new ∷ []) k) (sym is_next)
    (merged_next deps once i first lt before
    ∙ ap (λ (ds : List Dependency). dependencies_of once ++ ds)
    (merge-added (dependencies_of once) e rest (any_of_map dependency_of (λ o. have_same_left o e) once ∙ none))
    ∙ sym (append_assoc (dependencies_of once) (w ∷ []) (beside (dependencies_of once ++ w ∷ []) (merge_left_sides rest)))
    ∙ ap (λ (ds : List Dependency). ds ++ beside ds (merge_left_sides rest)) (sym more))
