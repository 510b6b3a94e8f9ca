-- One turn of each loop: a dependency grouped, a left side found, a scheme tried.
use Rattle.std.proofs.Common.{◌≡◌, ℕ, ◌+◌, ◌<◌, suc, Bool, true, false, ◌&&◌, ◌||◌, List, [], ◌∷◌, ◌++◌, map, take, drop, length, get_or, refl, sym, subst, ap, ◌∙◌, ⊎_elim, append_assoc}
use mathlib.Core.Path.{fun_ext}
use Rattle.std.specs.Prelude.{Any}
use Rattle.std.specs.List.{list_any}
use Rattle.std.proofs.Math.Seq.{drop-cons}
use Rattle.std.proofs.lemmas.List.{take_more, map-append}
use Rattle.std.proofs.lemmas.List.Elements.{Contains-push_cases}
use Rattle.std.proofs.lemmas.List.Folds.{list_any-append}
use Rattle.attr_sets.specs.declared.set.AttrSet.{AttrSet}
use Rattle.attr_sets.specs.Attributes.{Attributes}
use Rattle.attr_sets.specs.Sets.{attributes, is_same}
use Rattle.dep_model.specs.declared.dep.Dep.{Dep}
use Rattle.dep_model.specs.Dependencies.{Dependency, left_of, right_of}
use Rattle.dep_model.specs.Deps.{dependency_of, dependencies_of}
use Rattle.dep_model.specs.Plans.{schemes_of}
use Rattle.dep_model.proofs.ListLemmas.{Any-from}
use Rattle.synthesis_3nf.specs.Groups.{left_sides_after, group_scheme}
use Rattle.attr_sets.proofs.AttributesLemmas.{same_at}
use Rattle.synthesis_3nf.proofs.GroupLemmas.{left_passed, left_added}

-- the front of a list and one element more, mapped
map-take_next : {X Y : Type 0} (f : X → Y) (xs : List X) (i : ℕ) (d : X) → i < length xs → map f (take (i + 1) xs) ≡ map f (take i xs) ++ f (get_or xs i d) ∷ []
map-take_next {X = X} f xs i d lt = ap (λ (ys : List X). map f ys) (take_more xs i d lt) ∙ map-append f (take i xs) (get_or xs i d ∷ [])

or-false_right : (a b c : Bool) → ((a || b) || c) ≡ (a || (b || (c || false)))
or-false_right true b c = refl
or-false_right false true c = refl
or-false_right false false true = refl
or-false_right false false false = refl

-- ---- a dependency more in a group
pub group_scheme-take_next : (deps : List Dep) (i : ℕ) (d : Dep) (x old new : Attributes) → i < length deps → old ≡ group_scheme (dependencies_of (take i deps)) x
    → new ≡ (λ k. old k || (is_same x (left_of (dependency_of (get_or deps i d))) && right_of (dependency_of (get_or deps i d)) k))
    → new ≡ group_scheme (dependencies_of (take (i + 1) deps)) x
group_scheme-take_next deps i d x old new lt before step = fun_ext (λ k.
    let e = dependency_of (get_or deps i d) in
    let front = dependencies_of (take i deps) in
    let test : Dependency → Bool = λ f. is_same x (left_of f) && right_of f k in
    let here = is_same x (left_of e) && right_of e k in
    same_at step k
    ∙ ap (λ (b : Bool). b || here) (same_at before k)
    ∙ or-false_right (x k) (list_any test front) here
    ∙ ap (λ (b : Bool). x k || b) (sym (list_any-append test front (e ∷ [])) ∙ ap (λ (es : List Dependency). list_any test es) (sym (map-take_next dependency_of deps i d lt))))

-- ---- a left side more
-- the left sides up to a position, and those to come
abbrev pub AreLeftsTo : List Dep → List AttrSet → ℕ → Type 0
AreLeftsTo deps lefts i = left_sides_after [] (dependencies_of deps) ≡ schemes_of lefts ++ left_sides_after (schemes_of lefts) (dependencies_of (drop i deps))

any_of_map : {X Y : Type 0} (f : X → Y) (p : Y → Bool) (xs : List X) → list_any p (map f xs) ≡ list_any (λ x. p (f x)) xs
any_of_map f p [] = refl
any_of_map f p (x ∷ xs) = ap (λ (b : Bool). p (f x) || b) (any_of_map f p xs)

list_any-schemes_of : (lefts : List AttrSet) (left : AttrSet) (x : Attributes) (b : Bool) → attributes left ≡ x → list_any (λ o. is_same (attributes o) (attributes left)) lefts ≡ b
    → list_any (λ y. is_same y x) (schemes_of lefts) ≡ b
list_any-schemes_of lefts left x b same fact = any_of_map attributes (λ y. is_same y x) lefts ∙ ap (λ (y : Attributes). list_any (λ o. is_same (attributes o) y) lefts) (sym same) ∙ fact

left_sides_after-next : (deps : List Dep) (lefts : List AttrSet) (i : ℕ) (d : Dep) → i < length deps → AreLeftsTo deps lefts i
    → left_sides_after [] (dependencies_of deps) ≡ schemes_of lefts ++ left_sides_after (schemes_of lefts) (dependency_of (get_or deps i d) ∷ dependencies_of (drop (suc i) deps))
left_sides_after-next deps lefts i d lt before = before ∙ ap (λ (ds : List Dep). schemes_of lefts ++ left_sides_after (schemes_of lefts) (dependencies_of ds)) (drop-cons deps i d lt)

pub lefts_passed : (deps : List Dep) (lefts : List AttrSet) (i next : ℕ) (d : Dep) (left : AttrSet) → next ≡ suc i → i < length deps → AreLeftsTo deps lefts i
    → attributes left ≡ left_of (dependency_of (get_or deps i d)) → list_any (λ o. is_same (attributes o) (attributes left)) lefts ≡ true → AreLeftsTo deps lefts next
lefts_passed deps lefts i next d left is_next lt before same fact =
    let e = dependency_of (get_or deps i d) in
    subst (λ (k : ℕ). AreLeftsTo deps lefts k) (sym is_next)
    (left_sides_after-next deps lefts i d lt before
    ∙ ap (λ (xs : List Attributes). schemes_of lefts ++ xs) (left_passed (schemes_of lefts) e (dependencies_of (drop (suc i) deps)) (list_any-schemes_of lefts left (left_of e) true same fact)))

pub lefts_added : (deps : List Dep) (lefts : List AttrSet) (i next : ℕ) (d : Dep) (left : AttrSet) → next ≡ suc i → i < length deps → AreLeftsTo deps lefts i
    → attributes left ≡ left_of (dependency_of (get_or deps i d)) → list_any (λ o. is_same (attributes o) (attributes left)) lefts ≡ false → AreLeftsTo deps (lefts ++ left ∷ []) next
lefts_added deps lefts i next d left is_next lt before same fact =
    let e = dependency_of (get_or deps i d) in
    let rest = dependencies_of (drop (suc i) deps) in
    let more : schemes_of (lefts ++ left ∷ []) ≡ schemes_of lefts ++ left_of e ∷ [] = map-append attributes lefts (left ∷ []) ∙ ap (λ (y : Attributes). schemes_of lefts ++ y ∷ []) same in
    subst (λ (k : ℕ). AreLeftsTo deps (lefts ++ left ∷ []) k) (sym is_next)
    (left_sides_after-next deps lefts i d lt before
    ∙ ap (λ (xs : List Attributes). schemes_of lefts ++ xs) (left_added (schemes_of lefts) e rest (list_any-schemes_of lefts left (left_of e) false same fact))
    ∙ sym (append_assoc (schemes_of lefts) (left_of e ∷ []) (left_sides_after (schemes_of lefts ++ left_of e ∷ []) rest))
    ∙ ap (λ (xs : List Attributes). xs ++ left_sides_after xs rest) (sym more))

-- ---- a scheme more
pub schemes_more : (f : Attributes → Attributes) (lefts schemes : List AttrSet) (i : ℕ) (x scheme : AttrSet) → i < length lefts → schemes_of schemes ≡ map f (schemes_of (take i lefts))
    → attributes scheme ≡ f (attributes (get_or lefts i x)) → schemes_of (schemes ++ scheme ∷ []) ≡ map f (schemes_of (take (i + 1) lefts))
schemes_more f lefts schemes i x scheme lt before is =
    let e = attributes (get_or lefts i x) in
    map-append attributes schemes (scheme ∷ [])
    ∙ ap (λ (xs : List Attributes). xs ++ attributes scheme ∷ []) before
    ∙ ap (λ (y : Attributes). map f (schemes_of (take i lefts)) ++ y ∷ []) is
    ∙ sym (map-append f (schemes_of (take i lefts)) (e ∷ []))
    ∙ ap (λ (xs : List Attributes). map f xs) (sym (map-take_next attributes lefts i x lt))

-- ---- a scheme tried
-- no scheme up to a position is such, nor the one at the position
pub none_more : (P : Attributes → Type 0) (schemes : List AttrSet) (i : ℕ) (x : AttrSet) → i < length schemes → (Any P (schemes_of (take i schemes)) → ⊥) → (P (attributes (get_or schemes i x)) → ⊥)
    → Any P (schemes_of (take (i + 1) schemes)) → ⊥
none_more P schemes i x lt none other found =
    let e = attributes (get_or schemes i x) in
    let more = subst (λ (xs : List Attributes). Any P xs) (map-take_next attributes schemes i x lt) found in
    ⊎_elim
    (λ old. none (Any-from P (schemes_of (take i schemes)) more.1 old more.4))
    (λ new. other (subst P (sym new) more.4))
    (Contains-push_cases (schemes_of (take i schemes)) e more.1 (more.0, more.2, more.3))
