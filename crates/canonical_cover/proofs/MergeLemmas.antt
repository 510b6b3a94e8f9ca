-- Dependencies with the same left side, and lists in which each left side stands once.
use Rattle.std.proofs.Common.{◌≡◌, ℕ, ◌<◌, Bool, true, false, not, ◌&&◌, ◌||◌, List, [], ◌∷◌, ◌++◌, refl, sym, ap, subst, ◌∙◌, filter, arith}
use Rattle.std.specs.Prelude.{if◌then◌else◌, All, Contains}
use Rattle.std.specs.List.{list_any}
use Rattle.std.proofs.lemmas.Bool.{and_parts, and_from, true≢false, false≢true, cases_Bool, false_from_ne_true}
use Rattle.std.proofs.lemmas.List.Elements.{All-nil, All-cons, All-head, All-tail, All-filter, All-contains}
use Rattle.std.proofs.lemmas.List.Folds.{list_any-append, Any-from_list_any, list_any-from_Any}
use Rattle.attr_sets.specs.declared.set.TheConstants.{MOST_ATTRIBUTES}
use Rattle.attr_sets.specs.Attributes.{Attributes}
use Rattle.attr_sets.specs.Sets.{is_subset, is_same}
use Rattle.attr_sets.proofs.AttributesLemmas.{all_below-true, all_below-from, same_truth}
use Rattle.dep_model.specs.Dependencies.{Dependency, fd, mvd, is_fd, left_of, right_of, IsWithin}
use Rattle.dep_model.proofs.ListLemmas.{Any-weaker}
use Rattle.canonical_cover.specs.Merging.{have_same_left, merge_left_sides, with_right_sides}

-- ---- the same left side
-- sets that are the same have the same attributes below the width
same_below : (x y : Attributes) → is_same x y ≡ true → (k : ℕ) → k < MOST_ATTRIBUTES → x k ≡ y k
same_below x y same k low =
    let both = and_parts (is_subset x y) (is_subset y x) same in
    let there = all_below-true MOST_ATTRIBUTES (λ j. not (x j) || y j) both.0 k low in
    let back = all_below-true MOST_ATTRIBUTES (λ j. not (y j) || x j) both.1 k low in
    same_truth (x k) (y k) (λ m. grind (arith, there, m)) (λ m. grind (arith, back, m))

below_same : (x y : Attributes) → ((k : ℕ) → k < MOST_ATTRIBUTES → x k ≡ y k) → is_same x y ≡ true
below_same x y same =
    and_from (is_subset x y) (is_subset y x)
    (all_below-from MOST_ATTRIBUTES (λ j. not (x j) || y j) (λ k low. grind (arith, same k low)))
    (all_below-from MOST_ATTRIBUTES (λ j. not (y j) || x j) (λ k low. grind (arith, same k low)))

is_same-sym : (x y : Attributes) → is_same x y ≡ true → is_same y x ≡ true
is_same-sym x y same = below_same y x (λ k low. sym (same_below x y same k low))

is_same-trans : (x y z : Attributes) → is_same x y ≡ true → is_same y z ≡ true → is_same x z ≡ true
is_same-trans x y z first second = below_same x z (λ k low. same_below x y first k low ∙ same_below y z second k low)

pub same_left-trans : (d e f : Dependency) → have_same_left d e ≡ true → have_same_left e f ≡ true → have_same_left d f ≡ true
same_left-trans (fd x y) (fd v w) (fd p q) first second = is_same-trans x v p first second
same_left-trans (fd x y) (fd v w) (mvd p q) first second = absurd (false≢true second)
same_left-trans (fd x y) (mvd v w) f first second = absurd (false≢true first)
same_left-trans (mvd x y) e f first second = absurd (false≢true first)

pub same_left-sym : (d e : Dependency) → have_same_left d e ≡ true → have_same_left e d ≡ true
same_left-sym (fd x y) (fd v w) same = is_same-sym x v same
same_left-sym (fd x y) (mvd v w) same = absurd (false≢true same)
same_left-sym (mvd x y) e same = absurd (false≢true same)

-- all right sides change nothing of the left side
pub same_left-grown : (ds : List Dependency) (d e : Dependency) → have_same_left (with_right_sides ds d) e ≡ have_same_left d e
same_left-grown ds (fd x y) e = refl
same_left-grown ds (mvd x y) e = refl

pub grown-same_left : (ds : List Dependency) (d e : Dependency) → have_same_left e (with_right_sides ds d) ≡ have_same_left e d
grown-same_left ds (fd x y) e = refl
grown-same_left ds (mvd x y) e = refl

-- ---- what stands beside others
-- a list without those that have the left side of one of others
abbrev pub beside : List Dependency → List Dependency → List Dependency
beside done ds = filter (λ e. not (list_any (λ o. have_same_left o e) done)) ds

and-true : (b : Bool) → (b && true) ≡ b
and-true true = refl
and-true false = refl

and-false : (b : Bool) → (b && false) ≡ false
and-false true = refl
and-false false = refl

-- a filtered list, filtered
pub filter-filter : {X : Type 0} (p q r : X → Bool) (xs : List X) → ((x : X) → r x ≡ (p x && q x)) → filter p (filter q xs) ≡ filter r xs
filter-filter p q r [] same = refl
filter-filter {X = X} p q r (x ∷ xs) same = by (filter-filter p q r xs same) (q x) refl
  where
    by : filter p (filter q xs) ≡ filter r xs → (b : Bool) → q x ≡ b → filter p (if b then x ∷ filter q xs else filter q xs) ≡ filter r (x ∷ xs)
    by rest true passes =
        ap (λ (ys : List X). if p x then x ∷ ys else ys) rest
        ∙ ap (λ (b : Bool). if b then x ∷ filter r xs else filter r xs) (sym (same x ∙ ap (λ (b : Bool). p x && b) passes ∙ and-true (p x)))
    by rest false fails =
        rest
        ∙ ap (λ (b : Bool). if b then x ∷ filter r xs else filter r xs) (sym (same x ∙ ap (λ (b : Bool). p x && b) fails ∙ and-false (p x)))

pub filter-all : {X : Type 0} (p : X → Bool) (xs : List X) → ((x : X) → p x ≡ true) → filter p xs ≡ xs
filter-all p [] all = refl
filter-all {X = X} p (x ∷ xs) all =
    ap (λ (b : Bool). if b then x ∷ filter p xs else filter p xs) (all x) ∙ ap (λ (ys : List X). x ∷ ys) (filter-all p xs all)

-- a dependency whose left side stands already is passed over
pub merge-passed : (done : List Dependency) (d : Dependency) (later : List Dependency) → list_any (λ o. have_same_left o d) done ≡ true
    → beside done (merge_left_sides (d ∷ later)) ≡ beside done (merge_left_sides later)
merge-passed done d later stands =
    let w = with_right_sides (d ∷ later) d in
    let test : Dependency → Bool = λ e. not (list_any (λ o. have_same_left o e) done) in
    let q : Dependency → Bool = λ e. not (have_same_left d e) in
    let more = merge_left_sides later in
    let goes : test w ≡ false = ap not (ap (λ (f : Dependency → Bool). list_any f done) (λ i o. grown-same_left (d ∷ later) d o i) ∙ stands) in
    ap (λ (b : Bool). if b then w ∷ filter test (filter q more) else filter test (filter q more)) goes
    ∙ filter-filter test q test more each
  where
    each : (e : Dependency) → not (list_any (λ o. have_same_left o e) done) ≡ (not (list_any (λ o. have_same_left o e) done) && not (have_same_left d e))
    each e = by (have_same_left d e) refl
      where
        by : (b : Bool) → have_same_left d e ≡ b → not (list_any (λ o. have_same_left o e) done) ≡ (not (list_any (λ o. have_same_left o e) done) && not b)
        by false is = sym (and-true (not (list_any (λ o. have_same_left o e) done)))
        by true is =
            let any : list_any (λ o. have_same_left o e) done ≡ true =
            list_any-from_Any (λ o. have_same_left o e) done
            (Any-weaker (λ o. have_same_left o d ≡ true) (λ o. have_same_left o e ≡ true) done (λ o same. same_left-trans o d e same is)
            (Any-from_list_any (λ o. have_same_left o d) done stands)) in
            rw any refl

-- another one stands, with all right sides
pub merge-added : (done : List Dependency) (d : Dependency) (later : List Dependency) → list_any (λ o. have_same_left o d) done ≡ false
    → beside done (merge_left_sides (d ∷ later))
    ≡ with_right_sides (d ∷ later) d ∷ beside (done ++ with_right_sides (d ∷ later) d ∷ []) (merge_left_sides later)
merge-added done d later new =
    let w = with_right_sides (d ∷ later) d in
    let test : Dependency → Bool = λ e. not (list_any (λ o. have_same_left o e) done) in
    let q : Dependency → Bool = λ e. not (have_same_left d e) in
    let more = merge_left_sides later in
    let stays : test w ≡ true = ap not (ap (λ (f : Dependency → Bool). list_any f done) (λ i o. grown-same_left (d ∷ later) d o i) ∙ new) in
    ap (λ (b : Bool). if b then w ∷ filter test (filter q more) else filter test (filter q more)) stays
    ∙ ap (λ (es : List Dependency). w ∷ es) (filter-filter test q (λ e. not (list_any (λ o. have_same_left o e) (done ++ w ∷ []))) more each)
  where
    not-or : (a b : Bool) → not (a || (b || false)) ≡ (not a && not b)
    not-or true b = refl
    not-or false true = refl
    not-or false false = refl

    each : (e : Dependency) → not (list_any (λ o. have_same_left o e) (done ++ with_right_sides (d ∷ later) d ∷ [])) ≡ (not (list_any (λ o. have_same_left o e) done) && not (have_same_left d e))
    each e =
        let w = with_right_sides (d ∷ later) d in
        ap not (list_any-append (λ o. have_same_left o e) done (w ∷ []))
        ∙ not-or (list_any (λ o. have_same_left o e) done) (have_same_left w e)
        ∙ ap (λ (b : Bool). not (list_any (λ o. have_same_left o e) done) && not b) (same_left-grown (d ∷ later) d e)

-- nothing goes beside nothing
pub beside-none : (ds : List Dependency) → beside [] ds ≡ ds
beside-none ds = filter-all (λ e. not (list_any (λ o. have_same_left o e) [])) ds (λ e. refl)

-- ---- within a set
-- what some of a list have on the right lies within a set in which all of the list lie
grown_within : (universe : Attributes) (ds : List Dependency) (d : Dependency) → All (IsWithin universe) ds → IsWithin universe d
    → IsWithin universe (with_right_sides ds d)
grown_within universe ds (fd x y) all within = (
  within.0,
  λ k member.
      let found = Any-from_list_any (λ e. have_same_left (fd x y) e && right_of e k) ds member in
      let right = (and_parts (have_same_left (fd x y) found.1) (right_of found.1 k) found.4).1 in
      (All-contains (IsWithin universe) ds found.1 all (found.0, found.2, found.3)).1 k right,
)
grown_within universe ds (mvd x y) all within = within

pub merged_within : (universe : Attributes) (ds : List Dependency) → All (IsWithin universe) ds → All (IsWithin universe) (merge_left_sides ds)
merged_within universe [] all = All-nil (IsWithin universe)
merged_within universe (d ∷ later) all =
    All-cons (IsWithin universe) (with_right_sides (d ∷ later) d) (filter (λ e. not (have_same_left d e)) (merge_left_sides later))
    (grown_within universe (d ∷ later) d all (All-head (IsWithin universe) d later all))
    (All-filter (λ e. not (have_same_left d e)) (IsWithin universe) (merge_left_sides later)
    (merged_within universe later (All-tail (IsWithin universe) d later all)))
