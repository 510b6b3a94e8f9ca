-- How many values a list has, where equal ones count once.
use Rattle.std.proofs.Common.{◌≡◌, ◌<◌, ◌≤◌, ◌+◌, suc, Bool, true, false, cond, ◌||◌, List, [], ◌∷◌, ◌++◌, length, map, filter, refl, sym, ap, subst, ◌∙◌, inl, inr, ⊎_elim, arith}
use Rattle.std.proofs.lemmas.Bool.{cases_Bool, true≢false}
use Rattle.std.proofs.lemmas.Bool.Decides.{same_from_decides}
use Rattle.std.proofs.lemmas.List.{map-id}
use Rattle.std.proofs.lemmas.List.Folds.{list_any-append}
use Rattle.std.proofs.lemmas.Map.Made.{is_member-Decides, length-le_from_is_member}
use Rattle.std.specs.Bool.{Decides}
use Rattle.std.specs.Cmp.{IsEquivalence}
use Rattle.std.specs.List.{IsDistinct, AllByRecursion}
use Rattle.std.specs.Prelude.{Contains}
use Rattle.std.specs.Set.{is_member, unique_keys, distinct_count}
use Rattle.dep_model.proofs.DistinctLemmas.{filter-member, filter-keeps}
use Rattle.dep_model.proofs.ListLemmas.{Contains-head, Contains-later, Contains-cases, Contains-map, map-member}

-- ---- tests that decide whether two values are the same
abbrev pub DecidesSame : {K : Type 0} → (K → K → Bool) → Type 0
DecidesSame {K} eq = (a b : K) → Decides (eq a b) (a ≡ b)

pub equivalence : {K : Type 0} (eq : K → K → Bool) → DecidesSame eq → IsEquivalence eq
equivalence {K} eq same = record {
  refl = λ x. (same x x).1 refl;
  symm = λ x y. same_from_decides (eq x y) (eq y x) (same x y) (λ e. sym ((same y x).0 e), λ e. (same y x).1 (sym e));
  congr = λ x y z e. ap (λ (w : K). eq w z) ((same x y).0 e);
}

pub told_member : {K : Type 0} (eq : K → K → Bool) → DecidesSame eq → (xs : List K) (q : K) → is_member eq xs q ≡ true → Contains xs q
told_member eq same xs q = (is_member-Decides same xs q).0

pub member_told : {K : Type 0} (eq : K → K → Bool) → DecidesSame eq → (xs : List K) (q : K) → Contains xs q → is_member eq xs q ≡ true
member_told eq same xs q = (is_member-Decides same xs q).1

-- ---- each value once
or_known : (a b : Bool) → (a ≡ true → b ≡ true) → b ≡ (a || b)
or_known true b given = given refl
or_known false b given = refl

pub unique-member : {K : Type 0} (eq : K → K → Bool) → DecidesSame eq → (xs : List K) (q : K) → is_member eq (unique_keys eq xs) q ≡ is_member eq xs q
unique-member eq same [] q = refl
unique-member {K} eq same (x ∷ xs) q = elim (cases_Bool (is_member eq xs x)) [
  | inl there ↦ rw there (unique-member eq same xs q
      ∙ or_known (eq q x) (is_member eq xs q) (λ e. ap (is_member eq xs) ((same q x).0 e) ∙ there))
  | inr not_there ↦ rw not_there (ap (λ (b : Bool). eq q x || b) (unique-member eq same xs q))
]

or_false : (a b : Bool) → (a || b) ≡ false → (a ≡ false) × (b ≡ false)
or_false true b e = absurd (true≢false e)
or_false false b e = (refl, e)

none_equal : {K : Type 0} (eq : K → K → Bool) (q : K) (xs : List K) → is_member eq xs q ≡ false → AllByRecursion (λ y. eq q y ≡ false) xs
none_equal eq q [] none = tt
none_equal eq q (x ∷ xs) none =
    let both = or_false (eq q x) (is_member eq xs q) none in
    (both.0, none_equal eq q xs both.1)

unique-differ : {K : Type 0} (eq : K → K → Bool) → DecidesSame eq → (xs : List K) → IsDistinct eq (unique_keys eq xs)
unfolding IsDistinct
unique-differ eq same [] = tt
unique-differ eq same (x ∷ xs) = elim (cases_Bool (is_member eq xs x)) [
  | inl there ↦ rw there (unique-differ eq same xs)
  | inr not_there ↦ rw not_there (none_equal eq x (unique_keys eq xs) (unique-member eq same xs x ∙ not_there), unique-differ eq same xs)
]

-- ---- more values
abbrev pub AreWithin : {K : Type 0} → List K → List K → Type 0
AreWithin {K} xs ys = (q : K) → Contains xs q → Contains ys q

pub count-le : {K : Type 0} (eq : K → K → Bool) → DecidesSame eq → (xs ys : List K) → AreWithin xs ys → distinct_count eq xs ≤ distinct_count eq ys
count-le eq same xs ys within =
    length-le_from_is_member (equivalence eq same) (unique_keys eq xs) (unique_keys eq ys) (unique-differ eq same xs)
    (λ q there. unique-member eq same ys q
    ∙ member_told eq same ys q (within q (told_member eq same xs q (sym (unique-member eq same xs q) ∙ there))))

-- a value that the first list lacks
pub count-lt : {K : Type 0} (eq : K → K → Bool) → DecidesSame eq → (xs ys : List K) (x : K) → AreWithin xs ys → Contains ys x
    → is_member eq xs x ≡ false → distinct_count eq xs < distinct_count eq ys
count-lt {K} eq same xs ys x within there lacks =
    let within_all : AreWithin (x ∷ xs) ys = λ q h. ⊎_elim
    (λ (first : q ≡ x). subst (λ (z : K). Contains ys z) (sym first) there) (λ later. within q later) (Contains-cases x xs q h) in
    let all = count-le eq same (x ∷ xs) ys within_all in
    let more : distinct_count eq (x ∷ xs) ≡ length (x ∷ unique_keys eq xs) =
    ap (λ (b : Bool). length (cond b (unique_keys eq xs) (x ∷ unique_keys eq xs))) lacks in
    omega (arith, all, more)

-- ---- the values of functions
or_same : (a b c d : Bool) → a ≡ b → c ≡ d → (a || c) ≡ (b || d)
or_same a b c d first second = ap (λ (z : Bool). z || c) first ∙ ap (λ (z : Bool). b || z) second

-- two functions that tell the same apart
abbrev pub TellAlike : {A B C : Type 0} → (B → B → Bool) → (C → C → Bool) → (A → B) → (A → C) → List A → Type 0
TellAlike {A} eq eq' f g xs = (t u : A) → Contains xs t → Contains xs u → eq (f t) (f u) ≡ eq' (g t) (g u)

member-alike : {A B C : Type 0} (eq : B → B → Bool) (eq' : C → C → Bool) (f : A → B) (g : A → C) (t : A) (xs : List A)
    → ((u : A) → Contains xs u → eq (f t) (f u) ≡ eq' (g t) (g u)) → is_member eq (map f xs) (f t) ≡ is_member eq' (map g xs) (g t)
member-alike eq eq' f g t [] alike = refl
member-alike eq eq' f g t (x ∷ xs) alike =
    or_same (eq (f t) (f x)) (eq' (g t) (g x)) (is_member eq (map f xs) (f t)) (is_member eq' (map g xs) (g t))
    (alike x (Contains-head x xs)) (member-alike eq eq' f g t xs (λ u h. alike u (Contains-later x xs u h)))

pub count-alike : {A B C : Type 0} (eq : B → B → Bool) (eq' : C → C → Bool) (f : A → B) (g : A → C) (xs : List A)
    → TellAlike eq eq' f g xs → distinct_count eq (map f xs) ≡ distinct_count eq' (map g xs)
count-alike eq eq' f g [] alike = refl
count-alike eq eq' f g (x ∷ xs) alike =
    let head = member-alike eq eq' f g x xs (λ u h. alike x u (Contains-head x xs) (Contains-later x xs u h)) in
    let rest = count-alike eq eq' f g xs (λ t u h k. alike t u (Contains-later x xs t h) (Contains-later x xs u k)) in
    elim (cases_Bool (is_member eq' (map g xs) (g x))) [
      | inl there ↦ rw (head ∙ there, there) rest
      | inr not_there ↦ rw (head ∙ not_there, not_there) (ap suc rest)
    ]

-- ---- two lists, one after the other
-- where the second has all of the first
pub unique-append_within : {K : Type 0} (eq : K → K → Bool) → DecidesSame eq → (xs ys : List K) → AreWithin xs ys → unique_keys eq (xs ++ ys) ≡ unique_keys eq ys
unique-append_within eq same [] ys within = refl
unique-append_within eq same (x ∷ xs) ys within =
    let there : is_member eq (xs ++ ys) x ≡ true =
    list_any-append (eq x) xs ys ∙ ap (λ (b : Bool). is_member eq xs x || b) (member_told eq same ys x (within x (Contains-head x xs)))
    ∙ or_true (is_member eq xs x) in
    rw there (unique-append_within eq same xs ys (λ q h. within q (Contains-later x xs q h)))
  where
    or_true : (b : Bool) → (b || true) ≡ true
    or_true true = refl
    or_true false = refl

-- where they have none in common
pub count-append_apart : {K : Type 0} (eq : K → K → Bool) → DecidesSame eq → (xs ys : List K) → ((q : K) → Contains xs q → Contains ys q → ⊥)
    → distinct_count eq (xs ++ ys) ≡ distinct_count eq xs + distinct_count eq ys
count-append_apart eq same [] ys apart = omega arith
count-append_apart eq same (x ∷ xs) ys apart =
    let rest = count-append_apart eq same xs ys (λ q h k. apart q (Contains-later x xs q h) k) in
    let out : is_member eq ys x ≡ false = elim (cases_Bool (is_member eq ys x)) [
      | inl there ↦ absurd (apart x (Contains-head x xs) (told_member eq same ys x there))
      | inr not_there ↦ not_there
    ] in
    let all : is_member eq (xs ++ ys) x ≡ is_member eq xs x =
    list_any-append (eq x) xs ys ∙ ap (λ (b : Bool). is_member eq xs x || b) out ∙ or_none (is_member eq xs x) in
    elim (cases_Bool (is_member eq xs x)) [
      | inl there ↦ rw (all ∙ there, there) rest
      | inr not_there ↦ rw (all ∙ not_there, not_there) (omega (arith, rest))
    ]
  where
    or_none : (b : Bool) → (b || false) ≡ b
    or_none true = refl
    or_none false = refl

-- ---- the values of a function, of values that are there once
member-same : {K : Type 0} (eq : K → K → Bool) → DecidesSame eq → (xs ys : List K) (q : K) → (Contains xs q → Contains ys q) → (Contains ys q → Contains xs q)
    → is_member eq xs q ≡ is_member eq ys q
member-same eq same xs ys q there back =
    same_from_decides (is_member eq xs q) (is_member eq ys q) (is_member-Decides same xs q)
    (λ e. back (told_member eq same ys q e), λ h. member_told eq same ys q (there h))

pub in_unique : {K : Type 0} (eq : K → K → Bool) → DecidesSame eq → (xs : List K) (q : K) → Contains xs q → Contains (unique_keys eq xs) q
in_unique eq same xs q h = told_member eq same (unique_keys eq xs) q (unique-member eq same xs q ∙ member_told eq same xs q h)

pub from_unique : {K : Type 0} (eq : K → K → Bool) → DecidesSame eq → (xs : List K) (q : K) → Contains (unique_keys eq xs) q → Contains xs q
from_unique eq same xs q h = told_member eq same xs q (sym (unique-member eq same xs q) ∙ member_told eq same (unique_keys eq xs) q h)

pub unique-map : {B C : Type 0} (eq : B → B → Bool) (eq' : C → C → Bool) → DecidesSame eq → DecidesSame eq' → (f : B → C) (xs : List B)
    → unique_keys eq' (map f (unique_keys eq xs)) ≡ unique_keys eq' (map f xs)
unique-map eq eq' same same' f [] = refl
unique-map {B} {C} eq eq' same same' f (x ∷ xs) =
    let rest = unique-map eq eq' same same' f xs in
    elim (cases_Bool (is_member eq xs x)) [
      | inl there ↦
          let again : is_member eq' (map f xs) (f x) ≡ true = member_told eq' same' (map f xs) (f x) (Contains-map f xs x (told_member eq same xs x there)) in
          rw (there, again) rest
      | inr not_there ↦
          let alike : is_member eq' (map f (unique_keys eq xs)) (f x) ≡ is_member eq' (map f xs) (f x) =
          member-same eq' same' (map f (unique_keys eq xs)) (map f xs) (f x)
          (λ h. let w = map-member f (unique_keys eq xs) (f x) h in subst (λ (c : C). Contains (map f xs) c) w.2 (Contains-map f xs w.0 (from_unique eq same xs w.0 w.1)))
          (λ h. let w = map-member f xs (f x) h in subst (λ (c : C). Contains (map f (unique_keys eq xs)) c) w.2 (Contains-map f (unique_keys eq xs) w.0 (in_unique eq same xs w.0 w.1))) in
          rw not_there (ap (λ (b : Bool). cond b (unique_keys eq' (map f (unique_keys eq xs))) (f x ∷ unique_keys eq' (map f (unique_keys eq xs)))) alike
          ∙ ap (λ (ks : List C). cond (is_member eq' (map f xs) (f x)) ks (f x ∷ ks)) rest)
    ]

-- ---- more than one value that passes a test
pub some_member : {K : Type 0} (xs : List K) → 0 < length xs → (x : K) × Contains xs x
some_member [] long = absurd (omega (arith, long))
some_member (x ∷ xs) long = (x, Contains-head x xs)

abbrev TwoOf : {K : Type 0} → (K → Bool) → List K → Type 0
TwoOf {K} p xs = (a b : K) × Contains xs a × Contains xs b × (p a ≡ true) × (p b ≡ true) × (a ≡ b → ⊥)

earlier_two : {K : Type 0} (p : K → Bool) (x : K) (xs : List K) → TwoOf p xs → TwoOf p (x ∷ xs)
earlier_two p x xs w = (w.0, w.1, Contains-later x xs w.0 w.2, Contains-later x xs w.1 w.3, w.4, w.5, w.6)

pub two_of : {K : Type 0} (eq : K → K → Bool) → DecidesSame eq → (p : K → Bool) (xs : List K) → 1 < length (filter p (unique_keys eq xs))
    → (a b : K) × Contains xs a × Contains xs b × (p a ≡ true) × (p b ≡ true) × (a ≡ b → ⊥)
two_of eq same p [] long = absurd (omega (arith, long))
two_of {K} eq same p (x ∷ xs) long = elim (cases_Bool (is_member eq xs x)) [
  | inl there ↦ earlier_two p x xs (two_of eq same p xs (subst (λ (b : Bool). 1 < length (filter p (cond b (unique_keys eq xs) (x ∷ unique_keys eq xs)))) there long))
  | inr not_there ↦
      let long' : 1 < length (filter p (x ∷ unique_keys eq xs)) = subst (λ (b : Bool). 1 < length (filter p (cond b (unique_keys eq xs) (x ∷ unique_keys eq xs)))) not_there long in
      elim (cases_Bool (p x)) [
        | inl passes ↦
            let more : 1 < length (x ∷ filter p (unique_keys eq xs)) = subst (λ (b : Bool). 1 < length (cond b (x ∷ filter p (unique_keys eq xs)) (filter p (unique_keys eq xs)))) passes long' in
            let other = some_member (filter p (unique_keys eq xs)) (omega (arith, more)) in
            let found = filter-member p (unique_keys eq xs) other.0 other.1 in
            let in_xs = from_unique eq same xs other.0 found.0 in (
              x,
              other.0,
              Contains-head x xs,
              Contains-later x xs other.0 in_xs,
              passes,
              found.1,
              λ equal. true≢false (sym (ap (is_member eq xs) equal ∙ member_told eq same xs other.0 in_xs) ∙ not_there),
            )
        | inr fails ↦ earlier_two p x xs (two_of eq same p xs (subst (λ (b : Bool). 1 < length (cond b (x ∷ filter p (unique_keys eq xs)) (filter p (unique_keys eq xs)))) fails long'))
      ]
]

two_in : {K : Type 0} (xs : List K) (a b : K) → Contains xs a → Contains xs b → (a ≡ b → ⊥) → 1 < length xs
two_in [] a b h k differ = absurd (omega (arith, h.1))
two_in (x ∷ []) a b h k differ = ⊎_elim
    (λ (first : a ≡ x). ⊎_elim (λ (second : b ≡ x). absurd (differ (first ∙ sym second))) (λ none. absurd (omega (arith, none.1))) (Contains-cases x [] b k))
    (λ none. absurd (omega (arith, none.1)))
    (Contains-cases x [] a h)
two_in (x ∷ y ∷ xs) a b h k differ = omega arith

pub of_two : {K : Type 0} (eq : K → K → Bool) → DecidesSame eq → (p : K → Bool) (xs : List K) (a b : K) → Contains xs a → Contains xs b → p a ≡ true → p b ≡ true → (a ≡ b → ⊥)
    → 1 < length (filter p (unique_keys eq xs))
of_two eq same p xs a b h k pa pb differ =
    two_in (filter p (unique_keys eq xs)) a b
    (filter-keeps p (unique_keys eq xs) a (in_unique eq same xs a h) pa) (filter-keeps p (unique_keys eq xs) b (in_unique eq same xs b k) pb) differ

-- ---- values that pass a test
filter-none : {K : Type 0} (p : K → Bool) (xs : List K) → ((x : K) → Contains xs x → p x ≡ false) → filter p xs ≡ []
filter-none p [] none = refl
filter-none p (x ∷ xs) none = rw (none x (Contains-head x xs)) (filter-none p xs (λ y h. none y (Contains-later x xs y h)))

-- a value that is there is there once
pub filter-once : {K : Type 0} (eq : K → K → Bool) → DecidesSame eq → (xs : List K) (q : K) → Contains xs q → filter (λ k. eq k q) (unique_keys eq xs) ≡ q ∷ []
filter-once eq same [] q h = absurd (omega (arith, h.1))
filter-once {K} eq same (x ∷ xs) q h = elim (cases_Bool (is_member eq xs x)) [
  | inl there ↦ rw there (filter-once eq same xs q (⊎_elim
      (λ (first : q ≡ x). subst (λ (z : K). Contains xs z) (sym first) (told_member eq same xs x there)) (λ later. later) (Contains-cases x xs q h)))
  | inr not_there ↦ elim (cases_Bool (eq x q)) [
    | inl equal ↦
        let is : x ≡ q = (same x q).0 equal in
        let rest : filter (λ k. eq k q) (unique_keys eq xs) ≡ [] = filter-none (λ k. eq k q) (unique_keys eq xs) (λ k k_in. elim (cases_Bool (eq k q)) [
          | inl again ↦ absurd (true≢false (sym (member_told eq same xs x (subst (λ (z : K). Contains xs z) ((same k q).0 again ∙ sym is) (from_unique eq same xs k k_in))) ∙ not_there))
          | inr other ↦ other
        ]) in
        rw (not_there, equal) (ap (λ (ks : List K). x ∷ ks) rest ∙ ap (λ (z : K). z ∷ []) is)
    | inr other ↦ rw (not_there, other) (filter-once eq same xs q (⊎_elim
        (λ (first : q ≡ x). absurd (true≢false (sym ((same x q).1 (sym first)) ∙ other))) (λ later. later) (Contains-cases x xs q h)))
  ]
]

-- the values of members that pass
pub filter-unique_map : {A B : Type 0} (eq : B → B → Bool) → DecidesSame eq → (p : B → Bool) (f : A → B) (xs : List A)
    → filter p (unique_keys eq (map f xs)) ≡ unique_keys eq (map f (filter (λ x. p (f x)) xs))
filter-unique_map eq same p f [] = refl
filter-unique_map {A} {B} eq same p f (x ∷ xs) =
    let rest = filter-unique_map eq same p f xs in
    let kept = map f (filter (λ (y : A). p (f y)) xs) in
    elim (cases_Bool (is_member eq (map f xs) (f x))) [
      | inl there ↦ elim (cases_Bool (p (f x))) [
        | inl passes ↦
            let u = map-member f xs (f x) (told_member eq same (map f xs) (f x) there) in
            let again : is_member eq kept (f x) ≡ true = member_told eq same kept (f x) (subst (λ (b : B). Contains kept b) u.2
            (Contains-map f (filter (λ (y : A). p (f y)) xs) u.0 (filter-keeps (λ (y : A). p (f y)) xs u.0 u.1 (ap p u.2 ∙ passes)))) in
            rw (there, passes, again) rest
        | inr fails ↦ rw (there, fails) rest
      ]
      | inr not_there ↦ elim (cases_Bool (p (f x))) [
        | inl passes ↦
            let never : is_member eq kept (f x) ≡ false = elim (cases_Bool (is_member eq kept (f x))) [
              | inl found ↦
                  let u = map-member f (filter (λ (y : A). p (f y)) xs) (f x) (told_member eq same kept (f x) found) in
                  absurd (true≢false (sym (member_told eq same (map f xs) (f x) (subst (λ (b : B). Contains (map f xs) b) u.2 (Contains-map f xs u.0 (filter-member (λ (y : A). p (f y)) xs u.0 u.1).0))) ∙ not_there))
              | inr none ↦ none
            ] in
            rw (not_there, passes, never) (ap (λ (ks : List B). f x ∷ ks) rest)
        | inr fails ↦ rw (not_there, fails) rest
      ]
    ]

pub unique-unique : {K : Type 0} (eq : K → K → Bool) → DecidesSame eq → (xs : List K) → unique_keys eq (unique_keys eq xs) ≡ unique_keys eq xs
unique-unique {K} eq same xs =
    ap (unique_keys eq) (sym (map-id (unique_keys eq xs))) ∙ unique-map eq eq same same (λ (k : K). k) xs ∙ ap (unique_keys eq) (map-id xs)
