-- The first ones of a list by a test, and filters: which elements they have, and that they go along with a map.
use Rattle.std.proofs.Common.{◌≡◌, ◌≤◌, ◌⊎◌, Bool, true, false, ◌||◌, if◌then◌else◌, List, [], ◌∷◌, ◌++◌, map, length, refl, sym, subst, ap, ◌∙◌, inl, inr, arith, append_assoc, length-append}
use Rattle.std.specs.Prelude.{All, Contains, filter}
use Rattle.std.specs.List.{list_any}
use Rattle.std.proofs.lemmas.Bool.{cases_Bool, true≢false}
use Rattle.std.proofs.lemmas.List.{map-append}
use Rattle.std.proofs.lemmas.List.Elements.{All-head, All-tail, All-push, All-contains, All-contains_itself, All-filter, filter_passes, Contains-append_left, Contains-append_right, Contains-append_cases, Contains-push}
use Rattle.dep_model.proofs.ListLemmas.{All-members, Contains-cases, Contains-head, Contains-later, Contains-nil}
use Rattle.plans.proofs.ListLemmas.{any_from, any_some}
use Rattle.fewest_tables.specs.Alike.{firsts_after}

-- ---- filters
pub filter_member : {X : Type 0} (p : X → Bool) (xs : List X) (x : X) → Contains (filter p xs) x → Contains xs x × (p x ≡ true)
filter_member {X = X} p xs x has = (
  All-contains (Contains xs) (filter p xs) x (All-filter p (Contains xs) xs (All-contains_itself xs)) has,
  All-contains (λ (y : X). p y ≡ true) (filter p xs) x (filter_passes p xs) has,
)

pub Contains-filter : {X : Type 0} (p : X → Bool) (xs : List X) (x : X) → Contains xs x → p x ≡ true → Contains (filter p xs) x
Contains-filter p [] x has passes = absurd (Contains-nil x has)
Contains-filter {X = X} p (y ∷ xs) x has passes = elim (Contains-cases y xs x has) [
  | inl here ↦
      let first : p y ≡ true = subst (λ (z : X). p z ≡ true) here passes in
      rw first (subst (λ (z : X). Contains (y ∷ filter p xs) z) (sym here) (Contains-head y (filter p xs)))
  | inr there ↦
      let rest = Contains-filter p xs x there passes in
      elim (cases_Bool (p y)) [
        | inl passed ↦ rw passed (Contains-later y (filter p xs) x rest)
        | inr failed ↦ rw failed rest
      ]
]

-- tests that agree on the elements of a list leave the same ones of it
pub filter_same : {X : Type 0} (p q : X → Bool) (xs : List X) → All (λ x. p x ≡ q x) xs → filter p xs ≡ filter q xs
filter_same p q [] same = refl
filter_same {X = X} p q (x ∷ xs) same =
    let rest = filter_same p q xs (All-tail (λ (y : X). p y ≡ q y) x xs same) in
    ap (λ (b : Bool). if b then x ∷ filter p xs else filter p xs) (All-head (λ (y : X). p y ≡ q y) x xs same)
    ∙ ap (λ (l : List X). if q x then x ∷ l else l) rest

pub filter_map_is : {X Y : Type 0} (f : X → Y) (p : Y → Bool) (xs : List X) → filter p (map f xs) ≡ map f (filter (λ x. p (f x)) xs)
filter_map_is f p [] = refl
filter_map_is {X} {Y} f p (x ∷ xs) =
    let kept = filter (λ (z : X). p (f z)) xs in
    let whole : Bool → List Y = λ b. if b then f x ∷ filter p (map f xs) else filter p (map f xs) in
    let parts : Bool → List Y = λ b. map f (if b then x ∷ kept else kept) in
    let rest = filter_map_is f p xs in
    elim (cases_Bool (p (f x))) [
      | inl passes ↦ ap whole passes ∙ ap (λ (l : List Y). f x ∷ l) rest ∙ sym (ap parts passes)
      | inr fails ↦ ap whole fails ∙ rest ∙ sym (ap parts fails)
    ]

pub map_map_is : {X Y Z : Type 0} (f : X → Y) (g : Y → Z) (xs : List X) → map g (map f xs) ≡ map (λ x. g (f x)) xs
map_map_is f g [] = refl
map_map_is {X} {Y} {Z} f g (x ∷ xs) = ap (λ (l : List Z). g (f x) ∷ l) (map_map_is f g xs)

pub map_same : {X Y : Type 0} (f g : X → Y) (xs : List X) → All (λ x. f x ≡ g x) xs → map f xs ≡ map g xs
map_same f g [] same = refl
map_same {X} {Y} f g (x ∷ xs) same =
    ap (λ (y : Y). y ∷ map f xs) (All-head (λ (z : X). f z ≡ g z) x xs same)
    ∙ ap (λ (l : List Y). g x ∷ l) (map_same f g xs (All-tail (λ (z : X). f z ≡ g z) x xs same))

-- ---- whether some element passes
pub any_map_is : {X Y : Type 0} (f : X → Y) (p : Y → Bool) (xs : List X) → list_any p (map f xs) ≡ list_any (λ x. p (f x)) xs
any_map_is f p [] = refl
any_map_is f p (x ∷ xs) = ap (λ (b : Bool). p (f x) || b) (any_map_is f p xs)

any_same : {X : Type 0} (p q : X → Bool) (xs : List X) → All (λ x. p x ≡ q x) xs → list_any p xs ≡ list_any q xs
any_same p q [] same = refl
any_same {X = X} p q (x ∷ xs) same =
    ap (λ (b : Bool). b || list_any p xs) (All-head (λ (z : X). p z ≡ q z) x xs same)
    ∙ ap (λ (b : Bool). q x || b) (any_same p q xs (All-tail (λ (z : X). p z ≡ q z) x xs same))

-- where none does, one that is named does not
any_none : {X : Type 0} (p : X → Bool) (xs : List X) (x : X) → list_any p xs ≡ false → Contains xs x → p x ≡ false
any_none p xs x none has = elim (cases_Bool (p x)) [
  | inl passes ↦ absurd (true≢false (sym (any_from p xs x has passes) ∙ none))
  | inr fails ↦ fails
]

-- ---- the first ones
-- one with which an earlier one is alike is passed over, and another one is added
pub first_passed : {X : Type 0} (alike : X → X → Bool) (earlier : List X) (x : X) (later : List X) → list_any (λ y. alike y x) earlier ≡ true
    → firsts_after alike earlier (x ∷ later) ≡ firsts_after alike earlier later
first_passed alike earlier x later old =
    ap (λ (b : Bool). if b then firsts_after alike earlier later else (x ∷ firsts_after alike (earlier ++ x ∷ []) later)) old

pub first_added : {X : Type 0} (alike : X → X → Bool) (earlier : List X) (x : X) (later : List X) → list_any (λ y. alike y x) earlier ≡ false
    → firsts_after alike earlier (x ∷ later) ≡ x ∷ firsts_after alike (earlier ++ x ∷ []) later
first_added alike earlier x later new =
    ap (λ (b : Bool). if b then firsts_after alike earlier later else (x ∷ firsts_after alike (earlier ++ x ∷ []) later)) new

-- they are elements of the list
pub firsts_among : {X : Type 0} (alike : X → X → Bool) (earlier xs : List X) (f : X) → Contains (firsts_after alike earlier xs) f → Contains xs f
firsts_among alike earlier [] f has = absurd (Contains-nil f has)
firsts_among {X = X} alike earlier (x ∷ later) f has = elim (cases_Bool (list_any (λ y. alike y x) earlier)) [
  | inl old ↦
      Contains-later x later f (firsts_among alike earlier later f (subst (λ (l : List X). Contains l f) (first_passed alike earlier x later old) has))
  | inr new ↦ elim (Contains-cases x (firsts_after alike (earlier ++ x ∷ []) later) f (subst (λ (l : List X). Contains l f) (first_added alike earlier x later new) has)) [
    | inl here ↦ subst (λ (y : X). Contains (x ∷ later) y) (sym here) (Contains-head x later)
    | inr there ↦ Contains-later x later f (firsts_among alike (earlier ++ x ∷ []) later f there)
  ]
]

-- none of those before is alike with one of them
firsts_new : {X : Type 0} (alike : X → X → Bool) (earlier xs : List X) (e f : X) → Contains earlier e → Contains (firsts_after alike earlier xs) f → alike e f ≡ false
firsts_new alike earlier [] e f early has = absurd (Contains-nil f has)
firsts_new {X = X} alike earlier (x ∷ later) e f early has = elim (cases_Bool (list_any (λ y. alike y x) earlier)) [
  | inl old ↦ firsts_new alike earlier later e f early (subst (λ (l : List X). Contains l f) (first_passed alike earlier x later old) has)
  | inr new ↦ elim (Contains-cases x (firsts_after alike (earlier ++ x ∷ []) later) f (subst (λ (l : List X). Contains l f) (first_added alike earlier x later new) has)) [
    | inl here ↦ subst (λ (y : X). alike e y ≡ false) (sym here) (any_none (λ y. alike y x) earlier e new early)
    | inr there ↦ firsts_new alike (earlier ++ x ∷ []) later e f (Contains-append_left earlier (x ∷ []) e early) there
  ]
]

-- no two of a list are alike
abbrev pub AreApart : {X : Type 0} → (X → X → Bool) → List X → Type 0
AreApart alike [] = Unit {0}
AreApart alike (x ∷ xs) = All (λ y. alike x y ≡ false) xs × AreApart alike xs

pub firsts_apart : {X : Type 0} (alike : X → X → Bool) (earlier xs : List X) → AreApart alike (firsts_after alike earlier xs)
firsts_apart alike earlier [] = tt
firsts_apart {X = X} alike earlier (x ∷ later) = elim (cases_Bool (list_any (λ y. alike y x) earlier)) [
  | inl old ↦ subst (λ (l : List X). AreApart alike l) (sym (first_passed alike earlier x later old)) (firsts_apart alike earlier later)
  | inr new ↦
      let rest = firsts_after alike (earlier ++ x ∷ []) later in
      let apart : AreApart alike (x ∷ rest) = (
        All-members (λ (y : X). alike x y ≡ false) rest (λ y has. firsts_new alike (earlier ++ x ∷ []) later x y (Contains-push earlier x) has),
        firsts_apart alike (earlier ++ x ∷ []) later,
      ) in
      subst (λ (l : List X). AreApart alike l) (sym (first_added alike earlier x later new)) apart
]

-- each element has one of those before or of the first ones that is alike with it, where each is with itself
pub firsts_hold : {X : Type 0} (alike : X → X → Bool) (earlier xs : List X) (x : X) → (alike x x ≡ true) → Contains xs x
    → (f : X) × Contains (earlier ++ firsts_after alike earlier xs) f × (alike f x ≡ true)
firsts_hold alike earlier [] x own has = absurd (Contains-nil x has)
firsts_hold {X = X} alike earlier (y ∷ later) x own has = elim (cases_Bool (list_any (λ z. alike z y) earlier)) [
  | inl old ↦
      let holds : (f : X) × Contains (earlier ++ firsts_after alike earlier later) f × (alike f x ≡ true) = elim (Contains-cases y later x has) [
        | inl here ↦
            let found = any_some (λ (z : X). alike z y) earlier old in
            (found.0, Contains-append_left earlier (firsts_after alike earlier later) found.0 found.1, subst (λ (z : X). alike found.0 z ≡ true) (sym here) found.2)
        | inr there ↦ firsts_hold alike earlier later x own there
      ] in
      (holds.0, subst (λ (l : List X). Contains (earlier ++ l) holds.0) (sym (first_passed alike earlier y later old)) holds.1, holds.2)
  | inr new ↦
      let rest = firsts_after alike (earlier ++ y ∷ []) later in
      let holds : (f : X) × Contains (earlier ++ y ∷ rest) f × (alike f x ≡ true) = elim (Contains-cases y later x has) [
        | inl here ↦
            (y, Contains-append_right earlier (y ∷ rest) y (Contains-head y rest), subst (λ (z : X). alike z x ≡ true) here own)
        | inr there ↦
            let found = firsts_hold alike (earlier ++ y ∷ []) later x own there in
            (found.0, subst (λ (l : List X). Contains l found.0) (append_assoc earlier (y ∷ []) rest) found.1, found.2)
      ] in
      (holds.0, subst (λ (l : List X). Contains (earlier ++ l) holds.0) (sym (first_added alike earlier y later new)) holds.1, holds.2)
]

-- tests that agree on the elements of a list have the same first ones
pub firsts_same : {X : Type 0} (P : X → Type 0) (p q : X → X → Bool) (earlier xs : List X) → ((a b : X) → P a → P b → p a b ≡ q a b) → All P earlier → All P xs
    → firsts_after p earlier xs ≡ firsts_after q earlier xs
firsts_same P p q earlier [] same early all = refl
firsts_same {X = X} P p q earlier (x ∷ later) same early all =
    let own = All-head P x later all in
    let rest = All-tail P x later all in
    let tests : list_any (λ (y : X). p y x) earlier ≡ list_any (λ (y : X). q y x) earlier =
    any_same (λ (y : X). p y x) (λ (y : X). q y x) earlier (All-members (λ (y : X). p y x ≡ q y x) earlier (λ y has. same y x (All-contains P earlier y early has) own)) in
    ap (λ (b : Bool). if b then firsts_after p earlier later else (x ∷ firsts_after p (earlier ++ x ∷ []) later)) tests
    ∙ ap (λ (l : List X). if list_any (λ (y : X). q y x) earlier then l else (x ∷ firsts_after p (earlier ++ x ∷ []) later))
    (firsts_same P p q earlier later same early rest)
    ∙ ap (λ (l : List X). if list_any (λ (y : X). q y x) earlier then firsts_after q earlier later else (x ∷ l))
    (firsts_same P p q (earlier ++ x ∷ []) later same (All-push P earlier x early own) rest)

-- the first ones go along with a map
pub firsts_map : {X Y : Type 0} (f : X → Y) (p : Y → Y → Bool) (earlier xs : List X)
    → firsts_after p (map f earlier) (map f xs) ≡ map f (firsts_after (λ a b. p (f a) (f b)) earlier xs)
firsts_map f p earlier [] = refl
firsts_map {X} {Y} f p earlier (x ∷ later) =
    let q : X → X → Bool = λ a b. p (f a) (f b) in
    let skipped = firsts_after q earlier later in
    let added = firsts_after q (earlier ++ x ∷ []) later in
    let whole : Bool → List Y = λ b. if b then firsts_after p (map f earlier) (map f later) else (f x ∷ firsts_after p (map f earlier ++ f x ∷ []) (map f later)) in
    let parts : Bool → List Y = λ b. map f (if b then skipped else (x ∷ added)) in
    let test = list_any (λ (y : X). q y x) earlier in
    ap whole (any_map_is f (λ (y : Y). p y (f x)) earlier)
    ∙ (elim (cases_Bool test) [
      | inl old ↦ ap whole old ∙ firsts_map f p earlier later ∙ sym (ap parts old)
      | inr new ↦
          ap whole new
          ∙ ap (λ (l : List Y). f x ∷ firsts_after p l (map f later)) (sym (map-append f earlier (x ∷ [])))
          ∙ ap (λ (l : List Y). f x ∷ l) (firsts_map f p (earlier ++ x ∷ []) later)
          ∙ sym (ap parts new)
    ])

-- ---- as many of one kind as of another at least
-- an element and the others
split_at : {X : Type 0} (xs : List X) (x : X) → Contains xs x → (before : List X) × (after : List X) × (xs ≡ before ++ x ∷ after)
split_at [] x has = absurd (Contains-nil x has)
split_at {X = X} (y ∷ xs) x has = elim (Contains-cases y xs x has) [
  | inl here ↦ ([], xs, ap (λ (z : X). z ∷ xs) (sym here))
  | inr there ↦ let found = split_at xs x there in (y ∷ found.0, found.1, ap (λ (l : List X). y ∷ l) found.2)
]

beside_cases : {X : Type 0} (before after : List X) (x y : X) → Contains (before ++ x ∷ after) y → Contains (before ++ after) y ⊎ (y ≡ x)
beside_cases before after x y has = elim (Contains-append_cases before (x ∷ after) y has) [
  | inl near ↦ inl (Contains-append_left before after y near)
  | inr far ↦ elim (Contains-cases x after y far) [
    | inl same ↦ inr same
    | inr later ↦ inl (Contains-append_right before after y later)
  ]
]

-- where each of a list, no two of which are alike, has one of another, and those that have the same are alike
pub no_fewer : {X Y : Type 0} (alike : X → X → Bool) (Has : X → Y → Type 0) (xs : List X) (ys : List Y) → AreApart alike xs
    → ((x : X) → Contains xs x → (y : Y) × Contains ys y × Has x y)
    → ((x z : X) (y : Y) → Contains xs x → Contains xs z → Has x y → Has z y → alike x z ≡ true)
    → length xs ≤ length ys
no_fewer alike Has [] ys apart gives same = omega arith
no_fewer {X} {Y} alike Has (x ∷ xs) ys apart gives same =
    let own = gives x (Contains-head x xs) in
    let y = own.0 in
    let parts = split_at ys y own.1 in
    let others = parts.0 ++ parts.1 in
    let fewer : length xs ≤ length others =
    no_fewer alike Has xs others apart.1
    (λ z z_in.
    let found = gives z (Contains-later x xs z z_in) in
    let at : Contains others found.0 ⊎ (found.0 ≡ y) =
    beside_cases parts.0 parts.1 y found.0 (subst (λ (l : List Y). Contains l found.0) parts.2 found.1) in
    elim at [
      | inl beside ↦ (found.0, beside, found.2)
      | inr shared ↦
          absurd (true≢false (sym (same x z y (Contains-head x xs) (Contains-later x xs z z_in) own.2 (subst (λ (t : Y). Has z t) shared found.2))
          ∙ All-contains (λ (w : X). alike x w ≡ false) xs z apart.0 z_in))
    ])
    (λ w z t w_in z_in. same w z t (Contains-later x xs w w_in) (Contains-later x xs z z_in)) in
    omega (arith, fewer, ap (λ (l : List Y). length l) parts.2, length-append parts.0 (y ∷ parts.1), length-append parts.0 parts.1)
