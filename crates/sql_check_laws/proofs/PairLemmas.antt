-- Pairs: all are there exactly where they are as many as the product.
use Rattle.std.proofs.Common.{◌≡◌, ◌+◌, ◌*◌, ℕ, suc, Bool, true, false, ◌&&◌, ◌⊎◌, List, [], ◌∷◌, ◌++◌, length, map, refl, sym, ap, subst, ◌∙◌, inl, inr, ⊎_elim, arith}
use Rattle.std.proofs.lemmas.Bool.{cases_Bool, true≢false, and_parts, and_from}
use Rattle.std.proofs.lemmas.List.{map-id}
use Rattle.std.specs.Prelude.{◌↔◌, Contains}
use Rattle.std.specs.Set.{is_member, distinct_count}
use Rattle.dep_model.proofs.ListLemmas.{Contains-head, Contains-later, Contains-cases, Contains-map, map-member}
use Rattle.sql_check_laws.proofs.CountLemmas.{DecidesSame, told_member, member_told, AreWithin, count-le, count-lt, count-alike, unique-append_within, count-append_apart}

-- ---- pairs
pub record Pair (B C : Type 0) : Type 0 where
  pub first : B
  pub second : C

abbrev pub pair : {B C : Type 0} → B → C → Pair B C
pair b c = record { first = b; second = c }

abbrev pub pair_eq : {B C : Type 0} → (B → B → Bool) → (C → C → Bool) → Pair B C → Pair B C → Bool
pair_eq eq eq' p q = eq p.first q.first && eq' p.second q.second

pub pair_eq-decides : {B C : Type 0} (eq : B → B → Bool) (eq' : C → C → Bool) → DecidesSame eq → DecidesSame eq' → DecidesSame (pair_eq eq eq')
pair_eq-decides {B} {C} eq eq' same same' p q = (to, from)
  where
    to : (eq p.first q.first && eq' p.second q.second) ≡ true → p ≡ q
    to e =
        let both = and_parts (eq p.first q.first) (eq' p.second q.second) e in
        ap (λ (b : B). pair b p.second) ((same p.first q.first).0 both.0) ∙ ap (λ (c : C). pair q.first c) ((same' p.second q.second).0 both.1)

    from : p ≡ q → (eq p.first q.first && eq' p.second q.second) ≡ true
    from e =
        and_from (eq p.first q.first) (eq' p.second q.second)
        ((same p.first q.first).1 (ap (λ (z : Pair B C). z.first) e)) ((same' p.second q.second).1 (ap (λ (z : Pair B C). z.second) e))

-- ---- all pairs of two lists
abbrev pub row_of : {B C : Type 0} → B → List C → List (Pair B C)
row_of b cs = map (pair b) cs

abbrev pub all_pairs : {B C : Type 0} → List B → List C → List (Pair B C)
all_pairs [] cs = []
all_pairs (b ∷ bs) cs = row_of b cs ++ all_pairs bs cs

pub append-member : {X : Type 0} (xs ys : List X) (x : X) → Contains (xs ++ ys) x → Contains xs x ⊎ Contains ys x
append-member [] ys x h = inr h
append-member (z ∷ xs) ys x h = ⊎_elim
    (λ (first : x ≡ z). inl (subst (λ (w : _). Contains (w ∷ xs) x) first (Contains-head x xs)))
    (λ later. ⊎_elim (λ front. inl (Contains-later z xs x front)) (λ back. inr back) (append-member xs ys x later))
    (Contains-cases z (xs ++ ys) x h)

member-left : {X : Type 0} (xs ys : List X) (x : X) → Contains xs x → Contains (xs ++ ys) x
member-left [] ys x h = absurd (omega (arith, h.1))
member-left (z ∷ xs) ys x h = ⊎_elim
    (λ (first : x ≡ z). subst (λ (w : _). Contains (w ∷ (xs ++ ys)) x) first (Contains-head x (xs ++ ys)))
    (λ later. Contains-later z (xs ++ ys) x (member-left xs ys x later))
    (Contains-cases z xs x h)

member-right : {X : Type 0} (xs ys : List X) (x : X) → Contains ys x → Contains (xs ++ ys) x
member-right [] ys x h = h
member-right (z ∷ xs) ys x h = Contains-later z (xs ++ ys) x (member-right xs ys x h)

-- the members of all pairs are the pairs of members
all_pairs-to : {B C : Type 0} (bs : List B) (cs : List C) (p : Pair B C) → Contains (all_pairs bs cs) p → Contains bs p.first × Contains cs p.second
all_pairs-to [] cs p h = absurd (omega (arith, h.1))
all_pairs-to {B} {C} (b ∷ bs) cs p h = ⊎_elim
    (λ front.
    let found = map-member (pair b) cs p front in (
      subst (λ (z : B). Contains (b ∷ bs) z) (ap (λ (q : Pair B C). q.first) found.2) (Contains-head b bs),
      subst (λ (z : C). Contains cs z) (ap (λ (q : Pair B C). q.second) found.2) found.1,
    ))
    (λ back. let rest = all_pairs-to bs cs p back in (Contains-later b bs p.first rest.0, rest.1))
    (append-member (row_of b cs) (all_pairs bs cs) p h)

all_pairs-from : {B C : Type 0} (bs : List B) (cs : List C) (b : B) (c : C) → Contains bs b → Contains cs c → Contains (all_pairs bs cs) (pair b c)
all_pairs-from [] cs b c h k = absurd (omega (arith, h.1))
all_pairs-from {B} {C} (b' ∷ bs) cs b c h k = ⊎_elim
    (λ (first : b ≡ b'). member-left (row_of b' cs) (all_pairs bs cs) (pair b c)
    (subst (λ (z : B). Contains (row_of z cs) (pair b c)) first (Contains-map (pair b) cs c k)))
    (λ later. member-right (row_of b' cs) (all_pairs bs cs) (pair b c) (all_pairs-from bs cs b c later k))
    (Contains-cases b' bs b h)

-- ---- how many pairs there are
zero_mul : (n : ℕ) → 0 * n ≡ 0
zero_mul n = omega arith

one_more : (m n : ℕ) → n + m * n ≡ suc m * n
one_more m n = grind arith

and_known : (a b : Bool) → a ≡ true → (a && b) ≡ b
and_known a b known = rw known refl

map-same : {C : Type 0} (cs : List C) → map (λ (c : C). c) cs ≡ cs
map-same cs = map-id cs

count-row : {B C : Type 0} (eq : B → B → Bool) (eq' : C → C → Bool) → DecidesSame eq → (b : B) (cs : List C)
    → distinct_count (pair_eq eq eq') (row_of b cs) ≡ distinct_count eq' cs
count-row {B} {C} eq eq' same b cs =
    count-alike (pair_eq eq eq') eq' (pair b) (λ (c : C). c) cs (λ t u h k. and_known (eq b b) (eq' t u) ((same b b).1 refl))
    ∙ ap (distinct_count eq') (map-same cs)

count-all_pairs : {B C : Type 0} (eq : B → B → Bool) (eq' : C → C → Bool) → DecidesSame eq → DecidesSame eq' → (bs : List B) (cs : List C)
    → distinct_count (pair_eq eq eq') (all_pairs bs cs) ≡ distinct_count eq bs * distinct_count eq' cs
count-all_pairs eq eq' same same' [] cs = sym (zero_mul (distinct_count eq' cs))
count-all_pairs {B} {C} eq eq' same same' (b ∷ bs) cs =
    let rest = count-all_pairs eq eq' same same' bs cs in
    let both = pair_eq-decides eq eq' same same' in
    elim (cases_Bool (is_member eq bs b)) [
      | inl there ↦
          let within : AreWithin (row_of b cs) (all_pairs bs cs) = λ p h.
          let found = map-member (pair b) cs p h in
          subst (λ (q : Pair B C). Contains (all_pairs bs cs) q) found.2 (all_pairs-from bs cs b found.0 (told_member eq same bs b there) found.1) in
          rw there (ap length (unique-append_within (pair_eq eq eq') both (row_of b cs) (all_pairs bs cs) within) ∙ rest)
      | inr not_there ↦
          let apart : (p : Pair B C) → Contains (row_of b cs) p → Contains (all_pairs bs cs) p → ⊥ = λ p h k.
          let found = map-member (pair b) cs p h in
          let first : p.first ≡ b = sym (ap (λ (q : Pair B C). q.first) found.2) in
          let in_bs : Contains bs b = subst (λ (z : B). Contains bs z) first (all_pairs-to bs cs p k).0 in
          true≢false (sym (member_told eq same bs b in_bs) ∙ not_there) in
          rw not_there (count-append_apart (pair_eq eq eq') both (row_of b cs) (all_pairs bs cs) apart
          ∙ ap (λ (n : ℕ). n + distinct_count (pair_eq eq eq') (all_pairs bs cs)) (count-row eq eq' same b cs)
          ∙ ap (λ (n : ℕ). distinct_count eq' cs + n) rest
          ∙ one_more (distinct_count eq bs) (distinct_count eq' cs))
    ]

-- ---- the values of two functions
-- for each two members some member has the first one's value of f and the second one's of g
abbrev pub ArePaired : {A B C : Type 0} → (A → B) → (A → C) → List A → Type 0
ArePaired {A} f g xs = (t u : A) → Contains xs t → Contains xs u → (v : A) × Contains xs v × (f v ≡ f t) × (g v ≡ g u)

-- all pairs are there exactly where they are as many as the product
pub pairs_counted : {A B C : Type 0} (eq : B → B → Bool) (eq' : C → C → Bool) → DecidesSame eq → DecidesSame eq' → (f : A → B) (g : A → C) (xs : List A)
    → ArePaired f g xs ↔ (distinct_count eq (map f xs) * distinct_count eq' (map g xs) ≡ distinct_count (pair_eq eq eq') (map (λ t. pair (f t) (g t)) xs))
pairs_counted {A} {B} {C} eq eq' same same' f g xs = (to, from)
  where
    both : DecidesSame (pair_eq eq eq')
    both = pair_eq-decides eq eq' same same'

    every : List (Pair B C)
    every = all_pairs (map f xs) (map g xs)

    there : List (Pair B C)
    there = map (λ t. pair (f t) (g t)) xs

    within : AreWithin there every
    within p h =
        let found = map-member (λ (t : A). pair (f t) (g t)) xs p h in
        subst (λ (q : Pair B C). Contains every q) found.2
        (all_pairs-from (map f xs) (map g xs) (f found.0) (g found.0) (Contains-map f xs found.0 found.1) (Contains-map g xs found.0 found.1))

    product : distinct_count (pair_eq eq eq') every ≡ distinct_count eq (map f xs) * distinct_count eq' (map g xs)
    product = count-all_pairs eq eq' same same' (map f xs) (map g xs)

    to : ArePaired f g xs → distinct_count eq (map f xs) * distinct_count eq' (map g xs) ≡ distinct_count (pair_eq eq eq') there
    to paired =
        let all : AreWithin every there = λ p h.
        let parts = all_pairs-to (map f xs) (map g xs) p h in
        let t = map-member f xs p.first parts.0 in
        let u = map-member g xs p.second parts.1 in
        let v = paired t.0 u.0 t.1 u.1 in
        let is : pair (f v.0) (g v.0) ≡ p = ap (λ (b : B). pair b (g v.0)) (v.2 ∙ t.2) ∙ ap (λ (c : C). pair p.first c) (v.3 ∙ u.2) in
        subst (λ (q : Pair B C). Contains there q) is (Contains-map (λ (t : A). pair (f t) (g t)) xs v.0 v.1) in
        let up = count-le (pair_eq eq eq') both there every within in
        let down = count-le (pair_eq eq eq') both every there all in
        sym product ∙ omega (arith, up, down)

    from : distinct_count eq (map f xs) * distinct_count eq' (map g xs) ≡ distinct_count (pair_eq eq eq') there → ArePaired f g xs
    from equal t u t_in u_in = elim (cases_Bool (is_member (pair_eq eq eq') there (pair (f t) (g u)))) [
      | inl found ↦
          let v = map-member (λ (s : A). pair (f s) (g s)) xs (pair (f t) (g u)) (told_member (pair_eq eq eq') both there (pair (f t) (g u)) found) in
          (v.0, v.1, ap (λ (q : Pair B C). q.first) v.2, ap (λ (q : Pair B C). q.second) v.2)
      | inr lacks ↦
          let less = count-lt (pair_eq eq eq') both there every (pair (f t) (g u)) within
          (all_pairs-from (map f xs) (map g xs) (f t) (g u) (Contains-map f xs t t_in) (Contains-map g xs u u_in)) lacks in
          absurd (omega (arith, less, product ∙ equal))
    ]
