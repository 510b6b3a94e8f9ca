-- Lists that are mapped or filtered: what holds of all their elements, or of each two.
use Rattle.std.proofs.Common.{◌≡◌, ◌<◌, zero, suc, Bool, true, cond, All, AllPairs, List, [], ◌∷◌, map, length, get_or, refl, sym, ap, subst, ◌∙◌, arith}
use Rattle.std.specs.Prelude.{filter}
use Rattle.std.proofs.lemmas.List.{get_or-map, length-map}
use Rattle.std.proofs.lemmas.List.Elements.{All-head, All-tail}

pub pairs_cons : {X : Type 0} (R : X → X → Type 0) (x : X) (xs : List X) → All (R x) xs → AllPairs R xs
    → AllPairs R (x ∷ xs)
pairs_cons R x xs each pairs zero zero d less low = absurd (omega (arith, less))
pairs_cons R x xs each pairs zero (suc j) d less low = each j d (omega (arith, low))
pairs_cons R x xs each pairs (suc i) zero d less low = absurd (omega (arith, less))
pairs_cons R x xs each pairs (suc i) (suc j) d less low = pairs i j d (omega (arith, less)) (omega (arith, low))

-- what holds of the columns of sets holds of those of keys that have them
pub all_back : {X Y : Type 0} (f : X → Y) (P : Y → Type 0) (xs : List X) → All P (map f xs) → All (λ x. P (f x)) xs
all_back f P xs all i d low =
    let size : length (map f xs) ≡ length xs = length-map xs f in
    subst P (get_or-map f xs i d (f d) low) (all i (f d) (omega (arith, size, low)))

pub pairs_back : {X Y : Type 0} (f : X → Y) (R : Y → Y → Type 0) (xs : List X) → AllPairs R (map f xs)
    → AllPairs (λ x y. R (f x) (f y)) xs
pairs_back f R xs pairs i j d less low =
    let size : length (map f xs) ≡ length xs = length-map xs f in
    subst (λ x. R x (f (get_or xs j d))) (get_or-map f xs i d (f d) (omega (arith, less, low)))
    (subst (λ y. R (get_or (map f xs) i (f d)) y) (get_or-map f xs j d (f d) low)
    (pairs i j (f d) less (omega (arith, size, low))))

pub pairs_map : {X Y : Type 0} (f : X → Y) (R : Y → Y → Type 0) (xs : List X) → AllPairs (λ x y. R (f x) (f y)) xs
    → AllPairs R (map f xs)
pairs_map f R [] pairs i j d less low = absurd (omega (arith, low))
pairs_map f R (x ∷ xs) pairs i j d less low =
    let size : length (map f (x ∷ xs)) ≡ length (x ∷ xs) = length-map (x ∷ xs) f in
    let second : j < length (x ∷ xs) = omega (arith, low, size) in
    let first : i < length (x ∷ xs) = omega (arith, less, second) in
    subst (λ z. R z (get_or (map f (x ∷ xs)) j d)) (sym (get_or-map f (x ∷ xs) i x d first))
    (subst (λ z. R (f (get_or (x ∷ xs) i x)) z) (sym (get_or-map f (x ∷ xs) j x d second)) (pairs i j x less second))

pub keep_all : {X : Type 0} (p : X → Bool) (xs : List X) → All (λ x. p x ≡ true) xs → filter p xs ≡ xs
keep_all p [] all = refl
keep_all p (x ∷ xs) all =
    ap (λ (b : Bool). cond b (x ∷ filter p xs) (filter p xs)) (All-head (λ y. p y ≡ true) x xs all)
    ∙ ap (λ ys. x ∷ ys) (keep_all p xs (All-tail (λ y. p y ≡ true) x xs all))
