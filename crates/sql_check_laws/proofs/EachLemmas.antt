-- A function of each member, none of which is an error; and tests of the same kind.
use Rattle.std.proofs.Common.{◌≡◌, Bool, List, [], ◌∷◌, map, filter, cond, Some, Option, refl, ap, ◌∙◌, inl, inr}
use Rattle.std.proofs.lemmas.Bool.{cases_Bool}
use Rattle.std.specs.Prelude.{Contains, if◌then◌else◌, option_map, option_and_then}
use Rattle.dep_model.proofs.ListLemmas.{Contains-head, Contains-later}
use Rattle.sql_evaluation.specs.Values.{each}
use Rattle.sql_evaluation.specs.Evaluation.{taken}

pub each-known : {X Y : Type 0} (f : X → Option Y) (g : X → Y) (xs : List X) → ((x : X) → Contains xs x → f x ≡ Some (g x)) → each f xs ≡ Some (map g xs)
each-known f g [] known = refl
each-known {X} {Y} f g (x ∷ xs) known =
    ap (option_and_then (λ (y : Y). option_map (λ (ys : List Y). y ∷ ys) (each f xs))) (known x (Contains-head x xs))
    ∙ ap (option_map (λ (ys : List Y). g x ∷ ys)) (each-known f g xs (λ z h. known z (Contains-later x xs z h)))

pub each-map : {W X Y : Type 0} (f : X → Option Y) (h : W → X) (ws : List W) → each f (map h ws) ≡ each (λ w. f (h w)) ws
each-map f h [] = refl
each-map {W} {X} {Y} f h (w ∷ ws) =
    ap (λ (rest : Option (List Y)). option_and_then (λ (y : Y). option_map (λ (ys : List Y). y ∷ ys) rest) (f (h w))) (each-map f h ws)

pub taken-known : {X : Type 0} (f : X → Option Bool) (g : X → Bool) (xs : List X) → ((x : X) → Contains xs x → f x ≡ Some (g x)) → taken f xs ≡ Some (filter g xs)
taken-known f g [] known = refl
taken-known {X} f g (x ∷ xs) known =
    ap (option_and_then (λ (b : Bool). option_map (λ (rest : List X). if b then x ∷ rest else rest) (taken f xs))) (known x (Contains-head x xs))
    ∙ ap (option_map (λ (rest : List X). if g x then x ∷ rest else rest)) (taken-known f g xs (λ z h. known z (Contains-later x xs z h)))

pub map-known : {X Y : Type 0} (f g : X → Y) (xs : List X) → ((x : X) → Contains xs x → f x ≡ g x) → map f xs ≡ map g xs
map-known f g [] known = refl
map-known {X} {Y} f g (x ∷ xs) known =
    ap (λ (y : Y). y ∷ map f xs) (known x (Contains-head x xs)) ∙ ap (λ (ys : List Y). g x ∷ ys) (map-known f g xs (λ z h. known z (Contains-later x xs z h)))

pub map-map : {W X Y : Type 0} (f : X → Y) (h : W → X) (ws : List W) → map f (map h ws) ≡ map (λ w. f (h w)) ws
map-map f h [] = refl
map-map {W} {X} {Y} f h (w ∷ ws) = ap (λ (ys : List Y). f (h w) ∷ ys) (map-map f h ws)

pub filter-known : {X : Type 0} (f g : X → Bool) (xs : List X) → ((x : X) → Contains xs x → f x ≡ g x) → filter f xs ≡ filter g xs
filter-known f g [] known = refl
filter-known {X} f g (x ∷ xs) known =
    ap (λ (b : Bool). cond b (x ∷ filter f xs) (filter f xs)) (known x (Contains-head x xs))
    ∙ ap (λ (rest : List X). cond (g x) (x ∷ rest) rest) (filter-known f g xs (λ z h. known z (Contains-later x xs z h)))

pub filter-map : {W X : Type 0} (f : X → Bool) (h : W → X) (ws : List W) → filter f (map h ws) ≡ map h (filter (λ w. f (h w)) ws)
filter-map f h [] = refl
filter-map f h (w ∷ ws) = elim (cases_Bool (f (h w))) [
  | inl passes ↦ rw passes (ap (λ (rest : List _). h w ∷ rest) (filter-map f h ws))
  | inr fails ↦ rw fails (filter-map f h ws)
]
