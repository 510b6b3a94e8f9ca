-- A test of some element of a list.
use Rattle.std.proofs.Common.{◌≡◌, Bool, true, List, [], ◌∷◌, sym, subst, ⊎_elim}
use Rattle.std.specs.Prelude.{Contains}
use Rattle.std.specs.List.{list_any}
use Rattle.std.proofs.lemmas.Bool.{true≢false, or_cases}
use Rattle.std.proofs.lemmas.List.Elements.{Contains-append_left, Contains-append_right, Contains-push}
use Rattle.std.proofs.lemmas.List.Folds.{list_any_at}

-- one that passes is found
pub any_from : {X : Type 0} (p : X → Bool) (xs : List X) (x : X) → Contains xs x → p x ≡ true → list_any p xs ≡ true
any_from {X = X} p xs x has passes = list_any_at p xs has.0 x has.1 (subst (λ (y : X). p y ≡ true) (sym has.2) passes)

-- some element passes
pub any_some : {X : Type 0} (p : X → Bool) (xs : List X) → list_any p xs ≡ true → (x : X) × Contains xs x × (p x ≡ true)
any_some p [] passes = absurd (true≢false (sym passes))
any_some p (x ∷ xs) passes =
    ⊎_elim
    (λ here. (x, Contains-append_left (x ∷ []) xs x (Contains-push [] x), here))
    (λ there. let found = any_some p xs there in (found.0, Contains-append_right (x ∷ []) xs found.0 found.1, found.2))
    (or_cases (p x) (list_any p xs) passes)
