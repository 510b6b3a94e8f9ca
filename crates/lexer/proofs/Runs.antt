-- Each byte of a run may stand in a name.
use Rattle.std.proofs.Common.{◌≡◌, ◌+◌, ℕ, Bool, true, false, cond, List, [], ◌∷◌, take, refl, one-add}
use Rattle.std.proofs.lemmas.Bool.{and_from}
use Rattle.std.specs.List.{list_all, prefix_len}

pub run_passes : (p : ℕ → Bool) (text : List ℕ) → list_all p (take (prefix_len p text) text) ≡ true
run_passes p [] = refl
run_passes p (b ∷ bs) = by_cases (p b) refl (run_passes p bs)
  where
    by_cases : (passes : Bool) → p b ≡ passes → list_all p (take (prefix_len p bs) bs) ≡ true
        → list_all p (take (cond passes (1 + prefix_len p bs) 0) (b ∷ bs)) ≡ true
    by_cases true e rest = rw one-add (and_from _ _ e rest)
    by_cases false e rest = refl
