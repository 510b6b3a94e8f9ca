-- The last of the files that were begun, where a file source tells which they are.
use Rattle.std.proofs.Common.{◌≡◌, ℕ, List, [], ◌∷◌, ◌++◌, refl, sym, ap, ◌∙◌}
use Rattle.std.proofs.lemmas.List.{append_cancel_left}
use Rattle.desk_inputs.specs.FilesBegun.{BeginsLast}

-- the last name of a list
last_of : List (List ℕ) → List ℕ
last_of [] = []
last_of (name ∷ []) = name
last_of (name ∷ next ∷ names) = last_of (next ∷ names)

last_of_longer : (names : List (List ℕ)) (name : List ℕ) → last_of (names ++ name ∷ []) ≡ name
unfolding last_of
last_of_longer [] name = refl
last_of_longer (first ∷ []) name = refl
last_of_longer (first ∷ next ∷ names) name = last_of_longer (next ∷ names) name

pub last_taken : (old earlier : List (List ℕ)) (name other : List ℕ)
    → BeginsLast other (λ names. old ≡ names) (λ names. old ++ (earlier ++ name ∷ []) ≡ names) → other ≡ name
last_taken old earlier name other last =
    let same : earlier ++ name ∷ [] ≡ last.0 ++ other ∷ [] =
    append_cancel_left old (earlier ++ name ∷ []) (last.0 ++ other ∷ []) (last.1 old refl) in
    sym (last_of_longer last.0 other) ∙ sym (ap last_of same) ∙ last_of_longer earlier name
