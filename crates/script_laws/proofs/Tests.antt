-- Lists of what a function makes, beside other lists, and one of two lists: what is so of all members.
use Rattle.std.proofs.Common.{◌≡◌, Bool, true, false, List, [], ◌∷◌, ◌++◌, map, refl, ◌∙◌}
use Rattle.std.specs.Prelude.{All, if◌then◌else◌, slice_index_or}
use Rattle.std.specs.List.{list_all, list_any}
use Rattle.std.proofs.lemmas.Bool.{and_from, or_from, or_right}
use Rattle.std.proofs.lemmas.List.Folds.{list_all-append, list_any-append}
use Rattle.std.proofs.lemmas.List.Elements.{All-map}

pub all_made : {X Y : Type 0} (test : Y → Bool) (make : X → Y) (xs : List X) → ((x : X) → test (make x) ≡ true)
    → list_all test (map make xs) ≡ true
all_made test make [] each = refl
all_made test make (x ∷ xs) each =
    and_from (test (make x)) (list_all test (map make xs)) (each x) (all_made test make xs each)

pub none_made : {X Y : Type 0} (test : Y → Bool) (make : X → Y) (xs : List X) → ((x : X) → test (make x) ≡ false)
    → list_any test (map make xs) ≡ false
none_made test make [] none = refl
none_made test make (x ∷ xs) none =
    or_from (test (make x)) (list_any test (map make xs)) (none x) (none_made test make xs none)

pub all_both : {X : Type 0} (test : X → Bool) (xs ys : List X) → list_all test xs ≡ true → list_all test ys ≡ true
    → list_all test (xs ++ ys) ≡ true
all_both test xs ys first second =
    list_all-append test xs ys ∙ and_from (list_all test xs) (list_all test ys) first second

pub any_later : {X : Type 0} (test : X → Bool) (xs ys : List X) → list_any test ys ≡ true
    → list_any test (xs ++ ys) ≡ true
any_later test xs ys some = list_any-append test xs ys ∙ or_right (list_any test xs) (list_any test ys) some

-- ---- what holds of all
pub all_of : {X Y : Type 0} (P : Y → Type 0) (make : X → Y) (xs : List X) → ((x : X) → P (make x)) → All P (map make xs)
all_of P make xs each = All-map P make xs (λ k d within. each (slice_index_or xs k d))

pub all_either : {X : Type 0} (P : X → Type 0) (b : Bool) (xs ys : List X) → All P xs → All P ys
    → All P (if b then xs else ys)
all_either P true xs ys first second = first
all_either P false xs ys first second = second
