-- Files that are begun one after the other.
use Rattle.std.proofs.Common.{◌≡◌, ℕ, ◌+◌, zero, min, arith, List, [], ◌∷◌, ◌++◌, length, take, sym, subst, ◌∙◌, ap}
use Rattle.std.proofs.lemmas.List.{append-nil, append_assoc, take_min, take-append-le}
use Rattle.std.proofs.Math.Seq.{take-append-add}
use Rattle.desk_outside.specs.Begun.{Begun}
use Rattle.desk_inputs.specs.FilesBegun.{BeginsAll, BeginsFront, BeginsLast}

-- no file is begun where nothing is read
pub front_none : (names : List (List ℕ)) (begun : Begun) → BeginsFront names begun begun
front_none names begun = λ before is. (zero, subst begun (sym (append-nil before)) is)

-- those that are begun are a front of a longer list too
pub front_longer : (names rest : List (List ℕ)) (old new : Begun) → BeginsFront names old new → BeginsFront (names ++ rest) old new
front_longer names rest old new front = λ before is.
    let some = front before is in
    let same : take some.0 names ≡ take (min some.0 (length names)) (names ++ rest) =
    sym (take_min some.0 names) ∙ sym (take-append-le (min some.0 (length names)) names rest (omega arith)) in
    (min some.0 (length names), subst (λ (l : List (List ℕ)). new (before ++ l)) same some.1)

-- after some files come others
pub front_later : (names rest : List (List ℕ)) (old middle new : Begun) → BeginsAll names old middle → BeginsFront rest middle new
    → BeginsFront (names ++ rest) old new
front_later names rest old middle new all front = λ before is.
    let some = front (before ++ names) (all before is) in
    let same : (before ++ names) ++ take some.0 rest ≡ before ++ take (length names + some.0) (names ++ rest) =
    append_assoc before names (take some.0 rest) ∙ ap (λ (l : List (List ℕ)). before ++ l) (sym (take-append-add names rest some.0)) in
    (length names + some.0, subst new same some.1)

-- the last of later files is the last of all
pub last_later : (names : List (List ℕ)) (name : List ℕ) (old middle new : Begun) → BeginsAll names old middle → BeginsLast name middle new
    → BeginsLast name old new
last_later names name old middle new all last = (
  names ++ last.0,
  λ before is.
      let same : (before ++ names) ++ (last.0 ++ name ∷ []) ≡ before ++ ((names ++ last.0) ++ name ∷ []) =
      append_assoc before names (last.0 ++ name ∷ []) ∙ ap (λ (l : List (List ℕ)). before ++ l) (sym (append_assoc names last.0 (name ∷ []))) in
      subst new same (last.1 (before ++ names) (all before is)),
)
