-- Pieces of lists, as reads and writes move them.
use Rattle.std.proofs.Common.{◌≡◌, ℕ, ◌+◌, ◌-◌, ◌≤◌, List, ◌++◌, length, take, drop, Option, None, Some, refl, ap, sym, ◌∙◌, append_assoc}
use Rattle.std.specs.Io.KnownBytes.{append_known}
use Rattle.std.proofs.Math.Seq.{take-add}
use Rattle.std.proofs.lemmas.List.{take-append-drop, drop-drop, take_rest, take_at, length-take-le}

-- one piece and then another
pub append_known-append : (known : Option (List ℕ)) (xs ys : List ℕ) → append_known (append_known known xs) ys ≡ append_known known (xs ++ ys)
append_known-append None xs ys = refl
append_known-append (Some known) xs ys = ap Some (append_assoc known xs ys)

-- after the first m bytes the next n, from the front of the rest
pub append_known-take : (old middle new : Option (List ℕ)) (xs : List ℕ) (m n : ℕ) → middle ≡ append_known old (take m xs) → new ≡ append_known middle (take n (take (length xs - m) (drop m xs))) → new ≡ append_known old (take (m + n) xs)
append_known-take old middle new xs m n before step =
    step
    ∙ ap (λ piece. append_known middle (take n piece)) (take_rest xs m)
    ∙ ap (λ known. append_known known (take n (drop m xs))) before
    ∙ append_known-append old (take m xs) (take n (drop m xs))
    ∙ ap (append_known old) (sym (take-add m n xs))

-- the rest of a list is the front of it that was copied into a buffer, and what is left then
pub drop-copied : (xs rest copied buf : List ℕ) (m n : ℕ) → rest ≡ drop m xs → n ≤ length rest → copied ≡ take n rest → drop m xs ≡ take n (copied ++ drop n buf) ++ drop (m + n) xs
drop-copied xs rest copied buf m n is within copies =
    let long : length copied ≡ n = ap length copies ∙ length-take-le n rest within in
    sym is
    ∙ sym (take-append-drop n rest)
    ∙ ap (λ front. front ++ drop n rest) (sym copies ∙ sym (take_at copied (drop n buf) n long))
    ∙ ap (λ left. take n (copied ++ drop n buf) ++ left) (ap (drop n) is ∙ drop-drop n m xs)
