-- A text is cut into lines as the definition cuts it.
use Rattle.std.proofs.Common.{◌≡◌, ◌<◌, ◌≤◌, ◌+◌, ◌-◌, ℕ, Bool, true, false, not, cond, List, [], ◌∷◌, length, take, drop, get_or, arith, ap, sym, ◌∙◌, refl, nat_eq, length-drop}
use Rattle.std.proofs.lemmas.List.Elements.{All-from_get_or}
use Rattle.std.proofs.lemmas.List.Sums.{prefix_len_passes}
use Rattle.std.proofs.lemmas.List.Splits.{slice_split_none, slice_split_first}
use Rattle.std.proofs.lemmas.List.{drop-drop, length-take, length-take-le}
use Rattle.std.proofs.lemmas.Bool.{not-true}
use Rattle.std.specs.List.{slice_split, ends_with, position_or_len, before_first, after_first, onto_first}
use Rattle.lexer.specs.Lines.{is_line_feed, line_texts, without_return, without_returns, CutsAt, IsLastLine}

pub record IsCons (xs : List (List ℕ)) : Type 0 where
  pub first : List ℕ
  pub others : List (List ℕ)
  pub whole : xs ≡ first ∷ others

onto_cons : (x : ℕ) (xs : List (List ℕ)) → IsCons (onto_first x xs)
onto_cons x [] = record { first = _; others = _; whole = refl }
onto_cons x (l ∷ ls) = record { first = _; others = _; whole = refl }

split_cons : (p : ℕ → Bool) (xs : List ℕ) → IsCons (slice_split p xs)
split_cons p [] = record { first = []; others = []; whole = refl }
split_cons p (x ∷ xs) = elim (p x) as (λ b. IsCons (cond b ([] ∷ slice_split p xs) (onto_first x (slice_split p xs))))
    [ true ↦ record { first = []; others = slice_split p xs; whole = refl } | false ↦ onto_cons x (slice_split p xs) ]

before_others : (line : List ℕ) (ls : List (List ℕ)) → IsCons ls → without_returns (line ∷ ls) ≡ without_return line ∷ without_returns ls
before_others line ls c = rw c.whole refl

pub last_line : (text : List ℕ) (end : ℕ) → end ≡ position_or_len is_line_feed text → length text ≤ end → IsLastLine text text
unfolding line_texts
last_line text end e h = record {
  lines = rw (slice_split_none is_line_feed text (All-from_get_or (λ b. is_line_feed b ≡ false) text 0 (λ i below. not-true (is_line_feed (get_or text i 0)) (prefix_len_passes (λ b. not (is_line_feed b)) text i 0 (omega arith))))) refl;
  within = omega arith;
}

return_within : (line : List ℕ) → length (without_return line) ≤ length line
return_within line = shorter (ends_with nat_eq line (13 ∷ []))
  where
    shorter : (b : Bool) → length (cond b (take (length line - 1) line) line) ≤ length line
    shorter true = let size = length-take (length line - 1) line in omega arith
    shorter false = omega arith

pub cuts_at : (text front after line rest : List ℕ) (end : ℕ) → end ≡ position_or_len is_line_feed text → end < length text
    → front ≡ take end text → after ≡ drop end text → rest ≡ drop 1 after → line ≡ without_return front → CutsAt text line rest
unfolding line_texts
cuts_at text front after line rest end e h is_front is_after_it is_rest is_line =
    let here : position_or_len is_line_feed text ≡ end = sym e in
    let split = slice_split_first is_line_feed text 0 (omega arith) in
    let front_is : before_first is_line_feed text ≡ front = ap (λ n. take n text) here ∙ sym is_front in
    let rest_is : after_first is_line_feed text ≡ rest = ap (λ n. drop (n + 1) text) here ∙ (sym (drop-drop 1 end text) ∙ sym (is_rest ∙ ap (λ t. drop 1 t) is_after_it)) in
    record {
      lines = rw (split, front_is, rest_is) (rw (before_others front (slice_split is_line_feed rest) (split_cons is_line_feed rest)) (rw (sym is_line) refl));
      shorter = let size : length rest ≡ length text - (end + 1) = ap length (sym rest_is ∙ ap (λ n. drop (n + 1) text) here) ∙ length-drop (end + 1) text in omega arith;
      within = let size : length line ≤ length front = rw is_line (return_within front) in let half : length front ≡ end = rw is_front (length-take-le end text (omega arith)) in omega arith;
    }
