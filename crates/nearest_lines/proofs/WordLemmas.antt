-- The words of a form are those between its blanks, up to the first empty one.
use Rattle.std.proofs.Common.{◌≡◌, ◌<◌, ◌≤◌, ◌+◌, ℕ, suc, Bool, true, false, not, cond, List, [], ◌∷◌, length, take, drop, get_or, arith, ap, sym, ◌∙◌, refl}
use Rattle.std.proofs.lemmas.Bool.{not-true}
use Rattle.std.proofs.lemmas.List.{drop-drop}
use Rattle.std.proofs.lemmas.List.Elements.{All-from_get_or}
use Rattle.std.proofs.lemmas.List.Splits.{slice_split_none, slice_split_first}
use Rattle.std.proofs.lemmas.List.Sums.{prefix_len_passes}
use Rattle.std.specs.List.{slice_split, position_or_len, before_first, after_first, take_while, prefix_len, fold}
use Rattle.nearest_lines.specs.Nearest.{is_blank, is_hit, is_not_empty, hits_in}

-- ---- cuts
-- no blank stands in the bytes
pub one_word : (text : List ℕ) → length text ≤ position_or_len is_blank text → slice_split is_blank text ≡ text ∷ []
one_word text h =
    slice_split_none is_blank text (All-from_get_or (λ b. is_blank b ≡ false) text 0
    (λ i below. not-true (is_blank (get_or text i 0)) (prefix_len_passes (λ b. not (is_blank b)) text i 0 (omega (arith, h, below)))))

-- a blank stands after the first word
pub first_word : (text : List ℕ) (end : ℕ) → end ≡ position_or_len is_blank text → end < length text
    → slice_split is_blank text ≡ take end text ∷ slice_split is_blank (drop 1 (drop end text))
first_word text end e h =
    let here : position_or_len is_blank text ≡ end = sym e in
    let split = slice_split_first is_blank text 0 (omega (arith, h, e)) in
    let front : before_first is_blank text ≡ take end text = ap (λ n. take n text) here in
    let rest : after_first is_blank text ≡ drop 1 (drop end text) = ap (λ n. drop (n + 1) text) here ∙ sym (drop-drop 1 end text) in
    rw (split, front, rest) refl

pub word_cut : (text word tail rest : List ℕ) (end : ℕ) → end ≡ position_or_len is_blank text → end < length text
    → word ≡ take end text → tail ≡ drop end text → rest ≡ drop 1 tail → slice_split is_blank text ≡ word ∷ slice_split is_blank rest
word_cut text word tail rest end e h front back more =
    let left : rest ≡ drop 1 (drop end text) = more ∙ ap (λ (t : List ℕ). drop 1 t) back in
    first_word text end e h ∙ sym (ap (λ (w : List ℕ). w ∷ slice_split is_blank rest) front
    ∙ ap (λ (r : List ℕ). take end text ∷ slice_split is_blank r) left)

-- ---- counts
take_while_more : (p : List ℕ → Bool) (x : List ℕ) (xs : List (List ℕ)) → p x ≡ true → take_while p (x ∷ xs) ≡ x ∷ take_while p xs
take_while_more p x xs e =
    let next : 1 + prefix_len p xs ≡ suc (prefix_len p xs) = omega arith in
    ap (λ (b : Bool). take (cond b (1 + prefix_len p xs) 0) (x ∷ xs)) e ∙ ap (λ (n : ℕ). take n (x ∷ xs)) next

-- a count of the words of a form, where these are left
abbrev pub counted : List (List ℕ) → ℕ → List (List ℕ) → ℕ
counted words count left = fold (λ (n : ℕ) (word : List ℕ). n + cond (is_hit words word) 1 0) count (take_while is_not_empty left)

-- a count goes on to that of the whole form
pub record IsCounted (words : List (List ℕ)) (form : List ℕ) (count : ℕ) (rest : List ℕ) : Type 0 where
  pub same : counted words count (slice_split is_blank rest) ≡ hits_in words (slice_split is_blank form)
  pub fits : count + length rest ≤ length form

pub counted_more : (words : List (List ℕ)) (count next : ℕ) (word : List ℕ) (others : List (List ℕ)) → is_not_empty word ≡ true
    → next ≡ count + cond (is_hit words word) 1 0 → counted words count (word ∷ others) ≡ counted words next others
counted_more words count next word others some is =
    ap (fold (λ (n : ℕ) (w : List ℕ). n + cond (is_hit words w) 1 0) count) (take_while_more is_not_empty word others some)
    ∙ ap (λ (n : ℕ). counted words n others) (sym is)

pub count_on : (words : List (List ℕ)) (form rest after word : List ℕ) (count hit next : ℕ) → IsCounted words form count rest
    → slice_split is_blank rest ≡ word ∷ slice_split is_blank after → is_not_empty word ≡ true → length word + length after < length rest
    → hit ≡ cond (is_hit words word) 1 0 → hit ≤ 1 → next ≡ count + hit → IsCounted words form next after
count_on words form rest after word count hit next so_far split some shorter is few sum = record {
  same = sym (counted_more words count next word (slice_split is_blank after) some (sum ∙ ap (λ (h : ℕ). count + h) is))
      ∙ ap (counted words count) (sym split) ∙ so_far.same;
  fits = omega (arith, so_far.fits, shorter, few, sum);
}
