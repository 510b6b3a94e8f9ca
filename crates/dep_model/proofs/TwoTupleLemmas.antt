-- The two tuples that agree exactly on a set.
use Rattle.std.proofs.Common.{◌≡◌, ℕ, ◌<◌, ◌⊎◌, Bool, cond, List, [], ◌∷◌, length, get_or, refl, sym, ap, subst, ◌∙◌, inl, inr, arith}
use Rattle.std.proofs.lemmas.Bool.{cases_Bool, true≢false}
use Rattle.std.proofs.lemmas.List.{length-replicate, get_or-replicate}
use Rattle.std.proofs.lemmas.List.FromFn.{length-map-range_with_len, get_or-map-range_with_len}
use Rattle.std.proofs.lemmas.List.Elements.{All-nil, All-cons}
use Rattle.std.proofs.lemmas.Fmt.{decimal_digit}
use Rattle.std.specs.Prelude.{decimal}
use Rattle.attr_sets.specs.Attributes.{Attributes, below, union, difference, IsSubset}
use Rattle.dep_model.specs.Tuples.{Tuple, Relation, value_at, AgreeExactly, IsOver}
use Rattle.dep_model.specs.Dependencies.{ObeysFd, ObeysMvd}
use Rattle.dep_model.proofs.TwoRowLemmas.{fd_two-to, fd_two-from, mvd_two-to, mvd_two-from}
use Rattle.dep_model.specs.TwoTuples.{zero_text, one_text, all_zeros, zeros_on, two_tuples}

-- nothing in decimal
pub decimal_zero : decimal 0 ≡ zero_text
decimal_zero = decimal_digit 0 (omega arith)

pub zero≢one : zero_text ≡ one_text → ⊥
zero≢one e = absurd (omega (arith, ap (λ (bytes : List ℕ). get_or bytes 0 0) e))

pub length-all_zeros : (n : ℕ) → length (all_zeros n) ≡ n
unfolding all_zeros
length-all_zeros n = length-replicate n zero_text

pub length-zeros_on : (n : ℕ) (x : Attributes) → length (zeros_on n x) ≡ n
unfolding zeros_on
length-zeros_on n x = length-map-range_with_len (λ (k : ℕ). cond (x k) zero_text one_text) 0 n

pub value_at-all_zeros : (n k : ℕ) → k < n → value_at (all_zeros n) k ≡ zero_text
unfolding all_zeros
value_at-all_zeros n k h = get_or-replicate n k zero_text [] h

pub value_at-zeros_on : (n : ℕ) (x : Attributes) (k : ℕ) → k < n → value_at (zeros_on n x) k ≡ cond (x k) zero_text one_text
unfolding zeros_on
value_at-zeros_on n x k h = get_or-map-range_with_len (λ (j : ℕ). cond (x j) zero_text one_text) 0 n k k [] h (omega arith)

-- they agree exactly on the set
pub two_tuples-agree : (n : ℕ) (x : Attributes) → AgreeExactly n x (all_zeros n) (zeros_on n x)
two_tuples-agree n x = record {
  first = length-all_zeros n;
  second = length-zeros_on n x;
  equal = λ k h. elim (cases_Bool (x k)) [
    | inl in_x ↦ ((λ m. value_at-all_zeros n k h ∙ sym (value_at-zeros_on n x k h ∙ ap (λ (b : Bool). cond b zero_text one_text) in_x)), (λ e. in_x))
    | inr out ↦ ((λ m. absurd (true≢false (sym m ∙ out))), (λ e. absurd (zero≢one (sym (value_at-all_zeros n k h) ∙ e ∙ value_at-zeros_on n x k h ∙ ap (λ (b : Bool). cond b zero_text one_text) out))))
  ];
}

-- the relation that they form
pub two_tuples-is : (n : ℕ) (x : Attributes) → two_tuples n x ≡ all_zeros n ∷ zeros_on n x ∷ []
unfolding two_tuples
two_tuples-is n x = refl

pub two_tuples-over : (n : ℕ) (x : Attributes) → IsOver n (two_tuples n x)
two_tuples-over n x = rw (two_tuples-is n x)
    (All-cons (λ (t : Tuple). length t ≡ n) (all_zeros n) (zeros_on n x ∷ []) (length-all_zeros n)
    (All-cons (λ (t : Tuple). length t ≡ n) (zeros_on n x) [] (length-zeros_on n x) (All-nil (λ (t : Tuple). length t ≡ n))))

-- ---- what they obey
pub two_tuples_fd-to : (n : ℕ) (a x y : Attributes) → IsSubset x (below n) → IsSubset y (below n) → ObeysFd x y (two_tuples n a) → IsSubset x a → IsSubset y a
two_tuples_fd-to n a x y x_in y_in obeys =
    fd_two-to n a x y (all_zeros n) (zeros_on n a) (two_tuples-agree n a) x_in y_in (subst (λ (r : Relation). ObeysFd x y r) (two_tuples-is n a) obeys)

pub two_tuples_fd-from : (n : ℕ) (a x y : Attributes) → IsSubset x (below n) → IsSubset y (below n) → (IsSubset x a → IsSubset y a) → ObeysFd x y (two_tuples n a)
two_tuples_fd-from n a x y x_in y_in gives =
    rw (two_tuples-is n a) (fd_two-from n a x y (all_zeros n) (zeros_on n a) (two_tuples-agree n a) x_in y_in gives)

pub two_tuples_mvd-to : (n : ℕ) (a x y : Attributes) → IsSubset x (below n) → IsSubset y (below n) → ObeysMvd (below n) x y (two_tuples n a) → IsSubset x a → IsSubset y a ⊎ IsSubset (difference (below n) (union x y)) a
two_tuples_mvd-to n a x y x_in y_in obeys =
    mvd_two-to n a x y (all_zeros n) (zeros_on n a) (two_tuples-agree n a) x_in y_in (subst (λ (r : Relation). ObeysMvd (below n) x y r) (two_tuples-is n a) obeys)

pub two_tuples_mvd-from : (n : ℕ) (a x y : Attributes) → IsSubset x (below n) → IsSubset y (below n) → (IsSubset x a → IsSubset y a ⊎ IsSubset (difference (below n) (union x y)) a) → ObeysMvd (below n) x y (two_tuples n a)
two_tuples_mvd-from n a x y x_in y_in gives =
    rw (two_tuples-is n a) (mvd_two-from n a x y (all_zeros n) (zeros_on n a) (two_tuples-agree n a) x_in y_in gives)
