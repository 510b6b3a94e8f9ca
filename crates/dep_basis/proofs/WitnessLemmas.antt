-- The two rows of a witness, value by value.
use Rattle.std.proofs.Common.{◌≡◌, ℕ, ◌+◌, ◌<◌, Bool, true, false, cond, List, [], ◌∷◌, ◌++◌, length, refl, sym, ap, ◌∙◌, inl, inr, arith, lit≤}
use Rattle.std.proofs.lemmas.List.{same_lists, get_or_default}
use Rattle.std.proofs.lemmas.List.FromFn.{map-range_with_len_more}
use Rattle.std.proofs.lemmas.Option.{slice_get_within}
use Rattle.std.proofs.lemmas.List.Elements.{All-cons, All-nil}
use Rattle.std.specs.Prelude.{slice_get}
use Rattle.std.proofs.Common.{Some}
use Rattle.attr_sets.specs.Attributes.{Attributes}
use Rattle.dep_model.specs.Tuples.{Tuple, value_at}
use Rattle.dep_model.specs.TwoTuples.{zero_text, one_text, all_zeros, zeros_on, two_tuples}
use Rattle.dep_model.proofs.TwoTupleLemmas.{length-all_zeros, length-zeros_on, value_at-all_zeros, value_at-zeros_on, two_tuples-is}

pub zeros_on-none : (x : Attributes) → zeros_on 0 x ≡ []
unfolding zeros_on
zeros_on-none x = refl

pub zeros_on-more : (n : ℕ) (x : Attributes) → zeros_on (n + 1) x ≡ zeros_on n x ++ cond (x n) zero_text one_text ∷ []
unfolding zeros_on
zeros_on-more n x = map-range_with_len_more (λ (k : ℕ). cond (x k) zero_text one_text) 0 n n (omega arith)

-- zeros everywhere
pub zeros_on-all : (n : ℕ) (x : Attributes) → ((k : ℕ) → k < n → x k ≡ true) → zeros_on n x ≡ all_zeros n
zeros_on-all n x all = same_lists (zeros_on n x) (all_zeros n) (length-zeros_on n x ∙ sym (length-all_zeros n)) (λ (k : ℕ) (d : List ℕ) l.
    let low : k < n = omega (arith, length-zeros_on n x) in
    let lo : k < length (all_zeros n) = omega (arith, length-all_zeros n) in
    get_or_default (zeros_on n x) k d [] l ∙ value_at-zeros_on n x k low ∙ ap (λ (b : Bool). cond b zero_text one_text) (all k low)
    ∙ sym (get_or_default (all_zeros n) k d [] lo ∙ value_at-all_zeros n k low))
