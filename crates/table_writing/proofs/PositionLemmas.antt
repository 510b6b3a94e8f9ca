-- Destinations one after the other.
use Rattle.std.proofs.Common.{◌≡◌, ◌⊎◌, inl, inr, ℕ, ◌+◌, ◌<◌, ◌≤◌, arith, List, [], ◌∷◌, ◌++◌, length, get_or, set, sym, ap, ◌∙◌, subst}
use Rattle.std.proofs.lemmas.Bool.{cases_eq}
use Rattle.std.proofs.lemmas.List.{length-set, length_push, get_or-set_same, get_or-set_other, get_or_default, get_or_append_left, get_or_push}
use Rattle.table_writing.specs.Writing.{AtEachPosition}

-- the values before a position are done, with a result each, and the others are as they were
pub record HoldsSoFar {S U : Type 0} (P : S → S → U → Type 0) (i : ℕ) (olds xs : List S) (zs : List U) : Type 0 where
  pub count : length xs ≡ length olds
  pub results : length zs ≡ i
  pub done : (k : ℕ) → k < i → (x y : S) (z : U) → P (get_or olds k x) (get_or xs k y) (get_or zs k z)
  pub rest : (k : ℕ) → i ≤ k → k < length olds → (x : S) → get_or xs k x ≡ get_or olds k x

-- one value more is done
pub holds_more : {S U : Type 0} (P : S → S → U → Type 0) (i : ℕ) (olds xs : List S) (zs : List U) (old new : S)
    (result : U)
    → i < length xs → old ≡ get_or xs i old → HoldsSoFar P i olds xs zs → P old new result
    → HoldsSoFar P (i + 1) olds (set xs i new) (zs ++ result ∷ [])
holds_more {S} {U} P i olds xs zs old new result within is so_far here = record {
  count = length-set xs i new ∙ so_far.count;
  results = length_push zs result ∙ ap (λ (n : ℕ). n + 1) so_far.results;
  done = λ k less x y z. at k less x y z (cases_eq k i);
  rest =
      λ k more short x. get_or-set_other xs i k new x (λ e. omega (arith, e, more))
      ∙ so_far.rest k (omega (arith, more)) short x;
}
  where
    last : (x y : S) (z : U) → P (get_or olds i x) (get_or (set xs i new) i y) (get_or (zs ++ result ∷ []) i z)
    last x y z =
        let old_is : old ≡ get_or olds i x = is ∙ get_or_default xs i old x within
        ∙ so_far.rest i (omega arith) (omega (arith, within, so_far.count)) x in
        let new_is : new ≡ get_or (set xs i new) i y = sym (get_or-set_same xs i new y within) in
        let result_is : result ≡ get_or (zs ++ result ∷ []) i z = sym (get_or_push zs result z i so_far.results) in
        subst (λ (c : U). P (get_or olds i x) (get_or (set xs i new) i y) c) result_is
        (subst (λ (b : S). P (get_or olds i x) b result) new_is (subst (λ (a : S). P a new result) old_is here))

    before : (k : ℕ) → k < i → (k ≡ i → ⊥) → (x y : S) (z : U)
        → P (get_or olds k x) (get_or (set xs i new) k y) (get_or (zs ++ result ∷ []) k z)
    before k less other x y z =
        subst (λ (c : U). P (get_or olds k x) (get_or (set xs i new) k y) c)
        (sym (get_or_append_left zs (result ∷ []) z k (omega (arith, less, so_far.results))))
        (subst (λ (b : S). P (get_or olds k x) b (get_or zs k z)) (sym (get_or-set_other xs i k new y other))
        (so_far.done k less x y z))

    at : (k : ℕ) → k < i + 1 → (x y : S) (z : U) → (k ≡ i) ⊎ (k ≡ i → ⊥)
        → P (get_or olds k x) (get_or (set xs i new) k y) (get_or (zs ++ result ∷ []) k z)
    at k less x y z (inl e) =
        subst (λ (n : ℕ). P (get_or olds n x) (get_or (set xs i new) n y) (get_or (zs ++ result ∷ []) n z)) (sym e)
        (last x y z)
    at k less x y z (inr other) = before k (omega (arith, less, other)) other x y z

-- with the list of results that it makes
pub holds_next : {S U : Type 0} (P : S → S → U → Type 0) (i : ℕ) (olds xs : List S) (zs ws : List U) (d new : S)
    (result : U)
    → ws ≡ zs ++ result ∷ [] → i < length xs → HoldsSoFar P i olds xs zs → P (get_or xs i d) new result
    → HoldsSoFar P (i + 1) olds (set xs i new) ws
holds_next {S} {U} P i olds xs zs ws d new result made within so_far here =
    subst (λ (results : List U). HoldsSoFar P (i + 1) olds (set xs i new) results) (sym made)
    (holds_more P i olds xs zs (get_or xs i d) new result within
    (get_or_default xs i d (get_or xs i d) within) so_far here)

pub holds_all : {S U : Type 0} (P : S → S → U → Type 0) (i : ℕ) (olds xs : List S) (zs : List U) → i ≡ length xs
    → HoldsSoFar P i olds xs zs → AtEachPosition P olds xs zs
holds_all P i olds xs zs whole all = record {
  news = all.count;
  results = all.results ∙ whole ∙ all.count;
  each = λ k within x y z. all.done k (omega (arith, within, all.count, whole)) x y z;
}
