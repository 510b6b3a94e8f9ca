-- What two tuples that agree exactly on a set obey.
use Rattle.std.proofs.Common.{◌≡◌, ℕ, ◌<◌, zero, suc, ◌⊎◌, [], ◌∷◌, refl, sym, inl, inr, ⊎_elim, arith, ◌∙◌}
use Rattle.std.specs.Prelude.{Contains, slice_index_or}
use Rattle.std.proofs.lemmas.Bool.Decides.{nat_tests}
use Rattle.std.proofs.lemmas.Bool.{or_cases}
use Rattle.attr_sets.specs.Attributes.{Attributes, below, union, difference, IsSubset}
use Rattle.dep_model.specs.Tuples.{Tuple, Relation, AgreeOn, AgreeExactly}
use Rattle.dep_model.specs.Dependencies.{ObeysFd, ObeysMvd}

-- ---- membership in a relation of two tuples
pub Contains-two_first : (t u : Tuple) → Contains (t ∷ u ∷ []) t
Contains-two_first t u = (0, omega arith, refl)

pub Contains-two_second : (t u : Tuple) → Contains (t ∷ u ∷ []) u
Contains-two_second t u = (1, omega arith, refl)

Contains-two_cases_at : (t u v : Tuple) (k : ℕ) → k < 2 → slice_index_or (t ∷ u ∷ []) k v ≡ v → (v ≡ t) ⊎ (v ≡ u)
Contains-two_cases_at t u v zero l e = inl (sym e)
Contains-two_cases_at t u v (suc zero) l e = inr (sym e)
Contains-two_cases_at t u v (suc (suc k)) l e = absurd (omega arith)

pub Contains-two_cases : (t u v : Tuple) → Contains (t ∷ u ∷ []) v → (v ≡ t) ⊎ (v ≡ u)
Contains-two_cases t u v h = Contains-two_cases_at t u v h.0 h.1 h.2

-- ---- agreement
pub AgreeOn-refl : (x : Attributes) (t : Tuple) → AgreeOn x t t
AgreeOn-refl x t k m = refl

pub AgreeOn-sym : (x : Attributes) (t u : Tuple) → AgreeOn x t u → AgreeOn x u t
AgreeOn-sym x t u h k m = sym (h k m)

-- two that agree on each of two sets agree on both
pub AgreeOn-union : (x y : Attributes) (t u : Tuple) → AgreeOn x t u → AgreeOn y t u → AgreeOn (union x y) t u
AgreeOn-union x y t u on_x on_y k m = elim (or_cases (x k) (y k) m) [ inl in_x ↦ on_x k in_x | inr in_y ↦ on_y k in_y ]

pub AgreeOn-within : (x y : Attributes) (t u : Tuple) → IsSubset x y → AgreeOn y t u → AgreeOn x t u
AgreeOn-within x y t u inside on_y k m = on_y k (inside k m)

pub AgreeOn-trans : (x : Attributes) (t u v : Tuple) → AgreeOn x t u → AgreeOn x u v → AgreeOn x t v
AgreeOn-trans x t u v first second k m = first k m ∙ second k m

-- the two agree on a set within the one on which they agree exactly
pub agree-from : (n : ℕ) (a x : Attributes) (t u : Tuple) → AgreeExactly n a t u → IsSubset x (below n) → IsSubset x a → AgreeOn x t u
agree-from n a x t u e inside within k m =
    let low : k < n = grind (arith, nat_tests, inside k m) in (e.equal k low).0 (within k m)

-- and on no other
pub agree-to : (n : ℕ) (a x : Attributes) (t u : Tuple) → AgreeExactly n a t u → IsSubset x (below n) → AgreeOn x t u → IsSubset x a
agree-to n a x t u e inside agree k m =
    let low : k < n = grind (arith, nat_tests, inside k m) in (e.equal k low).1 (agree k m)

-- ---- x -> y
pub fd_two-to : (n : ℕ) (a x y : Attributes) (t u : Tuple) → AgreeExactly n a t u → IsSubset x (below n) → IsSubset y (below n)
    → ObeysFd x y (t ∷ u ∷ []) → IsSubset x a → IsSubset y a
fd_two-to n a x y t u e x_in y_in obeys x_a =
    agree-to n a y t u e y_in (obeys t u (Contains-two_first t u) (Contains-two_second t u) (agree-from n a x t u e x_in x_a))

pub fd_two-from : (n : ℕ) (a x y : Attributes) (t u : Tuple) → AgreeExactly n a t u → IsSubset x (below n) → IsSubset y (below n)
    → (IsSubset x a → IsSubset y a) → ObeysFd x y (t ∷ u ∷ [])
fd_two-from n a x y t u e x_in y_in gives v w v_in w_in agree =
    elim (Contains-two_cases t u v v_in) [
      | inl vt ↦ elim (Contains-two_cases t u w w_in) [
        | inl wt ↦ rw (vt, wt) (AgreeOn-refl y t)
        | inr wu ↦ rw (vt, wu) (agree-from n a y t u e y_in (gives (agree-to n a x t u e x_in (rw (← vt, ← wu) agree))))
      ]
      | inr vu ↦ elim (Contains-two_cases t u w w_in) [
        | inl wt ↦ rw (vu, wt) (AgreeOn-sym y t u (agree-from n a y t u e y_in (gives (agree-to n a x t u e x_in (AgreeOn-sym x u t (rw (← vu, ← wt) agree))))))
        | inr wu ↦ rw (vu, wu) (AgreeOn-refl y u)
      ]
    ]

-- ---- x ->> y
pub mvd_two-to : (n : ℕ) (a x y : Attributes) (t u : Tuple) → AgreeExactly n a t u → IsSubset x (below n) → IsSubset y (below n)
    → ObeysMvd (below n) x y (t ∷ u ∷ []) → IsSubset x a → IsSubset y a ⊎ IsSubset (difference (below n) (union x y)) a
mvd_two-to n a x y t u e x_in y_in obeys x_a =
    let w = obeys t u (Contains-two_first t u) (Contains-two_second t u) (agree-from n a x t u e x_in x_a) in
    elim (Contains-two_cases t u w.0 w.1) [
      | inl vt ↦ inr (agree-to n a (difference (below n) (union x y)) t u e (λ (k : ℕ) m. grind (arith, nat_tests, m)) (rw (← vt) w.3))
      | inr vu ↦ inl (agree-to n a y t u e y_in (λ (k : ℕ) m. sym (let both : AgreeOn (union x y) u t = rw (← vu) w.2 in both k (grind (arith, m)))))
    ]

mvd_agree : (n : ℕ) (a x y : Attributes) (t u : Tuple) → AgreeExactly n a t u → IsSubset x (below n) → IsSubset y (below n)
    → (IsSubset x a → IsSubset y a ⊎ IsSubset (difference (below n) (union x y)) a) → AgreeOn x t u
    → AgreeOn y t u ⊎ AgreeOn (difference (below n) (union x y)) t u
mvd_agree n a x y t u e x_in y_in gives agree =
    elim (gives (agree-to n a x t u e x_in agree)) [
      | inl on_y ↦ inl (agree-from n a y t u e y_in on_y)
      | inr on_rest ↦ inr (agree-from n a (difference (below n) (union x y)) t u e (λ (k : ℕ) m. grind (arith, nat_tests, m)) on_rest)
    ]

-- which of two tuples is found for them: the second where they agree on y, the first where they agree on the rest
mvd_found : (scheme x y : Attributes) (r : Relation) (v w : Tuple) → Contains r v → Contains r w → AgreeOn x v w
    → AgreeOn y v w ⊎ AgreeOn (difference scheme (union x y)) v w
    → (s : Tuple) × Contains r s × AgreeOn (union x y) s v × AgreeOn (difference scheme (union x y)) s w
mvd_found scheme x y r v w v_in w_in on_x (inl on_y) =
    (w, w_in, AgreeOn-sym (union x y) v w (AgreeOn-union x y v w on_x on_y), AgreeOn-refl (difference scheme (union x y)) w)
mvd_found scheme x y r v w v_in w_in on_x (inr on_rest) = (v, v_in, AgreeOn-refl (union x y) v, on_rest)

pub mvd_two-from : (n : ℕ) (a x y : Attributes) (t u : Tuple) → AgreeExactly n a t u → IsSubset x (below n) → IsSubset y (below n)
    → (IsSubset x a → IsSubset y a ⊎ IsSubset (difference (below n) (union x y)) a) → ObeysMvd (below n) x y (t ∷ u ∷ [])
mvd_two-from n a x y t u e x_in y_in gives v w v_in w_in agree =
    mvd_found (below n) x y (t ∷ u ∷ []) v w v_in w_in agree (elim (Contains-two_cases t u v v_in) [
      | inl vt ↦ elim (Contains-two_cases t u w w_in) [
        | inl wt ↦ inl (rw (vt, wt) (AgreeOn-refl y t))
        | inr wu ↦ rw (vt, wu) (mvd_agree n a x y t u e x_in y_in gives (rw (← vt, ← wu) agree))
      ]
      | inr vu ↦ elim (Contains-two_cases t u w w_in) [
        | inl wt ↦ rw (vu, wt) (⊎_elim (λ h. inl (AgreeOn-sym y t u h)) (λ h. inr (AgreeOn-sym (difference (below n) (union x y)) t u h)) (mvd_agree n a x y t u e x_in y_in gives (AgreeOn-sym x u t (rw (← vu, ← wt) agree))))
        | inr wu ↦ inl (rw (vu, wu) (AgreeOn-refl y u))
      ]
    ])

pub AgreeOn-left : (x y : Attributes) (t u : Tuple) → AgreeOn (union x y) t u → AgreeOn x t u
AgreeOn-left x y t u both k m = both k (grind (arith, m))

pub AgreeOn-right : (x y : Attributes) (t u : Tuple) → AgreeOn (union x y) t u → AgreeOn y t u
AgreeOn-right x y t u both k m = both k (grind (arith, m))
