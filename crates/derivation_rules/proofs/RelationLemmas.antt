-- The further rules on relations that have not been proved below: pseudotransitivity of both kinds, and
-- the difference.
use Rattle.std.proofs.Common.{◌≡◌, ℕ, true, sym, ◌∙◌, inl, inr, arith}
use Rattle.std.proofs.lemmas.Bool.{cases_Bool}
use Rattle.attr_sets.specs.Attributes.{Attributes, union, difference, IsSubset}
use Rattle.dep_model.specs.Tuples.{Relation, AgreeOn}
use Rattle.dep_model.specs.Dependencies.{ObeysFd, ObeysMvd}

-- x -> y and v -> z give x with v - y, -> z for y within v
pub pseudotransitivity_obeyed : (x y v z : Attributes) (r : Relation) → ObeysFd x y r → ObeysFd v z r
    → ObeysFd (union x (difference v y)) z r
pseudotransitivity_obeyed x y v z r first second t u t_in u_in agree =
    second t u t_in u_in (λ (k : ℕ) (m : v k ≡ true). elim (cases_Bool (y k)) [
      | inl in_y ↦ first t u t_in u_in (λ (j : ℕ) (h : x j ≡ true). agree j (grind (arith, h))) k in_y
      | inr out ↦ agree k (grind (arith, m, out))
    ])

-- x ->> y and x ->> z give x ->> y - z
pub mvd_difference_obeyed : (scheme x y z : Attributes) (r : Relation) → IsSubset y scheme
    → ObeysMvd scheme x y r → ObeysMvd scheme x z r → ObeysMvd scheme x (difference y z) r
mvd_difference_obeyed scheme x y z r y_in first second t u t_in u_in agree =
    let v = first t u t_in u_in agree in
    let w = second u v.0 u_in v.1 (λ (k : ℕ) m. sym (v.2 k (grind (arith, m)) ∙ agree k m)) in (
      w.0,
      w.1,
      (λ (k : ℕ) m. elim (cases_Bool (x k)) [
        | inl in_x ↦ w.2 k (grind (arith, in_x)) ∙ sym (agree k in_x)
        | inr out ↦
            let in_y : y k ≡ true = grind (arith, m, out) in
            w.3 k (grind (arith, m, out, y_in k in_y)) ∙ v.2 k (grind (arith, in_y))
      ]),
      (λ (k : ℕ) m. elim (cases_Bool (z k)) [
        | inl in_z ↦ w.2 k (grind (arith, in_z))
        | inr out ↦ w.3 k (grind (arith, m, out)) ∙ v.3 k (grind (arith, m, out))
      ]),
    )

-- x ->> y and v ->> z give x with v - y, ->> z - v for y within v
pub mpseudotransitivity_obeyed : (scheme x y v z : Attributes) (r : Relation) → IsSubset x scheme
    → IsSubset v scheme → IsSubset z scheme → IsSubset y v → ObeysMvd scheme x y r → ObeysMvd scheme v z r
    → ObeysMvd scheme (union x (difference v y)) (difference z v) r
mpseudotransitivity_obeyed scheme x y v z r x_in v_in z_in y_in first second t u t_in u_in agree =
    let a = first u t u_in t_in (λ (k : ℕ) m. sym (agree k (grind (arith, m)))) in
    let on_v : AgreeOn v a.0 u = λ (k : ℕ) m. elim (cases_Bool (union x y k)) [
      | inl in_xy ↦ a.2 k in_xy
      | inr out ↦ a.3 k (grind (arith, out, v_in k m)) ∙ agree k (grind (arith, m, out))
    ] in
    let on_left : AgreeOn (union x (difference v y)) a.0 u = λ (k : ℕ) m. elim (cases_Bool (x k)) [
      | inl in_x ↦ a.2 k (grind (arith, in_x))
      | inr out ↦ on_v k (grind (arith, m, out))
    ] in
    let w = second a.0 u a.1 u_in on_v in (
      w.0,
      w.1,
      (λ (k : ℕ) m. elim (cases_Bool (union x (difference v y) k)) [
        | inl left ↦ elim (cases_Bool (union v z k)) [
          | inl in_vz ↦ w.2 k in_vz ∙ on_left k left ∙ sym (agree k left)
          | inr out ↦ w.3 k (grind (arith, out, left, x_in k, v_in k)) ∙ sym (agree k left)
        ]
        | inr out ↦
            w.2 k (grind (arith, m, out)) ∙ a.3 k (grind (arith, m, out, z_in k, y_in k))
      ]),
      (λ (k : ℕ) m. elim (cases_Bool (v k)) [
        | inl in_v ↦ w.2 k (grind (arith, in_v)) ∙ on_v k in_v
        | inr out ↦ w.3 k (grind (arith, m, out))
      ]),
    )
