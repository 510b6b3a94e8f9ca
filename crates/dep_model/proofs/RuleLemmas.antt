-- The rules of inference, each over every relation: Armstrong's for functional dependencies, and those
-- of Beeri, Fagin and Howard (1977) for multivalued and mixed ones. Where a rule speaks of the
-- universe, it is any scheme that holds the sets named.
use Rattle.std.proofs.Common.{◌≡◌, ℕ, true, refl, sym, ◌∙◌, inl, inr, arith}
use Rattle.std.proofs.lemmas.Bool.{or_cases, cases_Bool}
use Rattle.attr_sets.specs.Attributes.{Attributes, union, intersection, difference, IsSubset, Disjoint}
use Rattle.dep_model.specs.Tuples.{Relation, AgreeOn}
use Rattle.dep_model.specs.Dependencies.{ObeysFd, ObeysMvd}

-- ---- functional dependencies
-- y within x gives x -> y
pub reflexivity_obeyed : (x y : Attributes) (r : Relation) → IsSubset y x → ObeysFd x y r
reflexivity_obeyed x y r inside t u t_in u_in agree k m = agree k (inside k m)

-- x -> y gives xz -> yz
pub augmentation_obeyed : (x y z : Attributes) (r : Relation) → ObeysFd x y r → ObeysFd (union x z) (union y z) r
augmentation_obeyed x y z r obeys t u t_in u_in agree k m =
    elim (or_cases (y k) (z k) m) [
      | inl in_y ↦ obeys t u t_in u_in (λ (j : ℕ) (h : x j ≡ true). agree j (grind (arith, h))) k in_y
      | inr in_z ↦ agree k (grind (arith, in_z))
    ]

-- x -> y and y -> z give x -> z
pub transitivity_obeyed : (x y z : Attributes) (r : Relation) → ObeysFd x y r → ObeysFd y z r → ObeysFd x z r
transitivity_obeyed x y z r first second t u t_in u_in agree = second t u t_in u_in (first t u t_in u_in agree)

-- x -> y and x -> z give x -> yz
pub fd_union_obeyed : (x y z : Attributes) (r : Relation) → ObeysFd x y r → ObeysFd x z r → ObeysFd x (union y z) r
fd_union_obeyed x y z r first second t u t_in u_in agree k m =
    elim (or_cases (y k) (z k) m) [ inl in_y ↦ first t u t_in u_in agree k in_y | inr in_z ↦ second t u t_in u_in agree k in_z ]

-- x -> y gives v -> w for x within v and w within y
pub fd_weaker_obeyed : (x y v w : Attributes) (r : Relation) → IsSubset x v → IsSubset w y → ObeysFd x y r → ObeysFd v w r
fd_weaker_obeyed x y v w r x_in w_in obeys t u t_in u_in agree k m =
    obeys t u t_in u_in (λ (j : ℕ) (h : x j ≡ true). agree j (x_in j h)) k (w_in k m)

-- ---- multivalued dependencies
-- x ->> y gives x ->> the rest
pub complementation_obeyed : (scheme x y : Attributes) (r : Relation) → ObeysMvd scheme x y r → ObeysMvd scheme x (difference scheme (union x y)) r
complementation_obeyed scheme x y r obeys t u t_in u_in agree =
    let w = obeys u t u_in t_in (λ (k : ℕ) m. sym (agree k m)) in (
      w.0,
      w.1,
      (λ (k : ℕ) m. elim (or_cases (x k) (difference scheme (union x y) k) m) [
        | inl in_x ↦ w.2 k (grind (arith, in_x)) ∙ sym (agree k in_x)
        | inr in_rest ↦ w.3 k in_rest
      ]),
      (λ (k : ℕ) m. w.2 k (grind (arith, m))),
    )

-- y within x gives x ->> y
pub mreflexivity_obeyed : (scheme x y : Attributes) (r : Relation) → IsSubset y x → ObeysMvd scheme x y r
mreflexivity_obeyed scheme x y r inside t u t_in u_in agree =
    (u, u_in, (λ (k : ℕ) m. elim (or_cases (x k) (y k) m) [ inl in_x ↦ sym (agree k in_x) | inr in_y ↦ sym (agree k (inside k in_y)) ]), (λ (k : ℕ) m. refl))

-- x ->> y gives xw ->> yz for z within w
pub maugmentation_obeyed : (scheme x y w z : Attributes) (r : Relation) → IsSubset z w → IsSubset w scheme → ObeysMvd scheme x y r → ObeysMvd scheme (union x w) (union y z) r
maugmentation_obeyed scheme x y w z r inside within obeys t u t_in u_in agree =
    let v = obeys t u t_in u_in (λ (k : ℕ) (h : x k ≡ true). agree k (grind (arith, h))) in (
      v.0,
      v.1,
      (λ (k : ℕ) m. elim (cases_Bool (union x y k)) [
        | inl in_xy ↦ v.2 k in_xy
        | inr out ↦
            let in_w : w k ≡ true = grind (arith, m, out, inside k) in
            v.3 k (grind (arith, out, within k in_w)) ∙ sym (agree k (grind (arith, in_w)))
      ]),
      (λ (k : ℕ) m. v.3 k (grind (arith, m))),
    )

-- x -> y gives x ->> y
pub replication_obeyed : (scheme x y : Attributes) (r : Relation) → ObeysFd x y r → ObeysMvd scheme x y r
replication_obeyed scheme x y r obeys t u t_in u_in agree =
    (u, u_in, (λ (k : ℕ) m. elim (or_cases (x k) (y k) m) [ inl in_x ↦ sym (agree k in_x) | inr in_y ↦ sym (obeys t u t_in u_in agree k in_y) ]), (λ (k : ℕ) m. refl))

-- x ->> y and y ->> z give x ->> z - y
pub mtransitivity_obeyed : (scheme x y z : Attributes) (r : Relation) → IsSubset x scheme → IsSubset z scheme → ObeysMvd scheme x y r → ObeysMvd scheme y z r → ObeysMvd scheme x (difference z y) r
mtransitivity_obeyed scheme x y z r x_in z_in first second t u t_in u_in agree =
    let v = first u t u_in t_in (λ (k : ℕ) m. sym (agree k m)) in
    let w = second v.0 u v.1 u_in (λ (k : ℕ) m. v.2 k (grind (arith, m))) in (
      w.0,
      w.1,
      (λ (k : ℕ) m. elim (cases_Bool (x k)) [
        | inl in_x ↦ elim (cases_Bool (union y z k)) [
          | inl in_yz ↦ w.2 k in_yz ∙ v.2 k (grind (arith, in_x)) ∙ sym (agree k in_x)
          | inr out ↦ w.3 k (grind (arith, out, x_in k in_x)) ∙ sym (agree k in_x)
        ]
        | inr out ↦ w.2 k (grind (arith, m, out)) ∙ v.3 k (grind (arith, m, out, z_in k))
      ]),
      (λ (k : ℕ) m. elim (cases_Bool (y k)) [
        | inl in_y ↦ w.2 k (grind (arith, in_y)) ∙ v.2 k (grind (arith, in_y))
        | inr out ↦ w.3 k (grind (arith, m, out))
      ]),
    )

-- x ->> y and z -> w give x -> w for w within y and z apart from y
pub coalescence_obeyed : (scheme x y z w : Attributes) (r : Relation) → IsSubset z scheme → IsSubset w y → Disjoint z y → ObeysMvd scheme x y r → ObeysFd z w r → ObeysFd x w r
coalescence_obeyed scheme x y z w r z_in w_in apart obeys gives t u t_in u_in agree k m =
    let v = obeys t u t_in u_in agree in
    let on_z : AgreeOn z v.0 u = λ (j : ℕ) h. elim (cases_Bool (x j)) [
      | inl in_x ↦ v.2 j (grind (arith, in_x)) ∙ agree j in_x
      | inr out ↦ v.3 j (grind (arith, out, z_in j h, apart j h))
    ] in
    sym (v.2 k (grind (arith, w_in k m))) ∙ gives v.0 u v.1 u_in on_z k m

-- ---- what follows from several multivalued dependencies with one left side
-- x ->> y and x ->> z give x ->> yz
pub mvd_union_obeyed : (scheme x y z : Attributes) (r : Relation) → IsSubset y scheme → ObeysMvd scheme x y r → ObeysMvd scheme x z r → ObeysMvd scheme x (union y z) r
mvd_union_obeyed scheme x y z r y_in first second t u t_in u_in agree =
    let v = first t u t_in u_in agree in
    let w = second t v.0 t_in v.1 (λ (k : ℕ) m. sym (v.2 k (grind (arith, m)))) in (
      w.0,
      w.1,
      (λ (k : ℕ) m. elim (cases_Bool (union x z k)) [
        | inl in_xz ↦ w.2 k in_xz
        | inr out ↦
            let in_y : y k ≡ true = grind (arith, m, out) in
            w.3 k (grind (arith, out, y_in k in_y)) ∙ v.2 k (grind (arith, in_y))
      ]),
      (λ (k : ℕ) m. w.3 k (grind (arith, m)) ∙ v.3 k (grind (arith, m))),
    )

-- x ->> y and x ->> z give x ->> what y and z share
pub mvd_intersection_obeyed : (scheme x y z : Attributes) (r : Relation) → ObeysMvd scheme x y r → ObeysMvd scheme x z r → ObeysMvd scheme x (intersection y z) r
mvd_intersection_obeyed scheme x y z r first second t u t_in u_in agree =
    let v = first t u t_in u_in agree in
    let w = second v.0 u v.1 u_in (λ (k : ℕ) m. v.2 k (grind (arith, m)) ∙ agree k m) in (
      w.0,
      w.1,
      (λ (k : ℕ) m. w.2 k (grind (arith, m)) ∙ v.2 k (grind (arith, m))),
      (λ (k : ℕ) m. elim (cases_Bool (z k)) [
        | inl in_z ↦ w.2 k (grind (arith, in_z)) ∙ v.3 k (grind (arith, m, in_z))
        | inr out ↦ w.3 k (grind (arith, m, out))
      ]),
    )
