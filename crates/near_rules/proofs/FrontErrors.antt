-- Of the first rows no more must go than of all: so what is not near among them is not near.
use Rattle.std.proofs.Common.{◌≡◌, ◌≤◌, ◌+◌, ◌-◌, ℕ, zero, suc, true, false, [], length, take, sym, ap, subst, ⊎_elim, ◌∙◌, arith}
use Rattle.std.proofs.lemmas.List.{get_or-take, length-take-le}
use Rattle.std.proofs.lemmas.Bool.{cases_Bool}
use Rattle.std.specs.Prelude.{Contains}
use Rattle.attr_sets.specs.Attributes.{Attributes, count_below}
use Rattle.dep_model.specs.Dependencies.{ObeysFd, fd}
use Rattle.dep_model.specs.Tuples.{Tuple, Relation}
use Rattle.removal_laws.specs.Errors.{IsError}
use Rattle.removal_laws.specs.Removals.{Positions, rows_at}
use Rattle.removal_laws.proofs.StayingLemmas.{count_staying, stands, stay}
use Rattle.row_store.specs.Rows.{row_at}

-- so many positions more hold at most so many members more
count_grows : (x : Attributes) (k more : ℕ) → count_below x (more + k) ≤ count_below x k + more
unfolding count_below
count_grows x k zero =
    let none : k ≡ 0 + k = omega arith in
    subst (λ (n : ℕ). count_below x n ≤ count_below x k + 0) none (omega arith)
count_grows x k (suc more) =
    let before = count_grows x k more in
    let next : suc (more + k) ≡ suc more + k = omega arith in
    subst (λ (n : ℕ). count_below x n ≤ count_below x k + suc more) next
    (⊎_elim
    (λ (has : x (more + k) ≡ true). rw has (omega (arith, before)))
    (λ (lacks : x (more + k) ≡ false). rw lacks (omega (arith, before)))
    (cases_Bool (x (more + k))))

-- the rows that stay of the first ones stay
still_stay : (stays : Positions) (r : Relation) (m : ℕ) → m ≤ length r → (t : Tuple)
    → Contains (rows_at stays (take m r)) t → Contains (rows_at stays r) t
still_stay stays r m low t h =
    let (k, k_in, passes, is) = stands stays (take m r) t h in
    let size : length (take m r) ≡ m = length-take-le m r low in
    let at : row_at r k ≡ t = sym (get_or-take m r k [] (omega (arith, k_in, size))) ∙ is in
    subst (Contains (rows_at stays r)) at (stay stays r k (omega (arith, k_in, size, low)) passes)

pub error_of_front : (n : ℕ) (r : Relation) (m : ℕ) (x y : Attributes) (e f : ℕ) → m ≤ length r → IsError n r (fd x y) e
    → IsError n (take m r) (fd x y) f → f ≤ e
error_of_front n r m x y e f low whole front =
    let obeys : ObeysFd x y (rows_at whole.stays (take m r)) =
    λ t u t_in u_in agree. whole.least.obeys t u (still_stay whole.stays r m low t t_in) (still_stay whole.stays r m low u u_in) agree in
    let size : length (take m r) ≡ m = length-take-le m r low in
    let many : length r - m + m ≡ length r = omega (arith, low) in
    let rest : count_below whole.stays (length r) ≤ count_below whole.stays m + (length r - m) =
    subst (λ (k : ℕ). count_below whole.stays k ≤ count_below whole.stays m + (length r - m)) many
    (count_grows whole.stays m (length r - m)) in
    let first : length (rows_at whole.stays (take m r)) ≡ count_below whole.stays m =
    count_staying whole.stays (take m r) ∙ ap (count_below whole.stays) size in
    omega (
      arith,
      low,
      size,
      rest,
      first,
      count_staying whole.stays r,
      whole.others,
      front.others,
      front.least.most whole.stays obeys,
    )
