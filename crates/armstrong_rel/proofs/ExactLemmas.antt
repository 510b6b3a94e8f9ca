-- The relation of the irreducible closed sets obeys exactly what is implied; it is legal, and of either type.
use Rattle.std.proofs.Common.{◌≡◌, ℕ, ◌-◌, ◌^◌, ◌<◌, ◌≤◌, true, false, List, length, get_or, refl, sym, ap, ◌∙◌, inl, inr, ⊎_elim, arith}
use Rattle.std.specs.Prelude.{All}
use Rattle.std.proofs.lemmas.Bool.{true≢false, cases_eq, cases_Bool, ltb-true, lt-ltb}
use Rattle.std.proofs.lemmas.Fmt.{decimal_injective}
use Rattle.attr_sets.specs.Attributes.{Attributes, below, intersection, IsSubset}
use Rattle.attr_sets.proofs.AttributesLemmas.{tell_subset, same_at}
use Rattle.dep_model.specs.Theories.{Theory}
use Rattle.dep_model.specs.Theories.{width_of, theory_of, deps_of, LegalFor}
use Rattle.dep_model.specs.Tuples.{Tuple, Relation, value_at, AgreeOn, IsOver}
use Rattle.dep_model.specs.Dependencies.{Dependency, fd, ObeysFd, is_fd, functional_part, left_of, right_of, IsWithin}
use Rattle.dep_model.specs.Implication.{IsLegal, Implies}
use Rattle.dep_model.specs.TwoTuples.{all_zeros}
use Rattle.dep_model.proofs.DepLemmas.{dependencies_all-from}
use Rattle.dep_model.proofs.ListLemmas.{Contains-head}
use Rattle.dep_model.proofs.PreservationLemmas.{fd-obeys, fd-obeyed}
use Rattle.dep_model.proofs.TwoTupleLemmas.{value_at-all_zeros}
use Rattle.fd_closure.proofs.ClosureLemmas.{fd_each-to, fd_each-from}
use Rattle.fd_closure.proofs.ClosedSets.{all_functional}
use Rattle.armstrong_rel.specs.ClosedSets.{IsClosedSet, AreIrreducible}
use Rattle.armstrong_rel.specs.Exhibits.{numbered_tuple, numbered_from, tuples_for, IsArmstrong, IsExhibit}
use Rattle.armstrong_rel.proofs.ClosedLemmas.{HaveClosures, functional_closures, closure_more, closure_holds, closure_closed, universe_closed, intersection_closed, above_lacking}
use Rattle.armstrong_rel.proofs.TupleLemmas.{value_inside, value_outside, decimal_not_zero, set_of, set_of_zero, tuple_of_number, tuple_of_set, set_of_all, tuples_over}

-- ---- two tuples with different numbers agree on the intersection of their sets alone
agree_inside : (n i j : ℕ) (x y : Attributes) (k : ℕ) → i < 2 ^ 64 → j < 2 ^ 64 → (i ≡ j → ⊥) → (i ≡ 0 → x k ≡ true)
    → (j ≡ 0 → y k ≡ true) → k < n
    → value_at (numbered_tuple n i x) k ≡ value_at (numbered_tuple n j y) k → intersection x y k ≡ true
agree_inside n i j x y k i_wide j_wide differ i_first j_first low same = ⊎_elim
    (λ in_x. ⊎_elim
    (λ in_y. grind (arith, in_x, in_y))
    (λ out_y. absurd (decimal_not_zero j (not_empty j j_first out_y) j_wide
    (sym (value_outside n j y k low out_y) ∙ sym same ∙ value_inside n i x k low in_x)))
    (cases_Bool (y k)))
    (λ out_x. ⊎_elim
    (λ in_y. absurd (decimal_not_zero i (some_x out_x) i_wide
    (sym (value_outside n i x k low out_x) ∙ same ∙ value_inside n j y k low in_y)))
    (λ out_y. absurd (differ (decimal_injective i j i_wide j_wide
    (sym (value_outside n i x k low out_x) ∙ same ∙ value_outside n j y k low out_y))))
    (cases_Bool (y k)))
    (cases_Bool (x k))
  where
    not_empty : (j : ℕ) → (j ≡ 0 → y k ≡ true) → y k ≡ false → 0 < j
    not_empty j first outside = elim (cases_eq j 0)
        [ inl none ↦ absurd (true≢false (sym (first none) ∙ outside)) | inr more ↦ omega arith ]

    some_x : x k ≡ false → 0 < i
    some_x outside = elim (cases_eq i 0)
        [ inl none ↦ absurd (true≢false (sym (i_first none) ∙ outside)) | inr more ↦ omega arith ]

module _ (n : ℕ) (ds : List Dependency) (sets : List Attributes) (within_limit : length sets < 2 ^ 64 - 1)
    (are : AreIrreducible n ds sets) where
  closed_at : (j : ℕ) → j ≤ length sets → IsClosedSet n ds (set_of n sets j)
  closed_at j low = set_of_all n sets (IsClosedSet n ds) (universe_closed n ds) (λ i d l. (are.each i d l).closed) j low

  universe_first : (j k : ℕ) → k < n → j ≡ 0 → set_of n sets j k ≡ true
  universe_first j k low first = ap (λ (i : ℕ). set_of n sets i k) first
      ∙ ap (λ (x : Attributes). x k) (set_of_zero n sets) ∙ lt-ltb k n low

  -- what is implied is obeyed
  pub implied_obeyed : (x y : Attributes) → IsSubset x (below n) → IsSubset y (below n) → Implies n ds (fd x y)
      → ObeysFd x y (tuples_for n sets)
  implied_obeyed x y x_in y_in implied t u t_in u_in agree k member =
      let one = tuple_of_number n sets t t_in in
      let other = tuple_of_number n sets u u_in in
      let i = one.0 in
      let j = other.0 in
      let c = set_of n sets i in
      let d = set_of n sets j in
      let low : k < n = ltb-true k n (y_in k member) in
      elim (cases_eq i j) [
        | inl same ↦ ap (λ (v : Tuple). value_at v k)
            (one.2 ∙ ap (λ (m : ℕ). numbered_tuple n m (set_of n sets m)) same ∙ sym other.2)
        | inr differ ↦
            let inside : IsSubset x (intersection c d) = λ (a : ℕ) m.
            let a_low : a < n = ltb-true a n (x_in a m) in
            agree_inside n i j c d a (omega (arith, one.1, within_limit)) (omega (arith, other.1, within_limit)) differ
            (universe_first i a a_low) (universe_first j a a_low) a_low
            (ap (λ (v : Tuple). value_at v a) (sym one.2) ∙ agree a m ∙ ap (λ (v : Tuple). value_at v a) other.2) in
            let both : intersection c d k ≡ true =
            (intersection_closed n ds c d (closed_at i one.1) (closed_at j other.1)).closed k
            (closure_more n ds x (intersection c d) k inside (low, fd_each-to n ds x y implied k member)) in
            ap (λ (v : Tuple). value_at v k) one.2 ∙ value_inside n i c k low (grind (arith, both))
            ∙ sym (ap (λ (v : Tuple). value_at v k) other.2 ∙ value_inside n j d k low (grind (arith, both)))
      ]

  -- and what is obeyed is implied
  pub obeyed_implied : HaveClosures n ds → (x y : Attributes) → IsSubset x (below n) → IsSubset y (below n)
      → ObeysFd x y (tuples_for n sets) → Implies n ds (fd x y)
  obeyed_implied closures x y x_in y_in obeys =
      let found = closures x x_in in
      let c = found.0 in
      ⊎_elim
      (λ beyond.
      let k = beyond.0 in
      let above = above_lacking n ds closures c k (closure_closed n ds x c found.1) beyond.1 beyond.3 in
      let m = above.0 in
      let listed = are.all m above.1 in
      let s = listed.1 in
      let tuple = tuple_of_set n sets s (listed.0, listed.2, listed.3) in
      let t = numbered_tuple n tuple.0 s in
      let agree : AgreeOn x (all_zeros n) t = λ (a : ℕ) h.
      let a_low : a < n = ltb-true a n (x_in a h) in
      let a_in : s a ≡ true = same_at listed.4 a ∙ above.2 a (closure_holds n ds x c x_in found.1 a h) in
      value_at-all_zeros n a a_low ∙ sym (value_inside n tuple.0 s a a_low a_in) in
      let same = obeys (all_zeros n) t
      (Contains-head (all_zeros n) (numbered_from n 1 sets)) tuple.3 agree k beyond.2 in
      absurd (decimal_not_zero tuple.0 tuple.1 (omega (arith, tuple.2, within_limit))
      (sym (value_outside n tuple.0 s k beyond.1 (same_at listed.4 k ∙ above.3)) ∙ sym same ∙ value_at-all_zeros n k beyond.1)))
      (λ all. fd_each-from n ds x y (λ (a : ℕ) m. ((found.1 a).0 (all a m)).1))
      (tell_subset n y c y_in)

pub tuples_for_armstrong : (n : ℕ) (ds : List Dependency) (sets : List Attributes) → All (IsWithin (below n)) ds → functional_part ds
    ≡ ds → AreIrreducible n ds sets → length sets < 2 ^ 64 - 1
    → IsArmstrong n ds (tuples_for n sets)
tuples_for_armstrong n ds sets within same are within_limit x y x_in y_in = (
  obeyed_implied n ds sets within_limit are (functional_closures n ds within same) x y x_in y_in,
  implied_obeyed n ds sets within_limit are x y x_in y_in,
)

-- ---- so the relation is legal

pub armstrong_legal : (n : ℕ) (ds : List Dependency) (r : Relation) → All (IsWithin (below n)) ds → functional_part ds
    ≡ ds → IsOver n r → IsArmstrong n ds r → IsLegal n ds r
armstrong_legal n ds r within same over armstrong = record {
  over = over;
  obeys = λ k d l.
      let e : Dependency = get_or ds k d in
      let is : is_fd e ≡ true = all_functional ds same k d l in
      let inside = within k d l in
      fd-obeys n e r is ((armstrong (left_of e) (right_of e) inside.0 inside.1).1
      (λ s legal. fd-obeyed n e s is (legal.obeys k d l)));
}

-- ---- what is proved of a schema of functional dependencies
pub record IsLegalExhibit (s : Theory) (r : Relation) : Type 0 where
  pub exhibit : IsExhibit (width_of s) (theory_of s) r
  pub armstrong : IsArmstrong (width_of s) (theory_of s) r
  pub legal : LegalFor s r

pub tuples_for_exhibit : (s : Theory) (sets : List Attributes) → functional_part (theory_of s) ≡ theory_of s
    → AreIrreducible (width_of s) (theory_of s) sets → length sets < 2 ^ 63 → IsLegalExhibit s (tuples_for (width_of s) sets)
tuples_for_exhibit s sets same are within_limit =
    let within = dependencies_all-from (IsWithin (below (width_of s))) (deps_of s) s.valid.deps_within in
    let armstrong = tuples_for_armstrong (width_of s) (theory_of s) sets within same are (omega (arith, within_limit)) in
    record {
      exhibit = record { sets = sets; irreducible = are; tuples = refl };
      armstrong = armstrong;
      legal = armstrong_legal (width_of s) (theory_of s) (tuples_for (width_of s) sets) within same
          (tuples_over (width_of s) sets) armstrong;
    }
