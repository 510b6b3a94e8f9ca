-- The blocks of a set in one relation: what a set multidetermines there is closed under difference, so that each such
-- part comes from blocks by union.
use Rattle.std.proofs.Common.{◌≡◌, ◌+◌, ◌<◌, ◌≤◌, ◌⊎◌, ℕ, zero, suc, true, false, refl, sym, ap, subst, ◌∙◌, inl, inr, ⊎_elim, arith}
use mathlib.Core.Path.{fun_ext}
use Rattle.std.proofs.lemmas.Bool.{cases_Bool, true≢false}
use Rattle.attr_sets.specs.Attributes.{Attributes, below, count_below, difference, intersection, union, IsEmpty, IsSubset, Disjoint}
use Rattle.attr_sets.proofs.AttributesLemmas.{count_below-lt, count_below-pos, tell_apart, tell_empty, tell_subset}
use Rattle.dep_model.specs.Tuples.{Tuple, Relation, AgreeOn}
use Rattle.dep_model.specs.Dependencies.{ObeysMvd}
use Rattle.dep_model.proofs.RuleLemmas.{complementation_obeyed, mvd_intersection_obeyed}
use Rattle.std.specs.Prelude.{Contains}
use Rattle.mvd_laws.specs.Reduced.{IsPartOfRows, IsBlockOfRows}
use Rattle.mvd_laws.proofs.DecideLemmas.{IsDecidable, decide_both, decide_mvd, decide_not, find_set}

-- ---- what a relation obeys of the right sides of one set
-- only both sides together count
pub mvd_same : (scheme x y z : Attributes) (r : Relation) → union x y ≡ union x z → ObeysMvd scheme x y r → ObeysMvd scheme x z r
mvd_same scheme x y z r same obeys =
    subst (λ (w : Attributes). (t u : Tuple) → Contains r t → Contains r u → AgreeOn x t u
    → (v : Tuple) × Contains r v × AgreeOn w v t × AgreeOn (difference scheme w) v u) same obeys

pub mvd_difference : (n : ℕ) (x y z : Attributes) (r : Relation) → IsSubset y (below n) → Disjoint y x → ObeysMvd (below n) x y r
    → ObeysMvd (below n) x z r → ObeysMvd (below n) x (difference y z) r
mvd_difference n x y z r y_in apart first second =
    subst (λ (w : Attributes). ObeysMvd (below n) x w r) (fun_ext (λ k. same k (y_in k) (apart k)))
    (mvd_intersection_obeyed (below n) x y (difference (below n) (union x z)) r first (complementation_obeyed (below n) x z r second))
  where
    same : (k : ℕ) → (y k ≡ true → below n k ≡ true) → (y k ≡ true → x k ≡ false)
        → intersection y (difference (below n) (union x z)) k ≡ difference y z k
    same k low out = elim (cases_Bool (y k)) [
      | inl member ↦ grind (arith, member, low member, out member)
      | inr lacks ↦ grind (arith, lacks)
    ]

-- ---- parts
pub part_difference : (n : ℕ) (r : Relation) (x y z : Attributes) → IsPartOfRows n r x y → ObeysMvd (below n) x z r
    → (IsSubset y z → ⊥) → IsPartOfRows n r x (difference y z)
part_difference n r x y z part other some = record {
  within = λ k m. part.within k (grind (arith, m));
  outside = λ k m. part.outside k (grind (arith, m));
  not_empty = λ empty. some (λ k m. ⊎_elim (λ (h : z k ≡ true). h) (λ (h : z k ≡ false). absurd (gone k m h (empty k))) (cases_Bool (z k)));
  obeyed = mvd_difference n x y z r part.within part.outside part.obeyed other;
}
  where
    gone : (k : ℕ) → y k ≡ true → z k ≡ false → difference y z k ≡ false → ⊥
    gone k m h e = true≢false (grind (arith, m, h, e))

decide_part : (n : ℕ) (r : Relation) (x z : Attributes) → IsSubset x (below n) → IsSubset z (below n) → IsDecidable (IsPartOfRows n r x z)
decide_part n r x z x_in z_in = ⊎_elim
    (λ meet. inr (λ part. true≢false (sym meet.2 ∙ part.outside meet.0 meet.1)))
    (λ apart. ⊎_elim
    (λ some. ⊎_elim
    (λ obeys. inl (record { within = z_in; outside = apart; not_empty = λ empty. true≢false (sym some.2 ∙ empty some.0); obeyed = obeys }))
    (λ not. inr (λ part. not part.obeyed))
    (decide_mvd n x z r x_in z_in))
    (λ empty. inr (λ part. part.not_empty empty))
    (tell_empty n z z_in))
    (tell_apart n z x z_in)

-- a smaller part within a part
pub record HasSmaller (n : ℕ) (r : Relation) (x y : Attributes) : Type 0 where
  pub smaller : Attributes
  pub part : IsPartOfRows n r x smaller
  pub inside : IsSubset smaller y
  pub proper : IsSubset y smaller → ⊥

block_or_smaller : (n : ℕ) (r : Relation) (x y : Attributes) → IsSubset x (below n) → IsPartOfRows n r x y
    → IsBlockOfRows n r x y ⊎ HasSmaller n r x y
block_or_smaller n r x y x_in part = ⊎_elim
    (λ found. inr (record { smaller = found.0; part = found.2.0; inside = found.2.1.0; proper = found.2.1.1 }))
    (λ none. inl (record {
      part = part;
      minimal = λ z is inside. ⊎_elim
          (λ out. absurd (none z is.within (is, (inside, λ all. true≢false (sym (all out.0 out.2) ∙ out.3)))))
          (λ all. all)
          (tell_subset n y z part.within);
    }))
    (find_set n (λ (z : Attributes). IsPartOfRows n r x z × (IsSubset z y × (IsSubset y z → ⊥)))
    (λ z z_in. decide_both (decide_part n r x z x_in z_in) (decide_both (decide_within z y z_in) (decide_not (decide_within y z part.within)))))
  where
    decide_within : (v w : Attributes) → IsSubset v (below n) → IsDecidable (IsSubset v w)
    decide_within v w v_in = ⊎_elim
        (λ out. inr (λ all. true≢false (sym (all out.0 out.2) ∙ out.3))) (λ all. inl all) (tell_subset n v w v_in)

-- what holds of each block, and of the union of two sets of which it holds, holds of each part
pub each_part : (n : ℕ) (r : Relation) (x : Attributes) (P : Attributes → Type 0) → IsSubset x (below n)
    → ((y : Attributes) → IsBlockOfRows n r x y → P y)
    → ((y z : Attributes) → IsSubset y (below n) → P y → P z → P (union y z))
    → (m : ℕ) (y : Attributes) → count_below y n < m → IsPartOfRows n r x y → P y
each_part n r x P x_in block join zero y less part = absurd (omega (arith, less))
each_part n r x P x_in block join (suc m) y less part = ⊎_elim
    (λ is. block y is)
    (λ (has : HasSmaller n r x y).
    let z : Attributes = has.smaller in
    let some = ⊎_elim (λ found. found) (λ all. absurd (has.proper all)) (tell_subset n y z part.within) in
    let member = ⊎_elim (λ found. found) (λ empty. absurd (has.part.not_empty empty)) (tell_empty n z has.part.within) in
    let rest_is = part_difference n r x y z part has.part.obeyed has.proper in
    let first : count_below z n < count_below y n = count_below-lt n z y some.0 has.inside some.1 some.3 some.2 in
    let second : count_below (difference y z) n < count_below y n =
    count_below-lt n (difference y z) y member.0 (λ k h. grind (arith, h)) member.1 (grind (arith, member.2)) (has.inside member.0 member.2) in
    subst P (fun_ext (λ k. whole k y z (has.inside k)))
    (join z (difference y z) has.part.within
    (each_part n r x P x_in block join m z (omega (arith, less, first)) has.part)
    (each_part n r x P x_in block join m (difference y z) (omega (arith, less, second)) rest_is)))
    (block_or_smaller n r x y x_in part)
  where
    whole : (k : ℕ) (y z : Attributes) → (z k ≡ true → y k ≡ true) → union z (difference y z) k ≡ y k
    whole k y z inside = elim (cases_Bool (z k)) [
      | inl member ↦ grind (arith, member, inside member)
      | inr lacks ↦ grind (arith, lacks)
    ]

-- two blocks with a common attribute are one
pub one_block : (n : ℕ) (r : Relation) (x y z : Attributes) (k : ℕ) → IsBlockOfRows n r x y → IsBlockOfRows n r x z
    → y k ≡ true → z k ≡ true → IsSubset y z
one_block n r x y z k first second in_y in_z =
    let both : IsPartOfRows n r x (intersection y z) = record {
      within = λ j m. first.part.within j (grind (arith, m));
      outside = λ j m. first.part.outside j (grind (arith, m));
      not_empty = λ empty. true≢false (sym (shared in_y in_z) ∙ empty k);
      obeyed = mvd_intersection_obeyed (below n) x y z r first.part.obeyed second.part.obeyed;
    } in
    let all = first.minimal (intersection y z) both (λ j m. grind (arith, m)) in
    λ j m. right j (all j m)
  where
    shared : y k ≡ true → z k ≡ true → intersection y z k ≡ true
    shared h g = grind (arith, h, g)

    right : (j : ℕ) → intersection y z j ≡ true → z j ≡ true
    right j h = grind (arith, h)
