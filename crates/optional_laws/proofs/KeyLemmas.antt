-- A primary key comes first among the sets that determine its scheme; and the order of sets is strict.
use Rattle.std.proofs.Common.{◌≡◌, ◌<◌, ℕ, true, false, ◌&&◌, ◌⊎◌, List, refl, sym, subst, ap, ◌∙◌, inl, inr, arith}
use Rattle.std.proofs.lemmas.Bool.{and_from, and_parts, cases_Bool, cases_order, true≢false}
use Rattle.std.proofs.lemmas.Bool.Decides.{nat_tests}
use Rattle.attr_sets.specs.Attributes.{Attributes, below, difference, intersection, IsBefore, IsSubset}
use Rattle.attr_sets.specs.declared.narrowing.Direction.TheVariants.{Descending}
use Rattle.attr_sets.specs.Narrowing.{left_beside}
use Rattle.attr_sets.proofs.AttributesLemmas.{same_from_within}
use Rattle.attr_sets.proofs.OrderLemmas.{IsBefore-irrefl, IsBefore-trans, tell_before}
use Rattle.dep_model.specs.Dependencies.{Dependency}
use Rattle.dep_model.specs.Keys.{IsSuperkey}
use Rattle.dep_model.proofs.KeyLemmas.{superkey_more}
use Rattle.primary_keys.specs.PrimaryKeys.{IsPrimaryKey}
use Rattle.optional_laws.specs.KeyOrder.{IsLess}

-- ---- the order is strict
pub less_irrefl : (nullable x : Attributes) → IsLess nullable x x → ⊥
less_irrefl nullable x (inl missing) = IsBefore-irrefl (intersection x nullable) missing
less_irrefl nullable x (inr (same, before)) = IsBefore-irrefl x before

pub less_trans : (nullable x y z : Attributes) → IsLess nullable x y → IsLess nullable y z → IsLess nullable x z
less_trans nullable x y z (inl one) (inl other) =
    inl (IsBefore-trans (intersection x nullable) (intersection y nullable) (intersection z nullable) one other)
less_trans nullable x y z (inl one) (inr (same, before)) =
    inl (subst (λ (part : Attributes). IsBefore (intersection x nullable) part) same one)
less_trans nullable x y z (inr (same, before)) (inl other) =
    inl (subst (λ (part : Attributes). IsBefore part (intersection z nullable)) (sym same) other)
less_trans nullable x y z (inr (same, before)) (inr (also, later)) = inr (same ∙ also, IsBefore-trans x y z before later)

-- ---- a primary key comes first
module _ (n : ℕ) (ds : List Dependency) (nullable scheme key other : Attributes) (low : IsSubset scheme (below n))
    (primary : IsPrimaryKey n ds nullable scheme key) (superkey : IsSuperkey n ds scheme other) where
  -- the other set has no less that may be missing
  rest_first : IsBefore (intersection other nullable) (intersection primary.rest nullable) → ⊥
  rest_first (a, out, member, above) =
      let both = and_parts (primary.rest a) (nullable a) member in
      let lacks : other a ≡ false = grind (arith, out, both.1) in
      let beside : IsSubset other (left_beside Descending scheme primary.rest a) = λ (i : ℕ) m. elim (cases_order i a) [
        | inl same ↦ absurd (true≢false (sym m ∙ ap other same ∙ lacks))
        | inr (inl less) ↦
            let in_scheme = superkey.within.0 i m in
            grind (arith, nat_tests, less, in_scheme)
        | inr (inr more) ↦
            let stays : primary.rest i ≡ true = stays_above i more m (above i more) in
            grind (arith, nat_tests, more, stays)
      ] in
      let within : IsSubset (left_beside Descending scheme primary.rest a) scheme =
      λ (i : ℕ) h. grind (arith, nat_tests, h, primary.nullable_first.within i) in
      let passes = superkey_more n ds scheme other (left_beside Descending scheme primary.rest a) beside within superkey in
      true≢false (sym both.0
      ∙ (primary.nullable_first.left_out a (primary.nullable_first.within a both.0) both.1).1 passes)
    where
      stays_above : (i : ℕ) → a < i → other i ≡ true
          → intersection other nullable i ≡ intersection primary.rest nullable i → primary.rest i ≡ true
      stays_above i more m same = elim (cases_Bool (nullable i)) [
        | inl missing ↦
            let here : intersection primary.rest nullable i ≡ true =
            sym same ∙ and_from (other i) (nullable i) m missing in
            (and_parts (primary.rest i) (nullable i) here).0
        | inr never ↦ primary.nullable_first.stay i (superkey.within.0 i m) never
      ]

  -- the key has of these what is left
  same_missing : intersection key nullable ≡ intersection primary.rest nullable
  same_missing = same_from_within (intersection key nullable) (intersection primary.rest nullable)
      (λ (a : ℕ) m.
      let both = and_parts (key a) (nullable a) m in
      and_from (primary.rest a) (nullable a) (primary.others_next.within a both.0) both.1)
      (λ (a : ℕ) m.
      let both = and_parts (primary.rest a) (nullable a) m in
      let not_tried : difference scheme nullable a ≡ false = grind (arith, both.1) in
      and_from (key a) (nullable a) (primary.others_next.stay a both.0 not_tried) both.1)

  -- where the other set has as much that may be missing, it has no less of the rest
  others_first : intersection primary.rest nullable ≡ intersection other nullable → IsBefore other key → ⊥
  others_first same (a, lacks, member, above) = elim (cases_Bool (nullable a)) [
    | inl missing ↦
        let in_rest : intersection primary.rest nullable a ≡ true =
        and_from (primary.rest a) (nullable a) (primary.others_next.within a member) missing in
        let there : intersection other nullable a ≡ true = ap (λ (y : Attributes). y a) (sym same) ∙ in_rest in
        absurd (true≢false (sym (and_parts (other a) (nullable a) there).0 ∙ lacks))
    | inr never ↦
        let in_rest : primary.rest a ≡ true = primary.others_next.within a member in
        let in_scheme : scheme a ≡ true = primary.nullable_first.within a in_rest in
        let tried : difference scheme nullable a ≡ true = grind (arith, in_scheme, never) in
        let beside : IsSubset other (left_beside Descending primary.rest key a) = λ (i : ℕ) m. elim (cases_order i a) [
          | inl at ↦ absurd (true≢false (sym m ∙ ap other at ∙ lacks))
          | inr (inl less) ↦
              let there : primary.rest i ≡ true = in_the_rest i m in
              grind (arith, nat_tests, less, there)
          | inr (inr more) ↦
              let stays : key i ≡ true = sym (above i more) ∙ m in
              grind (arith, nat_tests, more, stays)
        ] in
        let within : IsSubset (left_beside Descending primary.rest key a) scheme =
        λ (i : ℕ) h. primary.nullable_first.within i (grind (arith, nat_tests, h, primary.others_next.within i)) in
        let passes = superkey_more n ds scheme other (left_beside Descending primary.rest key a) beside within superkey in
        absurd (true≢false (sym member ∙ (primary.others_next.left_out a in_rest tried).1 passes))
  ]
    where
      in_the_rest : (i : ℕ) → other i ≡ true → primary.rest i ≡ true
      in_the_rest i m = elim (cases_Bool (nullable i)) [
        | inl missing ↦
            let here : intersection primary.rest nullable i ≡ true =
            ap (λ (y : Attributes). y i) same ∙ and_from (other i) (nullable i) m missing in
            (and_parts (primary.rest i) (nullable i) here).0
        | inr never ↦ primary.nullable_first.stay i (superkey.within.0 i m) never
      ]

  pub first_key : (key ≡ other) ⊎ IsLess nullable key other
  first_key = elim (tell_before n (intersection primary.rest nullable) (intersection other nullable) low_rest low_other) [
    | inl same ↦ elim (tell_before n key other low_key (λ (a : ℕ) m. low a (superkey.within.0 a m))) [
      | inl is ↦ inl is
      | inr (inl before) ↦ inr (inr (same_missing ∙ same, before))
      | inr (inr after) ↦ absurd (others_first same after)
    ]
    | inr (inl before) ↦
        inr (inl (subst (λ (part : Attributes). IsBefore part (intersection other nullable)) (sym same_missing) before))
    | inr (inr after) ↦ absurd (rest_first after)
  ]
    where
      low_rest : IsSubset (intersection primary.rest nullable) (below n)
      low_rest a m = low a (primary.nullable_first.within a (and_parts (primary.rest a) (nullable a) m).0)

      low_other : IsSubset (intersection other nullable) (below n)
      low_other a m = low a (superkey.within.0 a (and_parts (other a) (nullable a) m).0)

      low_key : IsSubset key (below n)
      low_key a m = low a (primary.nullable_first.within a (primary.others_next.within a m))
