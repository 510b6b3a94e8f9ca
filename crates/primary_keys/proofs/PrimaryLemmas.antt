-- The primary key: it is a key, it is the only one, and it has no attribute that may be missing exactly
-- where some key has none.
use Rattle.std.proofs.Common.{◌≡◌, ℕ, true, false, List, sym, ap, subst, ◌∙◌, inl, inr, arith}
use Rattle.std.specs.Prelude.{◌↔◌}
use Rattle.std.proofs.lemmas.Bool.{cases_Bool, cases_eq, true≢false}
use Rattle.std.proofs.lemmas.Bool.Decides.{nat_tests}
use Rattle.attr_sets.specs.Attributes.{Attributes, below, difference, IsSubset, Disjoint}
use Rattle.attr_sets.specs.declared.narrowing.Direction.TheVariants.{Descending}
use Rattle.attr_sets.specs.Narrowing.{left_beside, IsNarrowed}
use Rattle.attr_sets.proofs.AttributesLemmas.{same_from_within}
use Rattle.attr_sets.proofs.NarrowingLemmas.{narrowed_passes, narrowed_minimal, one_narrowed}
use Rattle.dep_model.specs.Dependencies.{Dependency}
use Rattle.dep_model.specs.Keys.{IsSuperkey, IsKey, IsGreedyKey}
use Rattle.dep_model.proofs.KeyLemmas.{superkey_more, scheme_superkey}
use Rattle.primary_keys.specs.PrimaryKeys.{IsPrimaryKey}

module _ (n : ℕ) (ds : List Dependency) (nullable scheme k : Attributes)
    (low : IsSubset scheme (below n)) (primary : IsPrimaryKey n ds nullable scheme k) where
  abbrev Passes : Attributes → Type 0
  Passes = IsSuperkey n ds scheme

  -- an attribute that is never missing is tried among the others
  other_one : (a : ℕ) → scheme a ≡ true → nullable a ≡ false → difference scheme nullable a ≡ true
  other_one a member never = grind (arith, member, never)

  pub primary_is_key : IsKey n ds scheme k
  primary_is_key = record {
    superkey = narrowed_passes Descending Passes (difference scheme nullable) primary.rest k primary.others_next n
        (λ (j : ℕ) m. low j (primary.nullable_first.within j m))
        (narrowed_passes Descending Passes nullable scheme primary.rest primary.nullable_first n low (scheme_superkey n ds scheme));
    minimal = λ j within superkey a member. elim (cases_Bool (nullable a)) [
      | inl missing ↦
          narrowed_minimal Descending Passes nullable scheme primary.rest primary.nullable_first (superkey_more n ds scheme) j
          (λ (i : ℕ) m. primary.others_next.within i (within i m)) superkey a
          (primary.others_next.within a member) missing
      | inr never ↦
          narrowed_minimal Descending Passes (difference scheme nullable) primary.rest k primary.others_next
          (λ (x y : Attributes) inside low_y. superkey_more n ds scheme x y inside (λ (i : ℕ) m. primary.nullable_first.within i (low_y i m))) j within superkey a member
          (other_one a (primary.nullable_first.within a (primary.others_next.within a member)) never)
    ];
  }

  -- a key of which no attribute may be missing holds each such attribute of the primary key back
  pub primary_never_missing : (key : Attributes) → IsKey n ds scheme key → Disjoint key nullable
      → Disjoint k nullable
  primary_never_missing key is_key never a member = elim (cases_Bool (nullable a)) [
    | inr there ↦ there
    | inl missing ↦
        let rest = primary.rest in
        let first = primary.nullable_first in
        let in_rest : rest a ≡ true = primary.others_next.within a member in
        let beside : IsSubset key (left_beside Descending scheme rest a) = λ (i : ℕ) m. elim (cases_eq i a) [
          | inl same ↦ absurd (true≢false (sym missing ∙ sym (ap nullable same) ∙ never i m))
          | inr other ↦
              let in_scheme = is_key.superkey.within.0 i m in
              grind (arith, nat_tests, other, in_scheme, first.stay i in_scheme (never i m))
        ] in
        let more = superkey_more n ds scheme key (left_beside Descending scheme rest a) beside
        (λ (i : ℕ) h. grind (arith, nat_tests, h, first.within i)) is_key.superkey in
        absurd (true≢false (sym in_rest ∙ (first.left_out a (first.within a in_rest) missing).1 more))
  ]

  pub primary_missing : Disjoint k nullable ↔ ((key : Attributes) × IsKey n ds scheme key × Disjoint key nullable)
  primary_missing = (
    (λ never. (k, primary_is_key, never)),
    (λ other. primary_never_missing other.0 other.1 other.2),
  )

  pub primary_greedy : Disjoint scheme nullable → IsGreedyKey n ds scheme k
  primary_greedy never = record {
    within = λ j m. primary.nullable_first.within j (primary.others_next.within j m);
    stay = λ a member not_tried. absurd (true≢false (sym member ∙ not_tried));
    left_out = λ a member _.
        subst (λ (x : Attributes). (k a ≡ false) ↔ IsSuperkey n ds scheme (left_beside Descending x k a)) whole
        (primary.others_next.left_out a (primary.nullable_first.stay a member (never a member))
        (other_one a member (never a member)));
  }
    where
      whole : primary.rest ≡ scheme
      whole = same_from_within primary.rest scheme primary.nullable_first.within
          (λ (a : ℕ) m. primary.nullable_first.stay a m (never a m))

pub one_primary_below : (bound n : ℕ) (ds : List Dependency) (nullable scheme one other : Attributes)
    → IsSubset scheme (below bound) → IsPrimaryKey n ds nullable scheme one
    → IsPrimaryKey n ds nullable scheme other → one ≡ other
one_primary_below bound n ds nullable scheme one other low first second =
    let Passes : Attributes → Type 0 = IsSuperkey n ds scheme in
    let others = difference scheme nullable in
    let rests : first.rest ≡ second.rest = one_narrowed Descending Passes nullable scheme first.rest second.rest
    first.nullable_first second.nullable_first bound low in
    one_narrowed Descending Passes others first.rest one other first.others_next
    (subst (λ (x : Attributes). IsNarrowed Descending Passes others x other) (sym rests) second.others_next)
    bound (λ (a : ℕ) m. low a (first.nullable_first.within a m))

pub one_primary : (n : ℕ) (ds : List Dependency) (nullable scheme one other : Attributes)
    → IsSubset scheme (below n) → IsPrimaryKey n ds nullable scheme one → IsPrimaryKey n ds nullable scheme other
    → one ≡ other
one_primary n ds nullable scheme one other low first second =
    one_primary_below n n ds nullable scheme one other low first second
