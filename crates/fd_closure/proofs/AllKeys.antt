-- When a list of keys holds every key (Lucchesi and Osborn 1978).
use Rattle.std.proofs.Common.{◌≡◌, ℕ, ◌+◌, ◌<◌, ◌≤◌, ◌⊎◌, zero, suc, true, false, List, [], ◌∷◌, sym, ap, ◌∙◌, inl, inr, ⊎_elim, arith}
use Rattle.std.proofs.lemmas.Bool.{true≢false, cases_eq, or_cases}
use Rattle.std.proofs.lemmas.Bool.Decides.{nat_tests}
use Rattle.std.proofs.lemmas.List.Elements.{All-head, All-tail, All-contains}
use Rattle.std.specs.Prelude.{All, Any, Contains}
use Rattle.attr_sets.specs.Attributes.{Attributes, below, only, union, difference, IsSubset, count_below}
use Rattle.attr_sets.proofs.AttributesLemmas.{tell_subset, same_from_within, count_below-le, count_below-lt}
use Rattle.dep_model.specs.Dependencies.{Dependency, functional_part, left_of, right_of, IsWithin}
use Rattle.dep_model.specs.Keys.{IsSuperkey, IsKey}
use Rattle.dep_model.proofs.ListLemmas.{Contains-head, Contains-later, Contains-cases, Any-from}
use Rattle.dep_model.proofs.KeyLemmas.{superkey_more, fd_on-to}
use Rattle.fd_closure.specs.KeyLists.{HoldsOne, IsExchanged}
use Rattle.fd_closure.proofs.ClosedSets.{lead_attribute, lead_from_superkey}

-- a set holds a set of the list, or none
pub tell_holds : (n : ℕ) (keys : List Attributes) (x : Attributes) → All (λ key. IsSubset key (below n)) keys → HoldsOne keys x ⊎ (HoldsOne keys x → ⊥)
tell_holds n [] x low = inr (λ h. absurd (omega (arith, h.2)))
tell_holds n (first ∷ keys) x low =
    ⊎_elim
    (λ out. ⊎_elim
    (λ found. inl (Any-from (λ (key : Attributes). IsSubset key x) (first ∷ keys) found.1 (Contains-later first keys found.1 (found.0, found.2, found.3)) found.4))
    (λ none. inr (λ h. ⊎_elim
    (λ (is_first : h.1 ≡ first). true≢false (sym (h.4 out.0 (ap (λ (key : Attributes). key out.0) is_first ∙ out.2)) ∙ out.3))
    (λ later. none (Any-from (λ (key : Attributes). IsSubset key x) keys h.1 later h.4))
    (Contains-cases first keys h.1 (h.0, h.2, h.3))))
    (tell_holds n keys x (All-tail (λ (key : Attributes). IsSubset key (below n)) first keys low)))
    (λ inside. inl (Any-from (λ (key : Attributes). IsSubset key x) (first ∷ keys) first (Contains-head first keys) inside))
    (tell_subset n first x (All-head (λ (key : Attributes). IsSubset key (below n)) first keys low))

module _ (n : ℕ) (ds : List Dependency) (keys : List Attributes) (within : All (IsWithin (below n)) ds) (same : functional_part ds ≡ ds)
    (one : Attributes) (one_in : Contains keys one) (are_keys : All (IsKey n ds (below n)) keys) (exchanged : IsExchanged ds keys) where
  keys_low : All (λ key. IsSubset key (below n)) keys
  keys_low k d l = (are_keys k d l).superkey.within.0

  -- a superkey without a key of the list stays without one where an attribute is added to which a dependency leads out
  still_none : (x : Attributes) (d : Dependency) (a : ℕ) → (HoldsOne keys x → ⊥) → Contains ds d → IsSubset (left_of d) x → right_of d a ≡ true → HoldsOne keys (union x (only a)) → ⊥
  still_none x d a none given inside member holds =
      let key = holds.1 in
      let swapped = All-contains (λ (e : Dependency). All (λ (k : Attributes). HoldsOne keys (union (left_of e) (difference k (right_of e)))) keys) ds d exchanged given in
      let other = All-contains (λ (k : Attributes). HoldsOne keys (union (left_of d) (difference k (right_of d)))) keys key swapped (holds.0, holds.2, holds.3) in
      none (
        other.0,
        other.1,
        other.2,
        other.3,
        λ j m. elim (cases_eq j a) [
          | inl at_a ↦ inside_or j (other.4 j m) (λ in_key not_right. absurd (true≢false (sym (ap (right_of d) at_a ∙ member) ∙ not_right)))
          | inr beside ↦ inside_or j (other.4 j m) (λ in_key not_right. beside_a j beside (holds.4 j in_key))
        ],
      )
    where
      beside_a : (j : ℕ) → (j ≡ a → ⊥) → union x (only a) j ≡ true → x j ≡ true
      beside_a j beside m = grind (arith, nat_tests, m, beside)

      inside_or : (j : ℕ) → union (left_of d) (difference holds.1 (right_of d)) j ≡ true → (holds.1 j ≡ true → right_of d j ≡ false → x j ≡ true) → x j ≡ true
      inside_or j m rest = elim (or_cases (left_of d j) (difference holds.1 (right_of d) j) m) [
        | inl left ↦ inside j left
        | inr right ↦ rest (grind (arith, right)) (grind (arith, right))
      ]

  -- some attribute can be added
  one_more : (x : Attributes) → IsSuperkey n ds (below n) x → (HoldsOne keys x → ⊥) → (a : ℕ) × (a < n) × (x a ≡ false) × (HoldsOne keys (union x (only a)) → ⊥)
  one_more x superkey none =
      ⊎_elim
      (λ out.
      let lead = lead_from_superkey n ds x out.0 within same superkey.within.0 (fd_on-to n ds (below n) x (below n) superkey) out.1 out.3 in
      let attribute = lead_attribute n x lead.0 (All-contains (IsWithin (below n)) ds lead.0 within lead.1) lead.2 in
      (attribute.0, attribute.1, attribute.3, still_none x lead.0 attribute.0 none lead.1 lead.2.inside attribute.2))
      (λ all. absurd (none (Any-from (λ (key : Attributes). IsSubset key x) keys one one_in (λ (j : ℕ) m. all j (All-contains (λ (key : Attributes). IsSubset key (below n)) keys one keys_low one_in j m)))))
      (tell_subset n (below n) x (λ (j : ℕ) m. m))

  fewer : (x : Attributes) (a : ℕ) → a < n → x a ≡ false → count_below x n < count_below (union x (only a)) n
  fewer x a low out = count_below-lt n x (union x (only a)) a (λ (j : ℕ) m. grind (arith, m)) low out (grind (arith, nat_tests))

  -- so there is no superkey without a key of the list
  none_without : (left : ℕ) (x : Attributes) → n ≤ count_below x n + left → IsSuperkey n ds (below n) x → (HoldsOne keys x → ⊥) → ⊥
  none_without zero x most superkey none =
      let more = one_more x superkey none in
      omega (arith, fewer x more.0 more.1 more.2, count_below-le n (union x (only more.0)))
  none_without (suc left) x most superkey none =
      let more = one_more x superkey none in
      none_without left (union x (only more.0)) (omega (arith, fewer x more.0 more.1 more.2))
      (superkey_more n ds (below n) x (union x (only more.0)) (λ (j : ℕ) m. grind (arith, m))
      (λ (j : ℕ) m. elim (or_cases (x j) (only more.0 j) m) [
        | inl in_x ↦ superkey.within.0 j in_x
        | inr at ↦ grind (arith, nat_tests, at, more.1)
      ]) superkey)
      more.3

  pub all_keys : (key : Attributes) → IsKey n ds (below n) key → Any (λ (k : Attributes). k ≡ key) keys
  all_keys key is_key =
      ⊎_elim
      (λ holds.
      let member = All-contains (IsKey n ds (below n)) keys holds.1 are_keys (holds.0, holds.2, holds.3) in
      (holds.0, holds.1, holds.2, holds.3, same_from_within holds.1 key holds.4 (is_key.minimal holds.1 holds.4 member.superkey)))
      (λ none. absurd (none_without n key (omega arith) is_key.superkey none))
      (tell_holds n keys key keys_low)
