-- The search for the keys of a scheme between two sets.
use Rattle.std.proofs.Common.{◌≡◌, ℕ, ◌<◌, ◌≤◌, true, false, List, length, take, sym, ◌∙◌, ap, ⊎_elim, arith}
use Rattle.std.proofs.lemmas.Bool.{cases_Bool, cases_eq, true≢false}
use Rattle.std.proofs.lemmas.Bool.Decides.{nat_tests}
use Rattle.std.proofs.lemmas.List.Elements.{All-contains}
use Rattle.std.specs.Prelude.{Contains}
use Rattle.attr_sets.specs.declared.set.AttrSet.{AttrSet}
use Rattle.attr_sets.specs.declared.set.TheConstants.{MOST_ATTRIBUTES}
use Rattle.attr_sets.specs.Attributes.{Attributes, only, union, difference, IsSubset, IsEmpty, count_below}
use Rattle.attr_sets.specs.Sets.{attributes}
use Rattle.attr_sets.proofs.AttributesLemmas.{same_from_within, count_below-lt, same_at}
use Rattle.dep_model.specs.Dependencies.{Dependency}
use Rattle.dep_model.specs.Keys.{IsSuperkey, IsKey}
use Rattle.dep_model.proofs.KeyLemmas.{superkey_more}
use Rattle.key_listing.specs.declared.refusal.TheConstants.{MOST_KEYS}
use Rattle.key_listing.specs.Listing.{AreSomeKeys}
use Rattle.key_listing.specs.Searching.{HasKeysBetween}
use Rattle.key_listing.proofs.ListLemmas.{Any-grows, grows_longer}

module _ (n : ℕ) (ds : List Dependency) (scheme least most : Attributes) (most_in : IsSubset most scheme) (found : List AttrSet) where
  -- there are more than are listed
  pub between_many : MOST_KEYS < length found → HasKeysBetween n ds scheme least most found
  between_many many within_limit = absurd (omega (arith, many, within_limit))

  -- the larger set is no superkey: no key lies within it
  pub between_none : (IsSuperkey n ds scheme most → ⊥) → HasKeysBetween n ds scheme least most found
  between_none none within_limit k key from to = absurd (none (superkey_more n ds scheme k most to most_in key.superkey))

  -- the smaller set has all of a found key: no other has that
  pub between_one : (j : AttrSet) → AreSomeKeys n ds scheme found → Contains found j → IsEmpty (difference (attributes j) least) → HasKeysBetween n ds scheme least most found
  between_one j not_empty member rest within_limit k key from to =
      let inside : IsSubset (attributes j) k = λ a m. ⊎_elim
      (λ (in_least : least a ≡ true). from a in_least)
      (λ (out : least a ≡ false). absurd (true≢false (sym (grind (arith, m, out)) ∙ rest a)))
      (cases_Bool (least a)) in
      let j_key : IsKey n ds scheme (attributes j) = All-contains (λ (i : AttrSet). IsKey n ds scheme (attributes i)) found j not_empty.each member in
      (member.0, j, member.1, member.2, same_from_within (attributes j) k inside (key.minimal (attributes j) inside j_key.superkey))

-- those without an attribute and those with it are all
pub between_both : (n : ℕ) (ds : List Dependency) (scheme least most without with_it : Attributes) (a : ℕ) (first found : List AttrSet) → without ≡ difference most (only a) → with_it ≡ union least (only a)
    → take (length first) found ≡ first → HasKeysBetween n ds scheme least without first → HasKeysBetween n ds scheme with_it most found → HasKeysBetween n ds scheme least most found
between_both n ds scheme least most without with_it a first found is_without is_with grows had_without had_with within_limit k key from to =
    ⊎_elim
    (λ (inside : k a ≡ true). had_with within_limit k key (holds inside) to)
    (λ (out : k a ≡ false).
    let longer : length first ≤ length found = grows_longer first found grows in
    Any-grows (λ (j : AttrSet). attributes j ≡ k) first found grows (had_without (omega (arith, longer, within_limit)) k key from (lacks out)))
    (cases_Bool (k a))
  where
    holds : k a ≡ true → IsSubset with_it k
    holds inside i m = ⊎_elim
        (λ (same : i ≡ a). ap k same ∙ inside)
        (λ (other : i ≡ a → ⊥). from i (grind (arith, nat_tests, same_at is_with i, m, other)))
        (cases_eq i a)

    lacks : k a ≡ false → IsSubset k without
    lacks out i m = ⊎_elim
        (λ (same : i ≡ a). absurd (true≢false (sym m ∙ ap k same ∙ out)))
        (λ (other : i ≡ a → ⊥). grind (arith, nat_tests, same_at is_without i, to i m, other))
        (cases_eq i a)

-- each of the two has fewer attributes to tell apart
pub fewer_without : (least most without : Attributes) (a : ℕ) → a < MOST_ATTRIBUTES → most a ≡ true → least a ≡ false → without ≡ difference most (only a) → count_below (difference without least) MOST_ATTRIBUTES < count_below (difference most least) MOST_ATTRIBUTES
fewer_without least most without a low member out is =
    count_below-lt MOST_ATTRIBUTES (difference without least) (difference most least) a (λ i m. grind (arith, same_at is i, m)) low (grind (arith, nat_tests, same_at is a)) (grind (arith, member, out))

pub fewer_with : (least most with_it : Attributes) (a : ℕ) → a < MOST_ATTRIBUTES → most a ≡ true → least a ≡ false → with_it ≡ union least (only a) → count_below (difference most with_it) MOST_ATTRIBUTES < count_below (difference most least) MOST_ATTRIBUTES
fewer_with least most with_it a low member out is =
    count_below-lt MOST_ATTRIBUTES (difference most with_it) (difference most least) a (λ i m. grind (arith, same_at is i, m)) low (grind (arith, nat_tests, same_at is a)) (grind (arith, member, out))
