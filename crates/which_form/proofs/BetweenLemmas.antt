-- Keys between two sets: none of them, one of them, or those without an attribute and those with it.
use Rattle.std.proofs.Common.{◌≡◌, ℕ, ◌<◌, true, false, List, sym, ap, subst, ◌∙◌, inl, inr, arith}
use Rattle.std.proofs.lemmas.Bool.{true≢false, cases_Bool, cases_eq, or_cases}
use Rattle.std.proofs.lemmas.Bool.Decides.{nat_tests}
use Rattle.std.specs.Prelude.{◌↔◌}
use Rattle.attr_sets.specs.Attributes.{Attributes, below, only, union, difference, IsSubset, Disjoint, IsEmpty, count_below}
use Rattle.attr_sets.specs.declared.set.TheConstants.{MOST_ATTRIBUTES}
use Rattle.attr_sets.specs.Sets.{attributes}
use Rattle.attr_sets.proofs.AttributesLemmas.{same_at, same_from_within, count_below-lt}
use Rattle.dep_model.specs.Dependencies.{Dependency, fd}
use Rattle.dep_model.specs.Implication.{Implies}
use Rattle.dep_model.specs.Keys.{IsSuperkey, IsKey, InClosure}
use Rattle.dep_model.proofs.RuleLemmas.{fd_weaker_obeyed}
use Rattle.dep_model.proofs.KeyLemmas.{superkey_more, fd_on-to}
use Rattle.normal_forms.proofs.AddedLemmas.{closure_member}
use Rattle.which_form.specs.declared.found.Found.{Found}
use Rattle.which_form.specs.KeySearches.{HasAllOf, HasAllBetween, KeepsAll}
use Rattle.which_form.proofs.RangeLemmas.{irredundant}

module _ (n : ℕ) (ds : List Dependency) (scheme wanted least rest : Attributes) (found : Found) where
  -- there are none where the larger set is no superkey
  pub none_between : IsSubset least scheme → IsSubset rest scheme → (IsSuperkey n ds scheme (union least rest) → ⊥)
      → HasAllBetween n ds scheme wanted least (union least rest) found
  none_between least_in rest_in none k key _ inside =
      absurd (none (superkey_more n ds scheme k (union least rest) inside (λ j m. elim (or_cases (least j) (rest j) m) [
        | inl in_least ↦ least_in j in_least
        | inr in_rest ↦ rest_in j in_rest
      ]) key.superkey))

  -- or where nothing is between, and the smaller set is no superkey
  pub none_beyond : (IsSuperkey n ds scheme least → ⊥) → IsEmpty rest → HasAllBetween n ds scheme wanted least (union least rest) found
  none_beyond none empty k key holds inside =
      let back : IsSubset k least = λ j m. let there = inside j m in let nothing = empty j in grind (arith, there, nothing) in
      absurd (none (subst (λ (x : Attributes). IsSuperkey n ds scheme x) (same_from_within k least back holds) key.superkey))

  -- all of them is known where their attributes are, and nothing else is wanted
  pub all_known : IsEmpty wanted → IsSubset (union least rest) (attributes found.in_keys)
      → HasAllBetween n ds scheme wanted least (union least rest) found
  all_known empty known k key _ inside = record {
    members = λ a m. known a (inside a m);
    parts = λ x _ _ d. absurd (true≢false (sym d.1 ∙ empty d.0));
  }

  -- a superkey is the only one that holds it, if any
  pub one_above : IsSuperkey n ds scheme least → (IsKey n ds scheme least → HasAllOf n ds wanted found least)
      → (most : Attributes) → HasAllBetween n ds scheme wanted least most found
  one_above superkey all most k key holds _ =
      let same : k ≡ least = same_from_within k least (key.minimal least holds superkey) holds in
      subst (λ (x : Attributes). HasAllOf n ds wanted found x) (sym same) (all (subst (λ (x : Attributes). IsKey n ds scheme x) same key))

-- ---- without an attribute and with it
module _ (n : ℕ) (ds : List Dependency) (scheme wanted least rest fewer : Attributes) (a : ℕ) (fewer_is : fewer ≡ difference rest (only a)) where
  -- those without it
  pub without_one : (k : Attributes) → k a ≡ false → IsSubset k (union least rest) → IsSubset k (union least fewer)
  without_one k out inside j m = elim (cases_eq j a) [
    | inl same ↦ absurd (true≢false (sym m ∙ ap k same ∙ out))
    | inr other ↦ let there = inside j m in grind (arith, nat_tests, there, other, same_at fewer_is j)
  ]

  -- and with it
  pub with_one : (k : Attributes) → IsSubset k (union least rest) → IsSubset k (union (union least (only a)) fewer)
  with_one k inside j m = elim (cases_eq j a) [
    | inl same ↦ grind (arith, nat_tests, same)
    | inr other ↦ let there = inside j m in grind (arith, nat_tests, there, other, same_at fewer_is j)
  ]

  pub one_in : (k : Attributes) → k a ≡ true → IsSubset least k → IsSubset (union least (only a)) k
  one_in k member holds j m = elim (cases_eq j a) [
    | inl same ↦ ap k same ∙ member
    | inr other ↦ holds j (grind (arith, nat_tests, m, other))
  ]

  pub fewer_apart : Disjoint rest least → Disjoint fewer (union least (only a))
  fewer_apart apart j m =
      let there : difference rest (only a) j ≡ true = sym (same_at fewer_is j) ∙ m in
      let out = apart j (grind (arith, there)) in
      grind (arith, there, out)

  -- none of them has it where the smaller set determines it
  pub none_with : (closed : Attributes) → ((b : ℕ) → (closed b ≡ true) ↔ InClosure n ds least b) → closed a ≡ true → least a ≡ false
      → (k : Attributes) → IsKey n ds scheme k → IsSubset least k → k a ≡ true → ⊥
  none_with closed exact determined out k key holds member =
      irredundant n ds scheme k a key member (λ r legal. fd_weaker_obeyed least (only a) (difference k (only a)) (only a) r beside (λ j h. h) (((exact a).0 determined).1 r legal))
    where
      beside : IsSubset least (difference k (only a))
      beside j m = elim (cases_eq j a) [
        | inl same ↦ absurd (true≢false (sym m ∙ ap least same ∙ out))
        | inr other ↦ let there = holds j m in grind (arith, nat_tests, there, other)
      ]

  -- so all are found where those without it are, and then those with it
  pub all_without : (found : Found) → HasAllBetween n ds scheme wanted least (union least fewer) found
      → ((k : Attributes) → IsKey n ds scheme k → IsSubset least k → k a ≡ true → ⊥)
      → HasAllBetween n ds scheme wanted least (union least rest) found
  all_without found all none k key holds inside = elim (cases_Bool (k a)) [
    | inl member ↦ absurd (none k key holds member)
    | inr out ↦ all k key holds (without_one k out inside)
  ]

  pub all_both : (more : Attributes) (before found : Found) → more ≡ union least (only a)
      → HasAllBetween n ds scheme wanted least (union least fewer) before → KeepsAll n ds wanted before found
      → HasAllBetween n ds scheme wanted more (union more fewer) found
      → HasAllBetween n ds scheme wanted least (union least rest) found
  all_both more before found is first kept all k key holds inside = elim (cases_Bool (k a)) [
    | inl member ↦ all k key
        (λ j m. one_in k member holds j (sym (same_at is j) ∙ m))
        (λ j m. let there = with_one k inside j m in let at = same_at is j in grind (arith, there, at))
    | inr out ↦ kept k (first k key holds (without_one k out inside))
  ]

  -- fewer attributes are left
  pub fewer_left : rest a ≡ true → a < MOST_ATTRIBUTES → count_below fewer MOST_ATTRIBUTES < count_below rest MOST_ATTRIBUTES
  fewer_left member less =
      count_below-lt MOST_ATTRIBUTES fewer rest a (λ j m. grind (arith, m, same_at fewer_is j)) less (grind (arith, nat_tests, same_at fewer_is a)) member

-- ---- closures
-- a superkey is still one where the closure of a part stands in its place
pub by_closed : (n : ℕ) (ds : List Dependency) (scheme x rest closed : Attributes) → IsSubset x (below n)
    → ((b : ℕ) → (closed b ≡ true) ↔ InClosure n ds x b) → IsSuperkey n ds scheme (union x rest) → Implies n ds (fd (union closed rest) scheme)
by_closed n ds scheme x rest closed low exact superkey r legal =
    fd_weaker_obeyed (union x rest) scheme (union closed rest) scheme r
    (λ j m. elim (or_cases (x j) (rest j) m) [
      | inl in_x ↦ let there = (exact j).1 (closure_member n ds x j low in_x) in grind (arith, there)
      | inr in_rest ↦ grind (arith, in_rest)
    ])
    (λ j m. m) (fd_on-to n ds scheme (union x rest) scheme superkey r legal)
