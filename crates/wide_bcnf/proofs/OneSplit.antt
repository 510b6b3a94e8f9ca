-- A scheme has one core, and one wide split.
use Rattle.std.proofs.Common.{◌≡◌, ℕ, ◌+◌, ◌-◌, ◌<◌, ◌≤◌, zero, suc, List, [], ◌∷◌, sym, subst, ap, ◌∙◌, ◌⊎◌, inl, inr, ⊎_elim, arith}
use Rattle.std.proofs.lemmas.Bool.{cases_lt}
use Rattle.attr_sets.specs.Attributes.{Attributes, only, difference}
use Rattle.dep_model.specs.Dependencies.{Dependency}
use Rattle.wide_bcnf.specs.Pairs.{IsPair, HasPair, IsFirstPair}
use Rattle.wide_bcnf.specs.WideSplits.{ShrinksBy, ShrinksTo, IsCore, IsWideSplitOf}

module _ (n : ℕ) (ds : List Dependency) where
  -- ---- one step has one result
  first_same : (scheme : Attributes) (a b c d : ℕ) → IsFirstPair n ds scheme a b → IsFirstPair n ds scheme c d → (a ≡ c)
      × (b ≡ d)
  first_same scheme a b c d one other =
      let there = one.least_first c d other.pair in
      let back = other.least_first a b one.pair in
      let same : a ≡ c = omega arith in
      let near = one.least_second d (subst (λ (i : ℕ). IsPair n ds scheme i d) (sym same) other.pair) in
      let far = other.least_second b (subst (λ (i : ℕ). IsPair n ds scheme i b) same one.pair) in
      (same, omega arith)

  left_same : (p q r : Attributes) (a c : ℕ) → ShrinksBy n ds p q a → ShrinksBy n ds p r c → (q ≡ r) × (a ≡ c)
  left_same p q r a c one other =
      let same = first_same p a one.second c other.second one.pair other.pair in (
        one.rest ∙ ap (λ (i : ℕ). difference p (only i)) same.1
            ∙ sym other.rest,
        same.0,
      )

  -- ---- as many steps have one result
  shrunk_same : (steps : ℕ) (scheme q r : Attributes) → ShrinksTo n ds steps scheme q → ShrinksTo n ds steps scheme r → q
      ≡ r
  shrunk_same zero scheme q r one other = one ∙ sym other
  shrunk_same (suc steps) scheme q r one other =
      let before = shrunk_same steps scheme one.0 other.0 one.1 other.1 in
      (left_same other.0 q r one.2.0 other.2.0
      (subst (λ (p : Attributes). ShrinksBy n ds p q one.2.0) before one.2.1) other.2.1).0

  -- what shrinks has a pair
  shrinks_by_pair : (steps : ℕ) (scheme q : Attributes) → ShrinksTo n ds (suc steps) scheme q → HasPair n ds scheme
  shrinks_by_pair zero scheme q shrinks =
      let out = shrinks.2.1 in
      let a = shrinks.2.0 in (
        a,
        out.second,
        subst (λ (p : Attributes). IsPair n ds p a out.second)
            shrinks.1 out.pair.pair,
      )
  shrinks_by_pair (suc steps) scheme q shrinks = shrinks_by_pair steps scheme shrinks.0 shrinks.1

  -- more steps go on where fewer ended
  shrinks_on : (fewer more : ℕ) (scheme q r : Attributes) → ShrinksTo n ds fewer scheme q
      → ShrinksTo n ds (fewer + more) scheme r → ShrinksTo n ds more q r
  shrinks_on fewer zero scheme q r one other =
      let same : fewer + 0 ≡ fewer = omega arith in
      let path = shrunk_same fewer scheme r q (subst (λ (k : ℕ). ShrinksTo n ds k scheme r) same other) one in
      path
  shrinks_on fewer (suc more) scheme q r one other =
      let next : fewer + suc more ≡ suc (fewer + more) = omega arith in
      let step : ShrinksTo n ds (suc (fewer + more)) scheme r = subst
      (λ (k : ℕ). ShrinksTo n ds k scheme r) next other in
      (step.0, shrinks_on fewer more scheme q step.0 one step.1, step.2)

  -- ---- so there is one core
  -- one of two cores took no more steps
  core_ordered : (scheme q r : Attributes) (a c : ℕ) (one : IsCore n ds scheme q a) (other : IsCore n ds scheme r c)
      → (more : ℕ) → one.steps + more ≡ other.steps → (q ≡ r) × (a ≡ c)
  core_ordered scheme q r a c one other zero same =
      let steps : other.steps ≡ one.steps = omega (arith, same) in
      let before = shrunk_same one.steps scheme one.before other.before one.shrinks
      (subst (λ (k : ℕ). ShrinksTo n ds k scheme other.before) steps other.shrinks) in
      left_same other.before q r a c (subst (λ (p : Attributes). ShrinksBy n ds p q a) before one.last) other.last
  core_ordered scheme q r a c one other (suc more) same =
      let whole : ShrinksTo n ds (suc one.steps) scheme q = (one.before, one.shrinks, (a, one.last)) in
      let steps : other.steps ≡ suc one.steps + more = omega (arith, same) in
      let past : ShrinksTo n ds (suc one.steps + more) scheme other.before = subst
      (λ (k : ℕ). ShrinksTo n ds k scheme other.before) steps other.shrinks in
      let on : ShrinksTo n ds more q other.before = shrinks_on (suc one.steps) more scheme q other.before whole past in
      absurd (one.ends (shrinks_by_pair more q r (other.before, on, (c, other.last))))

  core_same : (scheme q r : Attributes) (a c : ℕ) → IsCore n ds scheme q a → IsCore n ds scheme r c → (q ≡ r) × (a ≡ c)
  core_same scheme q r a c one other = ⊎_elim
      (λ fewer. core_ordered scheme q r a c one other fewer.0 fewer.1)
      (λ more. let same = core_ordered scheme r q c a other one more.0 more.1 in (sym same.0, sym same.1))
      (tell_order one.steps other.steps)
    where
      tell_order : (i j : ℕ) → ((k : ℕ) × (i + k ≡ j)) ⊎ ((k : ℕ) × (j + k ≡ i))
      tell_order i j = ⊎_elim
          (λ (lt : i < j). inl (j - i, omega arith))
          (λ (ge : j ≤ i). inr (i - j, omega arith))
          (cases_lt i j)

  -- a scheme with a core has a pair
  core_by_pair : (scheme q : Attributes) (a : ℕ) → IsCore n ds scheme q a → HasPair n ds scheme
  core_by_pair scheme q a core = shrinks_by_pair core.steps scheme q (core.before, core.shrinks, (a, core.last))

  -- ---- and one wide split
  pub one_split : (scheme : Attributes) (xs ys : List Attributes) → IsWideSplitOf n ds scheme xs → IsWideSplitOf n ds scheme ys
      → xs ≡ ys
  one_split scheme [] ys one other = absurd one
  one_split scheme (q ∷ xs) [] one other = absurd other
  one_split scheme (q ∷ xs) (r ∷ ys) one other = ⊎_elim
      (λ alone. ⊎_elim
      (λ both.
      ap (λ (x : Attributes). x ∷ xs) (alone.1 ∙ sym both.1)
      ∙ ap (λ (zs : List Attributes). r ∷ zs) (alone.2 ∙ sym both.2))
      (λ cut. absurd (alone.0 (core_by_pair scheme r cut.0 cut.1)))
      other)
      (λ cut. ⊎_elim
      (λ alone. absurd (alone.0 (core_by_pair scheme q cut.0 cut.1)))
      (λ both.
      let same = core_same scheme q r cut.0 both.0 cut.1 both.1 in
      let left : IsWideSplitOf n ds (difference scheme (only cut.0)) ys = subst
      (λ (i : ℕ). IsWideSplitOf n ds (difference scheme (only i)) ys) (sym same.1) both.2 in
      ap (λ (x : Attributes). x ∷ xs) same.0
      ∙ ap (λ (zs : List Attributes). r ∷ zs) (one_split (difference scheme (only cut.0)) xs ys cut.2 left))
      other)
      one
