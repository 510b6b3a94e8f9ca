-- How the counts decide whether the rows obey a dependency.
use Rattle.std.proofs.Common.{◌≡◌, ◌*◌, ◌<◌, ◌≤◌, ◌^◌, ◌↔◌, ℕ, Bool, IsTrue, List, length, subst, sym, ap, ◌∙◌, zero, suc, inl, inr, ⊎_elim, pow-suc, refl, arith}
use Rattle.std.proofs.lemmas.Bool.{cases_eq}
use Rattle.attr_sets.specs.Attributes.{Attributes, IsSubset, below, difference, union}
use Rattle.attr_sets.specs.Sets.{attributes}
use Rattle.attr_sets.specs.declared.set.AttrSet.{AttrSet}
use Rattle.attr_sets.specs.declared.set.TheConstants.{MOST_ATTRIBUTES}
use Rattle.attr_sets.proofs.AttributesLemmas.{union_within}
use Rattle.row_groups.specs.Numberings.{number_at}
use Rattle.dep_model.specs.Dependencies.{ObeysFd, ObeysMvd}
use Rattle.dep_model.specs.Tuples.{Relation}
use Rattle.mvd_laws.specs.Sizes.{AreSizes}
use Rattle.mvd_laws.proofs.SizeLemmas.{fd_by_counts, mvd_by_counts}
use Rattle.mvd_discovery.specs.Counting.{AreCounts, has_place, sizes_at}
use Rattle.mvd_discovery.specs.declared.counts.Counts.{Counts}
use Rattle.mvd_discovery.proofs.NumberLemmas.{number_from_within}

pub more_sets : (n m : ℕ) → n ≤ m → 2 ^ n ≤ 2 ^ m
more_sets n zero few = subst (λ (k : ℕ). 2 ^ n ≤ 2 ^ k) (let same : n ≡ 0 = omega (arith, few) in same) (omega arith)
more_sets n (suc m) few = elim (cases_eq n (suc m)) [
  | inl same ↦ subst (λ (k : ℕ). 2 ^ n ≤ 2 ^ k) same (omega arith)
  | inr other ↦ let rest = more_sets n m (omega (arith, few, other)) in omega (arith, rest, pow-suc 2 m)
]

-- so few columns have few sets
pub few_sets : (n : ℕ) → n ≤ 10 → 2 ^ n < 2 ^ MOST_ATTRIBUTES
few_sets n few = let more = more_sets n 10 few in omega (arith, more)

-- what a test says of two lists, or of three, that are known
pub joined_equal : (b : Bool) (xs ys ls bs : List ℕ) (P : Type 0) → ls ≡ xs → bs ≡ ys
    → IsTrue b ↔ ((j : ℕ) → j < length ls → number_at ls j ≡ number_at bs j)
    → ((j : ℕ) → j < length xs → number_at xs j ≡ number_at ys j) ↔ P → IsTrue b ↔ P
joined_equal b xs ys ls bs P e f exact means =
    let moved = subst (λ (zs : List ℕ). IsTrue b ↔ ((j : ℕ) → j < length zs → number_at zs j ≡ number_at ys j)) e
    (subst (λ (zs : List ℕ). IsTrue b ↔ ((j : ℕ) → j < length ls → number_at ls j ≡ number_at zs j)) f exact) in
    ((λ t. means.0 (moved.0 t)), (λ p. moved.1 (means.1 p)))

pub joined_products : (b : Bool) (xs ys zs ls bs cs : List ℕ) (P : Type 0) → ls ≡ xs → bs ≡ ys → cs ≡ zs
    → IsTrue b ↔ ((j : ℕ) → j < length ls → number_at ls j ≡ number_at bs j * number_at cs j)
    → ((j : ℕ) → j < length xs → number_at xs j ≡ number_at ys j * number_at zs j) ↔ P → IsTrue b ↔ P
joined_products b xs ys zs ls bs cs P e f g exact means =
    let moved = subst (λ (us : List ℕ). IsTrue b ↔ ((j : ℕ) → j < length us → number_at us j ≡ number_at ys j * number_at zs j)) e
    (subst (λ (us : List ℕ). IsTrue b ↔ ((j : ℕ) → j < length ls → number_at ls j ≡ number_at us j * number_at zs j)) f
    (subst (λ (us : List ℕ). IsTrue b ↔ ((j : ℕ) → j < length ls → number_at ls j ≡ number_at bs j * number_at us j)) g exact)) in
    ((λ t. means.0 (moved.0 t)), (λ p. moved.1 (means.1 p)))

module _ (r : Relation) (counts : Counts) (are : AreCounts r counts) where
  n : ℕ
  n = counts.width

  pub low_number : (s : AttrSet) → s.0 < 2 ^ MOST_ATTRIBUTES → IsSubset (attributes s) (below counts.width) → s.0 < 2 ^ counts.width
  low_number s fits inside = number_from_within counts.width s (omega (arith, are.narrow)) fits (few_sets counts.width are.narrow) inside

  pub place : (s : AttrSet) → s.0 < 2 ^ MOST_ATTRIBUTES → IsSubset (attributes s) (below counts.width) → has_place counts s
  place s fits inside = subst (λ (m : ℕ). s.0 < m) (sym are.all) (low_number s fits inside)

  pub sizes_of : (s : AttrSet) (x : Attributes) → s.0 < 2 ^ MOST_ATTRIBUTES → attributes s ≡ x → IsSubset x (below counts.width)
      → AreSizes r are.ones x (sizes_at counts s.0)
  sizes_of s x fits is inside =
      subst (λ (z : Attributes). AreSizes r are.ones z (sizes_at counts s.0)) is
      (are.sizes s.0 (low_number s fits (subst (λ (z : Attributes). IsSubset z (below counts.width)) (sym is) inside)))

  pub same_length : (s t : AttrSet) (x y : Attributes) → s.0 < 2 ^ MOST_ATTRIBUTES → t.0 < 2 ^ MOST_ATTRIBUTES → attributes s ≡ x → attributes t ≡ y
      → IsSubset x (below counts.width) → IsSubset y (below counts.width) → length (sizes_at counts t.0) ≡ length (sizes_at counts s.0)
  same_length s t x y fits also is that x_in y_in = (sizes_of t y also that y_in).one_each ∙ sym (sizes_of s x fits is x_in).one_each

  pub counts_decide_fd : (x y : Attributes) (s t : AttrSet) → IsSubset x (below counts.width) → IsSubset y (below counts.width) → s.0 < 2 ^ MOST_ATTRIBUTES
      → t.0 < 2 ^ MOST_ATTRIBUTES → attributes s ≡ x → attributes t ≡ union x y
      → ((j : ℕ) → j < length (sizes_at counts s.0) → number_at (sizes_at counts s.0) j ≡ number_at (sizes_at counts t.0) j) ↔ ObeysFd x y r
  counts_decide_fd x y s t x_in y_in fits also is that =
      let by_x = sizes_of s x fits is x_in in
      let by_both = sizes_of t (union x y) also that (union_within counts.width x y x_in y_in) in
      let exact = fd_by_counts counts.width r are.ones are.different x y x_in y_in (sizes_at counts s.0) (sizes_at counts t.0) by_x by_both in (
        (λ equal. exact.0 (λ j low. equal j (subst (λ (m : ℕ). j < m) (sym by_x.one_each) low))),
        (λ obeys j low. exact.1 obeys j (subst (λ (m : ℕ). j < m) by_x.one_each low)),
      )

  pub counts_decide_mvd : (x y : Attributes) (s t u : AttrSet) → IsSubset x (below counts.width) → IsSubset y (below counts.width) → s.0 < 2 ^ MOST_ATTRIBUTES
      → t.0 < 2 ^ MOST_ATTRIBUTES → u.0 < 2 ^ MOST_ATTRIBUTES → attributes s ≡ x → attributes t ≡ union x y
      → attributes u ≡ union x (difference (below counts.width) (union x y))
      → ((j : ℕ) → j < length (sizes_at counts s.0)
      → number_at (sizes_at counts s.0) j ≡ number_at (sizes_at counts t.0) j * number_at (sizes_at counts u.0) j) ↔ ObeysMvd (below counts.width) x y r
  counts_decide_mvd x y s t u x_in y_in fits also too is that rests =
      let by_x = sizes_of s x fits is x_in in
      let by_both = sizes_of t (union x y) also that (union_within counts.width x y x_in y_in) in
      let by_rest = sizes_of u (union x (difference (below counts.width) (union x y))) too rests
      (union_within counts.width x (difference (below counts.width) (union x y)) x_in (λ k m. grind (arith, m))) in
      let exact = mvd_by_counts counts.width r are.ones are.different x y x_in y_in (sizes_at counts s.0) (sizes_at counts t.0) (sizes_at counts u.0) by_x by_both by_rest in (
        (λ products. exact.0 (λ j low. products j (subst (λ (m : ℕ). j < m) (sym by_x.one_each) low))),
        (λ obeys j low. exact.1 obeys j (subst (λ (m : ℕ). j < m) by_x.one_each low)),
      )
