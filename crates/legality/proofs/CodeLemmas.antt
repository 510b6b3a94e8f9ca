-- Rows by the numbers of their values: two agree on a set exactly where they have the same numbers on it.
use Rattle.std.proofs.Common.{◌≡◌, ◌+◌, ◌<◌, ◌^◌, ℕ, length, Option, Some, sym, subst, arith}
use Rattle.std.proofs.lemmas.Bool.{eqb-true, ltb-true}
use Rattle.attr_sets.specs.Attributes.{Attributes, IsSubset, below}
use Rattle.dep_model.specs.Tuples.{Relation, AgreeOn, value_at}
use Rattle.dep_model.specs.Dependencies.{Dependency}
use Rattle.row_groups.specs.Interning.{IsInterned}
use Rattle.row_groups.specs.declared.interning.Interned.{Interned}
use Rattle.row_store.specs.Rows.{row_at}
use Rattle.legality.specs.Answers.{HaveSameCodes, IsLeastOffence}
use Rattle.legality.specs.declared.pair.Pair.{Pair}

-- rows of a width that is computed
pub interned_as : (r : Relation) (codes : Interned) (n w : ℕ) → w ≡ n → IsInterned n r codes → IsInterned w r codes
interned_as r codes n w same is = subst (λ (m : ℕ). IsInterned m r codes) (sym same) is

pub interned_for : (r : Relation) (codes : Interned) (n w : ℕ) → w ≡ n → IsInterned w r codes → IsInterned n r codes
interned_for r codes n w same is = subst (λ (m : ℕ). IsInterned m r codes) same is

module _ (n : ℕ) (r : Relation) (codes : Interned) (is : IsInterned n r codes) (x : Attributes) (within : IsSubset x (below n))
    (i j : ℕ) (i_in : i < length r) (j_in : j < length r) where
  pub codes_agree : HaveSameCodes codes x i j → AgreeOn x (row_at r i) (row_at r j)
  codes_agree same = λ k has. ((is.codes k (ltb-true k n (within k has))).equal i j i_in j_in).0 (same k has) k (grind arith)

  pub agree_codes : AgreeOn x (row_at r i) (row_at r j) → HaveSameCodes codes x i j
  agree_codes agree = λ k has. ((is.codes k (ltb-true k n (within k has))).equal i j i_in j_in).1
      (λ m at. subst (λ (p : ℕ). value_at (row_at r i) p ≡ value_at (row_at r j) p) (sym (eqb-true m k at)) (agree k has))

-- the rows of a least pair are among all rows
pub pair_in : (n : ℕ) (r : Relation) (codes : Interned) (d : Dependency) (least : Option Pair) (p : Pair) → IsInterned n r codes
    → codes.count < 2 ^ 32 → IsLeastOffence n r d least → least ≡ Some p → (p.first + 1 < 2 ^ 32) × (p.second + 1 < 2 ^ 32)
pair_in n r codes d least p is few answer at =
    let pair = subst (λ (q : Option Pair). IsLeastOffence n r d q) at answer in
    (omega (arith, pair.breaks.0, is.count, few), omega (arith, pair.breaks.1, is.count, few))
