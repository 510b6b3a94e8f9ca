-- The parts of a left side on a scheme: each attribute beyond it is in one; and where it has two, what it has
-- of the given left sides has two.
use Rattle.std.proofs.Common.{◌≡◌, ℕ, ◌≤◌, true, false, List, sym, subst, ◌∙◌, inl, inr, ⊎_elim, arith}
use Rattle.std.proofs.lemmas.Bool.{true≢false, cases_Bool, ltb-true}
use Rattle.std.proofs.lemmas.Bool.Decides.{nat_tests}
use Rattle.std.specs.Prelude.{All}
use Rattle.attr_sets.specs.Attributes.{Attributes, below, only, intersection, difference, IsSubset}
use Rattle.attr_sets.proofs.AttributesLemmas.{tell_empty, same_at}
use Rattle.dep_model.specs.declared.dep.Dep.{Dep}
use Rattle.dep_model.specs.Dependencies.{Dependency, fd, mvd, left_of}
use Rattle.dep_model.specs.Deps.{dependency_of, dependencies_of, IsDepWithin}
use Rattle.dep_model.specs.Implication.{Implies}
use Rattle.dep_model.specs.OnSchemes.{ImpliedOn}
use Rattle.dep_model.specs.Keys.{InClosure, IsBlock, IsPartOn}
use Rattle.dep_model.specs.TwoTuples.{two_tuples}
use Rattle.dep_model.proofs.SchemeLemmas.{mvd_in-to, mvd_in-from}
use Rattle.dep_model.proofs.KeyLemmas.{fd_on-from}
use Rattle.dep_model.proofs.FormLemmas.{replicated_on}
use Rattle.dep_model.proofs.PartLemmas.{intersection_on}
use Rattle.dep_basis.specs.Parts.{HasTwoParts}
use Rattle.dep_basis.specs.Bases.{IsSplitBy}
use Rattle.dep_basis.proofs.BlockLemmas.{outside_of, block_legal, block_disjoint}
use Rattle.dep_basis.proofs.BasisLemmas.{split_broken}
use Rattle.dep_basis.proofs.RestLemmas.{block_at, rest_block}
use Rattle.dep_basis.proofs.PartLemmas.{mvd_on_scheme}

-- ---- on a scheme

pub mvd_cut : (n : ℕ) (ds : List Dependency) (scheme x w : Attributes) → IsSubset scheme (below n) → IsSubset x scheme → Implies n ds (mvd x w) → ImpliedOn n ds scheme (mvd x (intersection w scheme))
mvd_cut n ds scheme x w low x_in implied = record {
  within = (x_in, λ (k : ℕ) m. grind (arith, m));
  obeyed = λ r legal. mvd_in-from scheme x (intersection w scheme) r x_in (λ (k : ℕ) m. grind (arith, m)) (mvd_on_scheme n scheme x w r low (implied r legal));
}

-- an attribute that is determined is multidetermined
pub only_on : (n : ℕ) (ds : List Dependency) (scheme x : Attributes) (a : ℕ) → IsSubset x scheme → scheme a ≡ true → InClosure n ds x a → ImpliedOn n ds scheme (fd x (only a))
only_on n ds scheme x a x_in a_in closed = fd_on-from n ds scheme x (only a) x_in (λ (k : ℕ) e. grind (arith, nat_tests, e, a_in)) closed.1

module _ (n : ℕ) (ds : List Dep) (scheme x : Attributes) (within : All (IsDepWithin (below n)) ds) (low : IsSubset scheme (below n)) (x_in : IsSubset x scheme) where
  x_low : IsSubset x (below n)
  x_low k m = low k (x_in k m)

  -- a block that has attributes on both sides of a set splits it
  pub split_block : (y p : Attributes) (a b : ℕ) → ImpliedOn n (dependencies_of ds) scheme (mvd x y) → IsBlock n (dependencies_of ds) x p
      → scheme a ≡ true → p a ≡ true → y a ≡ true → scheme b ≡ true → p b ≡ true → y b ≡ false → ⊥
  split_block y p a b on block a_in a_p a_y b_in b_p b_y =
      let legal = block_legal n ds x p within x_low block in
      let split : IsSplitBy scheme y (intersection p scheme) = ((a, grind (arith, a_in, a_p), a_y), (b, grind (arith, b_in, b_p), grind (arith, b_in, b_y))) in
      split_broken n scheme x y p low x_in on.within.1 (block_disjoint n (dependencies_of ds) x p block) split
      (mvd_in-to scheme x y (two_tuples n (outside_of n p)) x_in on.within.1 (on.obeyed (two_tuples n (outside_of n p)) legal))

  -- what the scheme has of a block is a part
  pub part_of_block : (p : Attributes) (a : ℕ) → IsBlock n (dependencies_of ds) x p → scheme a ≡ true → p a ≡ true → IsPartOn n (dependencies_of ds) scheme x (intersection p scheme)
  part_of_block p a block a_in a_p = record {
    outside = λ k m. block_disjoint n (dependencies_of ds) x p block k (grind (arith, m));
    not_empty = λ nothing. true≢false (sym (grind (arith, a_in, a_p)) ∙ nothing a);
    implied = mvd_cut n (dependencies_of ds) scheme x p low x_in block.implied;
    minimal = λ q inside not_empty on k m. elim (cases_Bool (q k)) [
      | inl in_q ↦ in_q
      | inr out ↦ ⊎_elim
          (λ one. absurd (split_block q p one.0 k on block (on.within.1 one.0 one.2) (grind (arith, inside one.0 one.2)) one.2 (grind (arith, m)) (grind (arith, m)) out))
          (λ nothing. absurd (not_empty nothing))
          (tell_empty n q (λ (j : ℕ) h. low j (on.within.1 j h)))
    ];
  }

  -- so is an attribute beyond x that it determines
  pub part_of_one : (a : ℕ) → InClosure n (dependencies_of ds) x a → scheme a ≡ true → x a ≡ false → IsPartOn n (dependencies_of ds) scheme x (only a)
  part_of_one a closed a_in out = record {
    outside = λ k e. grind (arith, nat_tests, e, out);
    not_empty = λ nothing. true≢false (grind (arith, nat_tests, nothing a));
    implied = replicated_on n (dependencies_of ds) scheme x (only a) (only_on n (dependencies_of ds) scheme x a x_in a_in closed);
    minimal = λ q inside not_empty on k e. ⊎_elim
        (λ one. grind (arith, nat_tests, e, inside one.0 one.2, one.2))
        (λ nothing. absurd (not_empty nothing))
        (tell_empty n q (λ (j : ℕ) h. low j (on.within.1 j h)));
  }

  -- each attribute beyond x is in a part
  pub part_at : n ≤ 128 → (a : ℕ) → scheme a ≡ true → x a ≡ false → (p : Attributes) × IsPartOn n (dependencies_of ds) scheme x p × (p a ≡ true)
  part_at within_limit a a_in out =
      ⊎_elim
      (λ closed. (only a, part_of_one a closed a_in out, grind (arith, nat_tests)))
      (λ (one : (p : Attributes) × IsBlock n (dependencies_of ds) x p × (p a ≡ true)). (intersection one.0 scheme, part_of_block one.0 a one.1 a_in one.2, grind (arith, a_in, one.2)))
      (block_at n ds x a within_limit within x_low (ltb-true a n (low a a_in)))

  -- where x has two parts, an attribute beyond it is in another part than this one
  pub other_part : n ≤ 128 → (y : Attributes) → IsPartOn n (dependencies_of ds) scheme x y → HasTwoParts n (dependencies_of ds) scheme x
      → (p : Attributes) × IsPartOn n (dependencies_of ds) scheme x p × (p ≡ y → ⊥)
  other_part within_limit y part two =
      let a = two.not_empty.0 in
      let b = two.rest.0 in
      elim (cases_Bool (y a)) [
        | inr out ↦ other_at a (grind (arith, two.not_empty.1)) (grind (arith, two.not_empty.1)) out
        | inl a_y ↦ elim (cases_Bool (y b)) [
          | inr out ↦ other_at b (grind (arith, two.rest.1)) (grind (arith, two.rest.1)) out
          | inl b_y ↦
              let inside = part.minimal (intersection y two.rhs) (λ (k : ℕ) m. grind (arith, m)) (λ nothing. true≢false (sym (grind (arith, a_y, two.not_empty.2)) ∙ nothing a))
              (intersection_on n (dependencies_of ds) scheme x y two.rhs part.implied two.implied) b b_y in
              absurd (true≢false (grind (arith, inside, two.rest.2)))
        ]
      ]
    where
      other_at : (k : ℕ) → scheme k ≡ true → x k ≡ false → y k ≡ false → (p : Attributes) × IsPartOn n (dependencies_of ds) scheme x p × (p ≡ y → ⊥)
      other_at k k_in out not_y =
          let p = part_at within_limit k k_in out in
          (p.0, p.1, λ same. true≢false (sym p.2 ∙ same_at same k ∙ not_y))

-- ---- what x has of the given left sides
-- it has two parts where x has
pub two_parts_less : (n : ℕ) (ds : List Dep) (scheme l x : Attributes) → n ≤ 128 → All (IsDepWithin (below n)) ds → IsSubset scheme (below n) → IsSubset x scheme
    → All (λ d. IsSubset (left_of (dependency_of d)) l) ds → HasTwoParts n (dependencies_of ds) scheme x → HasTwoParts n (dependencies_of ds) scheme (intersection x l)
two_parts_less n ds scheme l x within_limit within low x_in lefts two =
    ⊎_elim
    (λ closed. record {
      rhs = only a;
      implied = replicated_on n (dependencies_of ds) scheme v (only a) (only_on n (dependencies_of ds) scheme v a v_in a_in closed);
      not_empty = (a, grind (arith, two.not_empty.1), grind (arith, nat_tests));
      rest = (b, grind (arith, two.rest.1), grind (arith, nat_tests, two.rest.1, b_differs));
    })
    (λ (one : (q : Attributes) × IsBlock n (dependencies_of ds) v q × (q a ≡ true)). elim (cases_Bool (one.0 b)) [
      | inr out ↦ record {
        rhs = intersection one.0 scheme;
        implied = mvd_cut n (dependencies_of ds) scheme v one.0 low v_in one.1.implied;
        not_empty = (a, grind (arith, two.not_empty.1), grind (arith, a_in, one.2));
        rest = (b, grind (arith, two.rest.1), grind (arith, two.rest.1, out));
      }
      | inl both ↦
          let a_rest : difference one.0 x a ≡ true = grind (arith, one.2, two.not_empty.1) in
          let block = rest_block n ds l x within_limit within lefts x_low one.0 one.1 a a_rest in
          absurd (split_block n ds scheme x within low x_in two.rhs (difference one.0 x) a b two.implied block a_in a_rest two.not_empty.2 b_in (grind (arith, both, two.rest.1)) b_out)
    ])
    (block_at n ds v a within_limit within v_low (ltb-true a n (low a a_in)))
  where
    v : Attributes
    v = intersection x l

    a : ℕ
    a = two.not_empty.0

    b : ℕ
    b = two.rest.0

    x_low : IsSubset x (below n)
    x_low k m = low k (x_in k m)

    v_in : IsSubset v scheme
    v_in k m = x_in k (grind (arith, m))

    v_low : IsSubset v (below n)
    v_low k m = low k (v_in k m)

    a_in : scheme a ≡ true
    a_in = grind (arith, two.not_empty.1)

    b_in : scheme b ≡ true
    b_in = grind (arith, two.rest.1)

    b_out : two.rhs b ≡ false
    b_out = grind (arith, two.rest.2)

    b_differs : b ≡ a → ⊥
    b_differs same = true≢false (sym (subst (λ (k : ℕ). two.rhs k ≡ true) (sym same) two.not_empty.2) ∙ b_out)
