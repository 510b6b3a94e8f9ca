-- Where all dependencies are functional, a block is all that is outside the closure.
use Rattle.std.proofs.Common.{◌≡◌, ℕ, ◌<◌, ◌↔◌, true, false, List, sym, ◌∙◌, ⊎_elim, arith}
use Rattle.std.proofs.lemmas.Bool.{true≢false, true_from_ne_false, false_from_ne_true, ltb-true, lt-ltb}
use Rattle.std.proofs.lemmas.Bool.Decides.{nat_tests}
use Rattle.std.specs.Prelude.{All}
use Rattle.attr_sets.specs.Attributes.{Attributes, below, union, difference, IsSubset}
use Rattle.dep_model.specs.Dependencies.{Dependency, fd, mvd, functional_part, left_of, IsWithin}
use Rattle.dep_model.specs.Keys.{InClosure, IsBlock}
use Rattle.dep_model.specs.TwoTuples.{two_tuples}
use Rattle.dep_model.proofs.TwoTupleLemmas.{two_tuples_mvd-to}
use Rattle.dep_basis.specs.Breaking.{IsBreakingBlock}
use Rattle.dep_basis.specs.Decisions.{IsBrokenBy}
use Rattle.attr_sets.proofs.AttributesLemmas.{same_at}
use Rattle.fd_closure.proofs.ClosedSets.{IsClosure, closure_set}

-- ---- a block beside the closure c
module _ (n : ℕ) (ds : List Dependency) (x p c : Attributes) (x_in : IsSubset x (below n)) (closure : IsClosure n ds x c) (block : IsBlock n ds x p) where
  -- no attribute of the block is in the closure
  block_beyond : (a : ℕ) → p a ≡ true → c a ≡ false
  block_beyond a m = false_from_ne_true (c a) (λ in_c. block.outside a m ((closure.exact a).0 in_c))

  -- the two tuples that agree on the closure obey x ->> p; it is not p that lies within, so the rest does
  rest_closed : IsSubset (difference (below n) (union x p)) c
  rest_closed =
      ⊎_elim
      (λ low. absurd (block.not_empty (λ a. false_from_ne_true (p a) (λ m. true≢false (sym (low a m) ∙ block_beyond a m)))))
      (λ rest. rest)
      (two_tuples_mvd-to n c x p x_in block.universe (block.implied (two_tuples n c) closure.legal) closure.holds)

  -- so each attribute outside the closure is in the block
  beyond_block : (a : ℕ) → a < n → (InClosure n ds x a → ⊥) → p a ≡ true
  beyond_block a low out = true_from_ne_false (p a) (λ outside.
      let not_x : x a ≡ false = false_from_ne_true (x a) (λ m. out ((closure.exact a).0 (closure.holds a m))) in
      out ((closure.exact a).0 (rest_closed a (grind (arith, nat_tests, low, outside, not_x)))))

pub block_is_rest : (n : ℕ) (ds : List Dependency) (x p : Attributes) → All (IsWithin (below n)) ds → functional_part ds ≡ ds → IsSubset x (below n) → IsBlock n ds x p
    → (a : ℕ) → (p a ≡ true) ↔ ((a < n) × (InClosure n ds x a → ⊥))
block_is_rest n ds x p within same x_in block a =
    let c = closure_set n ds x within same x_in in (
      (λ m. (ltb-true a n (block.universe a m), block.outside a m)),
      (λ h. beyond_block n ds x p c.0 x_in c.1 block a h.0 h.1),
    )

-- ---- what two rows that break a dependency agree on
breaking_is_block : (n : ℕ) (ds : List Dependency) (d : Dependency) (p : Attributes) → IsBreakingBlock n ds d p → IsBlock n ds (left_of d) p
breaking_is_block n ds (fd x y) p h = h.0
breaking_is_block n ds (mvd x y) p h = h.0

pub agreement_is_closure : (n : ℕ) (ds : List Dependency) (d : Dependency) (agreement : Attributes) → All (IsWithin (below n)) ds → functional_part ds ≡ ds → IsWithin (below n) d
    → IsBrokenBy n ds d agreement → (a : ℕ) → (agreement a ≡ true) ↔ InClosure n ds (left_of d) a
agreement_is_closure n ds d agreement within same d_in broken a =
    let p = broken.block in
    let block = breaking_is_block n ds d p broken.is_breaking in
    let c = closure_set n ds (left_of d) within same d_in.0 in (
      (λ m. (c.1.exact a).0 (true_from_ne_false (c.0 a) (λ out.
          let low : a < n = ltb-true a n (grind (arith, m, same_at broken.outside a)) in
          let in_p : p a ≡ true = beyond_block n ds (left_of d) p c.0 d_in.0 c.1 block a low (λ h. true≢false (sym ((c.1.exact a).1 h) ∙ out)) in
          true≢false (sym m ∙ grind (arith, in_p, same_at broken.outside a))))),
      (λ h.
          let outside : p a ≡ false = false_from_ne_true (p a) (λ m. block.outside a m h) in
          grind (arith, lt-ltb a n h.0, outside, same_at broken.outside a)),
    )
