-- The refinement of a piece: what a dependency that cuts it gives back, and what is found in the end.
use Rattle.std.proofs.Common.{◌≡◌, ℕ, ◌+◌, ◌<◌, ◌≤◌, ◌↔◌, true, false, List, [], ◌∷◌, ◌++◌, length, get_or, sym, subst, ◌∙◌, inl, inr, ⊎_elim, arith}
use mathlib.Core.Path.{fun_ext}
use Rattle.std.proofs.lemmas.Bool.{true≢false, cases_Bool, false_from_ne_true, ltb-true, lt-ltb}
use Rattle.std.proofs.lemmas.Bool.Decides.{nat_tests}
use Rattle.std.proofs.lemmas.List.Elements.{All-push, All-weaker, All-contains}
use Rattle.std.proofs.lemmas.List.Quantifiers.{Any-push}
use Rattle.std.specs.Prelude.{All, Any, Contains}
use Rattle.attr_sets.specs.Attributes.{Attributes, below, only, none, union, intersection, difference, IsSubset, IsEmpty, Disjoint, count_below}
use Rattle.attr_sets.specs.declared.set.AttrSet.{AttrSet}
use Rattle.attr_sets.specs.declared.set.TheConstants.{MOST_ATTRIBUTES}
use Rattle.attr_sets.specs.Sets.{attributes}
use Rattle.attr_sets.proofs.AttributesLemmas.{tell_empty, count_below-lt, count_below-within, count_below-difference, same_at}
use Rattle.dep_model.specs.declared.dep.Dep.{Dep}
use Rattle.dep_model.specs.Dependencies.{Dependency, fd, mvd, right_of}
use Rattle.dep_model.specs.Deps.{dependency_of, dependencies_of, IsDepWithin}
use Rattle.dep_model.specs.Implication.{Implies}
use Rattle.dep_model.specs.Keys.{InClosure, IsBlock}
use Rattle.dep_model.proofs.RuleLemmas.{reflexivity_obeyed, complementation_obeyed, mreflexivity_obeyed}
use Rattle.dep_model.proofs.DepLemmas.{legal-to}
use Rattle.dep_model.proofs.ListLemmas.{Any-left}
use Rattle.dep_basis.specs.Refining.{LeavesWhole}
use Rattle.dep_basis.specs.Cuts.{IsCutting}
use Rattle.dep_basis.specs.declared.pieces.Pieces.{Pieces}
use Rattle.dep_basis.specs.Pieces.{found_blocks, IsDeterminedOrIn, ArePieces, CanRefine, IsRefined, IsPieceWith}
use Rattle.dep_basis.proofs.RefiningLemmas.{replication_implied, split_inside, split_outside, moves}
use Rattle.dep_basis.proofs.BlockLemmas.{whole_legal, candidate_block}
use Rattle.dep_basis.proofs.BasisLemmas.{closure_wider, block_wider}

abbrev HasAttribute : ℕ → AttrSet → Type 0
HasAttribute a p = attributes p a ≡ true

-- ---- what can be refined
-- all that is outside a set
pub first_refined : (n : ℕ) (ds : List Dep) (x w : Attributes) → All (IsDepWithin (below n)) ds → IsSubset x (below n) → w ≡ difference (below n) x → CanRefine n ds x w
first_refined n ds x w within x_in is = record {
  deps = within;
  lhs = x_in;
  universe = λ k m. grind (arith, same_at is k, m);
  outside = λ k m. grind (arith, same_at is k, m);
  implied = λ r legal. rw (fun_ext {f = w} {g = difference (below n) (union x none)} (λ (k : ℕ). grind (arith, same_at is k)))
      (complementation_obeyed (below n) x none r (mreflexivity_obeyed (below n) x none r (λ (k : ℕ) m. absurd (true≢false (sym m)))));
}

-- what a cut gives back
module _ (n : ℕ) (ds : List Dep) (x w v t : Attributes) (can : CanRefine n ds x w) (v_in : IsSubset v (below n)) (apart : Disjoint v w) (given : Implies n (dependencies_of ds) (mvd v t)) where
  pub outside_refined : (rest : Attributes) → rest ≡ difference w t → CanRefine n ds x rest
  outside_refined rest is = record {
    deps = can.deps;
    lhs = can.lhs;
    universe = λ k m. can.universe k (grind (arith, same_at is k, m));
    outside = λ k m. can.outside k (grind (arith, same_at is k, m));
    implied = λ r legal. rw is (split_outside n (dependencies_of ds) x w v t can.lhs can.universe v_in apart can.implied given r legal);
  }

  pub inside_refined : (rest : Attributes) → rest ≡ intersection w t → CanRefine n ds x rest
  inside_refined rest is = record {
    deps = can.deps;
    lhs = can.lhs;
    universe = λ k m. can.universe k (grind (arith, same_at is k, m));
    outside = λ k m. can.outside k (grind (arith, same_at is k, m));
    implied = λ r legal. rw is (split_inside n (dependencies_of ds) x w v t can.lhs can.universe v_in apart can.implied given r legal);
  }

-- a given dependency
pub given_implied_at : (n : ℕ) (ds : List Dep) (k : ℕ) (d : Dep) → k < length ds → Implies n (dependencies_of ds) (dependency_of (get_or ds k d))
given_implied_at n ds k d lt r legal = legal-to n ds r legal k d lt

-- ---- what is said of each attribute
in_block_kept : (n : ℕ) (ds : List Dependency) (x : Attributes) (before after : List AttrSet) (a : ℕ) → (Any (HasAttribute a) before → Any (HasAttribute a) after) → IsDeterminedOrIn n ds x before a → IsDeterminedOrIn n ds x after a
in_block_kept n ds x before after a kept fact = ⊎_elim (λ closed. inl closed) (λ one. inr (kept one)) fact

-- a piece that nothing cuts is a block
pub block_refined : (ds : List Dep) (piece : AttrSet) (before after : Pieces) → length after.sets ≡ 128 → found_blocks after ≡ found_blocks before ++ piece ∷ [] → after.count ≡ before.count + 1
    → 0 < count_below (attributes piece) MOST_ATTRIBUTES → (IsEmpty (attributes piece) → ⊥) → All (LeavesWhole (attributes piece) (attributes piece)) (dependencies_of ds) → IsRefined ds (attributes piece) before after
block_refined ds piece before after size sets count pos not_empty whole = record {
  size = size;
  room = omega (arith, count, pos);
  kept = λ a h. rw sets (Any-left (HasAttribute a) (found_blocks before) piece h);
  refined = λ n x can.
      let w = attributes piece in
      let block : IsBlock n (dependencies_of ds) x w = ⊎_elim
      (λ one. candidate_block n (dependencies_of ds) x w one.0 can.lhs (whole_legal n ds w can.deps whole)
      (record {
        universe = can.universe;
        outside = can.outside;
        implied = can.implied;
        nothing = λ gone. absurd (true≢false (sym one.2 ∙ gone));
        closed = λ gone. absurd (true≢false (sym one.2 ∙ gone));
      }) one.2)
      (λ none. absurd (not_empty none))
      (tell_empty n w can.universe) in
      record {
        each = λ old. rw sets (All-push (λ (p : AttrSet). IsBlock n (dependencies_of ds) x (attributes p)) (found_blocks before) piece old block);
        exhaustive = λ a m. inr (rw sets (Any-push (HasAttribute a) (found_blocks before) piece m));
      };
}

-- a functional dependency determines what it shares
pub fd_refined : (ds : List Dep) (w v t rest : Attributes) (before after : Pieces) → rest ≡ difference w t → Disjoint v w
    → ((n : ℕ) → All (IsDepWithin (below n)) ds → IsSubset v (below n)) → ((n : ℕ) → Implies n (dependencies_of ds) (fd v t)) → IsRefined ds rest before after → IsRefined ds w before after
fd_refined ds w v t rest before after is apart v_in given old = record {
  size = old.size;
  room = omega (arith, old.room, count_below-within MOST_ATTRIBUTES rest w (λ k m. grind (arith, same_at is k, m)));
  kept = old.kept;
  refined = λ n x can.
      let inner = old.refined n x (outside_refined n ds x w v t can (v_in n can.deps) apart (replication_implied n (dependencies_of ds) v t (given n)) rest is) in
      record {
        each = inner.each;
        exhaustive = λ a m. elim (cases_Bool (t a)) [
          | inl in_t ↦ inl (moves n (dependencies_of ds) x w v t can.lhs can.universe (v_in n can.deps) a apart m in_t can.implied (given n))
          | inr out ↦ inner.exhaustive a (grind (arith, same_at is a, m, out))
        ];
      };
}

-- no attribute is lost or counted twice
pub sides_count : (w t inside outside : Attributes) → inside ≡ intersection w t → outside ≡ difference w t → count_below inside MOST_ATTRIBUTES + count_below outside MOST_ATTRIBUTES ≡ count_below w MOST_ATTRIBUTES
sides_count w t inside outside in_is out_is =
    rw (in_is, out_is) (omega (arith, count_below-difference MOST_ATTRIBUTES w t))

-- a multivalued one gives both sides back
pub mvd_refined : (ds : List Dep) (w v t inside outside : Attributes) (before middle after : Pieces) → inside ≡ intersection w t → outside ≡ difference w t → Disjoint v w
    → ((n : ℕ) → All (IsDepWithin (below n)) ds → IsSubset v (below n)) → ((n : ℕ) → Implies n (dependencies_of ds) (mvd v t))
    → IsRefined ds inside before middle → IsRefined ds outside middle after → IsRefined ds w before after
mvd_refined ds w v t inside outside before middle after in_is out_is apart v_in given first second = record {
  size = second.size;
  room = omega (arith, first.room, second.room, sides_count w t inside outside in_is out_is);
  kept = λ a h. second.kept a (first.kept a h);
  refined = λ n x can.
      let one = first.refined n x (inside_refined n ds x w v t can (v_in n can.deps) apart (given n) inside in_is) in
      let other = second.refined n x (outside_refined n ds x w v t can (v_in n can.deps) apart (given n) outside out_is) in
      record {
        each = λ old. other.each (one.each old);
        exhaustive = λ a m. elim (cases_Bool (t a)) [
          | inl in_t ↦ in_block_kept n (dependencies_of ds) x (found_blocks middle) (found_blocks after) a (second.kept a) (one.exhaustive a (grind (arith, same_at in_is a, m, in_t)))
          | inr out ↦ other.exhaustive a (grind (arith, same_at out_is a, m, out))
        ];
      };
}

-- both sides are smaller
pub outside_fewer : (w t rest : Attributes) (d : Dependency) → IsSubset w (below MOST_ATTRIBUTES) → IsCutting w d → right_of d ≡ t → rest ≡ difference w t → count_below rest MOST_ATTRIBUTES < count_below w MOST_ATTRIBUTES
outside_fewer w t rest d low cutting right is =
    let k = cutting.shares.0 in
    count_below-lt MOST_ATTRIBUTES rest w k (λ j m. grind (arith, same_at is j, m)) (ltb-true k MOST_ATTRIBUTES (low k cutting.shares.1)) (grind (arith, same_at is k, subst (λ (y : Attributes). y k ≡ true) right cutting.shares.2)) cutting.shares.1

pub inside_fewer : (w v t rest : Attributes) → IsSubset w (below MOST_ATTRIBUTES) → IsCutting w (mvd v t) → rest ≡ intersection w t → count_below rest MOST_ATTRIBUTES < count_below w MOST_ATTRIBUTES
inside_fewer w v t rest low cutting is =
    ⊎_elim
    (λ functional. absurd (true≢false (sym functional)))
    (λ one. count_below-lt MOST_ATTRIBUTES rest w one.0 (λ j m. grind (arith, same_at is j, m)) (ltb-true one.0 MOST_ATTRIBUTES (low one.0 one.1)) (grind (arith, same_at is one.0, one.2)) one.1)
    cutting.leaves

-- ---- all pieces of a left side
-- c lies between x and its closure, and all outside it was refined
pub all_refined : (n : ℕ) (ds : List Dep) (x c w : Attributes) (found none : Pieces) → IsSubset x c → Implies n (dependencies_of ds) (fd x c) → w ≡ difference (below n) c
    → CanRefine n ds c w → found_blocks none ≡ [] → found.count ≤ 128 → IsRefined ds w none found → ArePieces n (dependencies_of ds) x found
all_refined n ds x c w found none inside closed is can empty within_limit done =
    let all = dependencies_of ds in
    let refined = done.refined n c can in
    let wider : (a : ℕ) → a < n → Implies n all (fd c (only a)) → Implies n all (fd x (only a)) = λ (a : ℕ) low h. (closure_wider n all x c inside closed a (low, h)).1 in
    record {
      size = done.size;
      within_limit = within_limit;
      each = All-weaker (λ (p : AttrSet). IsBlock n all c (attributes p)) (λ (p : AttrSet). IsBlock n all x (attributes p)) (λ (p : AttrSet) block. block_wider n all x c inside closed (attributes p) block) (found_blocks found)
          (refined.each (rw empty (λ k d l. absurd (omega arith))));
      exhaustive = λ a low. elim (cases_Bool (c a)) [
        | inl in_c ↦ inl (wider a low (λ r legal. reflexivity_obeyed c (only a) r (λ (k : ℕ) h. grind (arith, nat_tests, h, in_c))))
        | inr out ↦ ⊎_elim (λ h. inl (wider a low h)) (λ h. inr h) (refined.exhaustive a (grind (arith, same_at is a, lt-ltb a n low, out)))
      ];
    }

-- ---- one piece, and what is in none
module _ (n : ℕ) (ds : List Dependency) (x : Attributes) (found : Pieces) (pieces : ArePieces n ds x found) where
  pub piece_is : (a : ℕ) (p : AttrSet) → a < n → (IsEmpty (attributes p) → All (λ q. attributes q a ≡ false) (found_blocks found)) → ((IsEmpty (attributes p) → ⊥) → Contains (found_blocks found) p)
      → ((IsEmpty (attributes p) → ⊥) → attributes p a ≡ true) → IsPieceWith n ds x a (attributes p)
  piece_is a p low none not_empty member = record {
    nothing = λ empty. ⊎_elim
        (λ h. h)
        (λ (j, q, lt, is, in_q). absurd (true≢false (sym in_q ∙ All-contains (λ (s : AttrSet). attributes s a ≡ false) (found_blocks found) q (none empty) (j, lt, is))))
        (pieces.exhaustive a low);
    block = λ filled. All-contains (λ (s : AttrSet). IsBlock n ds x (attributes s)) (found_blocks found) p pieces.each (not_empty filled);
    member = member;
  }

  pub rest_closed : (c : Attributes) → ((a : ℕ) → (c a ≡ true) ↔ (below n a ≡ true) × All (λ q. attributes q a ≡ false) (found_blocks found)) → (a : ℕ) → (c a ≡ true) ↔ InClosure n ds x a
  rest_closed c is a = (
    (λ m.
        let h = (is a).0 m in
        let low = ltb-true a n h.0 in
        ⊎_elim
        (λ closed. (low, closed))
        (λ (j, q, lt, at, in_q). absurd (true≢false (sym in_q ∙ All-contains (λ (s : AttrSet). attributes s a ≡ false) (found_blocks found) q h.1 (j, lt, at))))
        (pieces.exhaustive a low)),
    (λ closed. (is a).1 (lt-ltb a n closed.0, λ j d l. false_from_ne_true (attributes (get_or (found_blocks found) j d) a) (λ in_q. (pieces.each j d l).outside a in_q closed))),
  )
