-- A set of attributes has one basis, and a dependency that is not implied one refutation.
use Rattle.std.proofs.Common.{◌≡◌, ◌<◌, ◌≤◌, ℕ, true, List, sym, subst, ap, ◌∙◌, inl, inr, arith}
use Rattle.std.proofs.lemmas.Bool.{cases_lt}
use Rattle.std.proofs.lemmas.List.Elements.{All-contains, All-map}
use Rattle.attr_sets.specs.Attributes.{Attributes, below, difference, IsFirstFrom}
use Rattle.attr_sets.specs.Sets.{attributes}
use Rattle.attr_sets.proofs.AttributesLemmas.{same_from_within, tell_least}
use Rattle.dep_basis.specs.Bases.{IsBasis}
use Rattle.dep_basis.specs.Breaking.{IsBreakingBlock}
use Rattle.dep_basis.specs.Decisions.{IsBrokenBy}
use Rattle.dep_basis.specs.Traces.{blocks_of, BeginsBefore}
use Rattle.dep_basis.specs.declared.gathering.Blocks.{Blocks}
use Rattle.dep_basis.proofs.BlockLemmas.{blocks_same}
use Rattle.dep_model.specs.Dependencies.{Dependency, fd, mvd}
use Rattle.dep_model.specs.Keys.{InClosure, IsBlock}
use Rattle.dep_model.specs.Plans.{schemes_of}
use Rattle.dep_model.proofs.OrderedLists.{HoldsAll, IsOneWay, one_ordered_list, Any-image}
use Rattle.dep_model.proofs.PairLemmas.{pairs_map}

-- ---- blocks in their order
-- a block has a first attribute
first_of_block : (n : ℕ) (ds : List Dependency) (x p : Attributes) → IsBlock n ds x p → (i : ℕ) × IsFirstFrom p 0 i
first_of_block n ds x p block = elim (tell_least n p 0 block.universe) [
  | inl found ↦ (found.0, found.2)
  | inr none ↦ absurd (block.not_empty (λ k. none k (omega arith)))
]

blocks_one_way : (n : ℕ) (ds : List Dependency) (x : Attributes) → IsOneWay (IsBlock n ds x) BeginsBefore
blocks_one_way n ds x p q p_is q_is there back =
    let (i, p_first) = first_of_block n ds x p p_is in
    let (j, q_first) = first_of_block n ds x q q_is in
    let before : i < j = there i j p_first q_first in
    let after : j < i = back j i q_first p_first in
    omega (arith, before, after)

pub one_closed : (n : ℕ) (ds : List Dependency) (x : Attributes) (one other : Blocks)
    → IsBasis n ds x one → IsBasis n ds x other
    → attributes one.closed ≡ attributes other.closed
one_closed n ds x one other first second =
    same_from_within (attributes one.closed) (attributes other.closed)
    (λ a member. (second.closed a).1 ((first.closed a).0 member))
    (λ a member. (first.closed a).1 ((second.closed a).0 member))

blocks_held : (n : ℕ) (ds : List Dependency) (x : Attributes) (one other : Blocks)
    → IsBasis n ds x one → IsBasis n ds x other
    → HoldsAll (schemes_of (blocks_of one)) (schemes_of (blocks_of other))
blocks_held n ds x one other first second p has =
    Any-image attributes (blocks_of other) p
    (second.all p (All-contains (IsBlock n ds x) (schemes_of (blocks_of one)) p
    (All-map (IsBlock n ds x) attributes (blocks_of one) first.each) has))

pub one_blocks : (n : ℕ) (ds : List Dependency) (x : Attributes) (one other : Blocks)
    → IsBasis n ds x one → IsBasis n ds x other
    → schemes_of (blocks_of one) ≡ schemes_of (blocks_of other)
one_blocks n ds x one other first second =
    one_ordered_list (IsBlock n ds x) BeginsBefore (schemes_of (blocks_of one))
    (schemes_of (blocks_of other)) (blocks_one_way n ds x)
    (All-map (IsBlock n ds x) attributes (blocks_of one) first.each)
    (All-map (IsBlock n ds x) attributes (blocks_of other) second.each)
    (pairs_map BeginsBefore attributes (blocks_of one) first.listed.in_order)
    (pairs_map BeginsBefore attributes (blocks_of other) second.listed.in_order)
    (blocks_held n ds x one other first second) (blocks_held n ds x other one second first)

-- ---- refutations
same_member : (n : ℕ) (ds : List Dependency) (x y p q : Attributes) (a b : ℕ) → IsBlock n ds x p
    → IsBlock n ds x q → p a ≡ true → q b ≡ true
    → y a ≡ true → y b ≡ true → ((c : ℕ) → c < a → y c ≡ true → InClosure n ds x c)
    → ((c : ℕ) → c < b → y c ≡ true → InClosure n ds x c) → a ≡ b
same_member n ds x y p q a b p_is q_is in_p in_q a_in b_in a_first b_first = elim (cases_lt a b) [
  | inl before ↦ absurd (p_is.outside a in_p (b_first a before a_in))
  | inr from_on ↦ elim (cases_lt b a) [
    | inl after ↦ absurd (q_is.outside b in_q (a_first b after b_in))
    | inr back ↦ omega (arith, from_on, back)
  ]
]

one_breaking : (n : ℕ) (ds : List Dependency) (d : Dependency) (p q : Attributes)
    → IsBreakingBlock n ds d p → IsBreakingBlock n ds d q → p ≡ q
one_breaking n ds (fd x y) p q (p_is, (a, in_p, a_in, a_first)) (q_is, (b, in_q, b_in, b_first)) =
    let same : a ≡ b = same_member n ds x y p q a b p_is q_is in_p in_q a_in b_in a_first b_first in
    blocks_same n ds x p q p_is q_is (a, in_p, subst (λ (c : ℕ). q c ≡ true) (sym same) in_q)
one_breaking n ds (mvd x y) p q (p_is, p_split, p_first) (q_is, q_split, q_first) =
    let (i, p_begins) = first_of_block n ds x p p_is in
    let (j, q_begins) = first_of_block n ds x q q_is in
    let there : i ≤ j = p_first q i j q_is q_split p_begins q_begins in
    let back : j ≤ i = q_first p j i p_is p_split q_begins p_begins in
    let same : i ≡ j = omega (arith, there, back) in
    blocks_same n ds x p q p_is q_is (i, p_begins.member, subst (λ (c : ℕ). q c ≡ true) (sym same) q_begins.member)

pub one_refuted : (n : ℕ) (ds : List Dependency) (d : Dependency) (one other : Attributes)
    → IsBrokenBy n ds d one → IsBrokenBy n ds d other
    → one ≡ other
one_refuted n ds d one other first second =
    first.outside ∙ ap (difference (below n)) (one_breaking n ds d first.block second.block
    first.is_breaking second.is_breaking) ∙ sym second.outside
