-- What is left to prove of `block_beyond`: its clauses `none` and `block`, what `block_by`
-- requires, that the invariant of its loop holds at first and stays, and that its loop ends, by
-- `closure_between`.
use Rattle.std.proofs.Common.{ℕ, refl, sym, subst, ◌∙◌, inl, inr, arith}
use Rattle.std.proofs.lemmas.Bool.{true≢false, cases_eq, ltb-true}
use Rattle.std.proofs.lemmas.Bool.Decides.{nat_tests}
use Rattle.std.specs.Prelude.{Option, None, Some, IfSome}
use Rattle.attr_sets.specs.declared.set.AttrSet.{AttrSet}
use Rattle.attr_sets.specs.Sets.{attributes}
use Rattle.attr_sets.specs.declared.set.TheConstants.{MOST_ATTRIBUTES}
use Rattle.attr_sets.proofs.AttributesLemmas.{count_below-lt, same_at}
use Rattle.dep_model.specs.Deps.{dependencies_of}
use Rattle.dep_model.specs.Keys.{InClosure}
use Rattle.fd_closure.proofs.ClosureLemmas.{fd_each-to, fd_each-from}
use Rattle.dep_basis.proofs.BasisLemmas.{closure_between}
use Rattle.dep_basis.proofs.deciding.block_beyond.Goals as goal

-- two facts of one value
IfSome_both : {A : Type 0} {P Q R : A → Type 0} (o : Option A) → IfSome o P → IfSome o Q → ((x : A) → P x → Q x → R x) → IfSome o R
IfSome_both (Some x) first second both = both x first second
IfSome_both None first second both = tt

pub loop-first-init : goal.loop-first-init
loop-first-init c =
    let n = c.args.width in
    let ds = dependencies_of c.args.deps.now in
    let x = attributes c.args.lhs in
    let more = attributes c.functional_closure.result in
    let between = closure_between n ds x more c.requires.lhs (c.functional_closure.ensures.closure n c.requires.deps c.requires.lhs) in
    record {
      within = λ k m. grind (arith, same_at c.difference-left.ensures.members k, m);
      closed = λ b in_y out. (
        ltb-true b n (c.requires.rhs b in_y),
        fd_each-to n ds x more between.2 b (grind (arith, same_at c.difference-left.ensures.members b, in_y, out)),
      );
    }

pub block_by-block-requires-clause-attribute : goal.block_by-block-requires-clause-attribute
block_by-block-requires-clause-attribute c =
    let a = c.in-Some.first in
    ltb-true a c.args.width (c.requires.rhs a (c.loop-first.invariant.within a c.in-Some.ensures.first.member))

pub returns-then-is_some-clause-none : goal.returns-then-is_some-clause-none
returns-then-is_some-clause-none c =
    let n = c.args.width in
    let a = c.in-Some.first in
    let in_y = c.loop-first.invariant.within a c.in-Some.ensures.first.member in
    let found = sym c.if-is_some.true ∙ c.is_some.ensures in (
      (λ none. absurd (true≢false (found ∙ none))),
      (λ implied. absurd (true≢false (found ∙ c.block_by-block.ensures.none.1
          (ltb-true a n (c.requires.rhs a in_y), fd_each-to n (dependencies_of c.args.deps.now) (attributes c.args.lhs) (attributes c.args.rhs) implied a in_y)))),
    )

pub returns-then-is_some-clause-block : goal.returns-then-is_some-clause-block
returns-then-is_some-clause-block c =
    let a = c.in-Some.first in
    let least = c.in-Some.ensures.first in
    let now = c.loop-first.invariant in
    IfSome_both c.block_by-block.result c.block_by-block.ensures.block c.block_by-block.ensures.member
    (λ (p : AttrSet) block member. (block, (a, member, now.within a least.member, (λ b lt in_y. now.closed b in_y (least.least b (omega arith) lt)))))

pub loop-first-smaller : goal.loop-first-smaller
loop-first-smaller c =
    count_below-lt MOST_ATTRIBUTES (attributes c.without-left.result) (attributes c.loop-first.left) c.in-Some.first (λ k m. grind (arith, same_at c.without-left.ensures.members k, m))
    c.in-Some.ensures.attribute (grind (arith, nat_tests, same_at c.without-left.ensures.members c.in-Some.first)) c.in-Some.ensures.first.member

pub loop-first-preserved : goal.loop-first-preserved
loop-first-preserved c =
    let now = c.loop-first.invariant in
    let a = c.in-Some.first in
    let is = c.without-left.ensures.members in
    record {
      within = λ k m. now.within k (grind (arith, same_at is k, m));
      closed = λ b in_y out. elim (cases_eq b a) [
        | inl same ↦ subst (λ (k : ℕ). InClosure c.args.width (dependencies_of c.args.deps.now) (attributes c.args.lhs) k) (sym same)
            (c.block_by-block.ensures.none.0 (sym c.is_some.ensures ∙ c.if-is_some.false))
        | inr differ ↦ now.closed b in_y (grind (arith, nat_tests, differ, same_at is b, out))
      ];
    }

pub returns-clause-none : goal.returns-clause-none
returns-clause-none c = (
  (λ _. fd_each-from c.args.width (dependencies_of c.args.deps.now) (attributes c.args.lhs) (attributes c.args.rhs)
      (λ (a : ℕ) m. (c.loop-first.invariant.closed a m (c.in_default.ensures.none.0 refl a)).1)),
  (λ _. refl),
)
