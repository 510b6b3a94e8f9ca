-- What is left to prove of `second_beside`: its clause `none` and that a round of its loop keeps
-- the invariant.
use Rattle.std.proofs.Common.{ℕ, subst, sym, ◌∙◌, inl, inr, arith}
use Rattle.std.proofs.lemmas.Bool.{true≢false, cases_eq, ltb-true}
use Rattle.attr_sets.specs.Sets.{attributes}
use Rattle.dep_model.specs.Theories.{width_of, theory_of}
use Rattle.wide_bcnf.specs.Pairs.{IsPair}
use Rattle.wide_bcnf.proofs.pairs.second_beside.Goals as goal

pub loop-second-preserved : goal.loop-second-preserved
loop-second-preserved c d pair =
    let s = c.args.theory.now in
    let least = c.loop-second.invariant d pair in
    elim (cases_eq d c.loop-second.second) [
      | inl same ↦
          let fact = c.is_pair.ensures.pair.1
          (subst (λ (i : ℕ). IsPair (width_of s) (theory_of s) (attributes c.args.scheme) c.args.first i) same pair) in
          absurd (true≢false (sym fact ∙ c.if-is_pair.false))
      | inr other ↦ omega arith
    ]

pub returns-then-not-can_begin-clause-none : goal.returns-then-not-can_begin-clause-none
returns-then-not-can_begin-clause-none c = λ _ d pair. true≢false
    (sym (c.can_begin.ensures.begins d pair) ∙ c.if-not-can_begin.true)

pub returns-clause-none : goal.returns-clause-none
returns-clause-none c = λ _ d pair.
    let least = c.loop-second.invariant d pair in
    let low = ltb-true d (width_of c.args.theory.now) (c.requires.scheme d pair.second) in
    let past = c.loop-second-test.false in
    let count = c.width-second-end.ensures.count in
    omega arith
