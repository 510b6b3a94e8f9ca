-- What is left to prove of `first_pair`: its clauses `first` and `none`, what `second_beside`
-- requires, and that a round of its loop keeps the invariant, by `PairLemmas`.
use Rattle.std.proofs.Common.{ℕ, ◌≤◌, refl, subst}
use Rattle.attr_sets.specs.Sets.{attributes}
use Rattle.dep_model.specs.Theories.{width_of, theory_of}
use Rattle.wide_bcnf.proofs.PairLemmas.{none_before_next, second_from, first_from, no_pair_past_width}
use Rattle.wide_bcnf.proofs.pairs.first_pair.Goals as goal

pub second_beside-requires-clause-least : goal.second_beside-requires-clause-least
second_beside-requires-clause-least c =
    let s = c.args.theory.now in
    second_from (width_of s) (theory_of s)
    (attributes c.args.scheme) c.loop-first.first c.loop-first.least c.loop-first.invariant

pub loop-first-preserved : goal.loop-first-preserved
loop-first-preserved c =
    let s = c.args.theory.now in
    none_before_next (width_of s) (theory_of s)
    (attributes c.args.scheme) c.loop-first.first c.loop-first.least c.loop-first.invariant
    (c.in_default.ensures.none refl)

pub returns-in-Some-clause-first : goal.returns-in-Some-clause-first
returns-in-Some-clause-first c =
    let s = c.args.theory.now in
    first_from (width_of s) (theory_of s)
    (attributes c.args.scheme) c.loop-first.first c.loop-first.least c.in-Some.second c.loop-first.invariant
    c.in-Some.ensures.pair c.in-Some.ensures.least

pub returns-clause-none : goal.returns-clause-none
returns-clause-none c = λ _.
    let s = c.args.theory.now in
    no_pair_past_width (width_of s) (theory_of s)
    (attributes c.args.scheme) c.loop-first.first c.loop-first.least c.requires.scheme
    (subst (λ (n : ℕ). n ≤ c.loop-first.first) c.width-first-end.ensures.count c.loop-first-test.false)
    c.loop-first.invariant
