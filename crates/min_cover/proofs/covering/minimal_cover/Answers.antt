-- What is left to prove of `minimal_cover`: its clauses `fixed`, `minimal` and `within` and what
-- `nonredundant_from` requires, by `fixed_is_minimal`.
use Rattle.std.proofs.Common.{[], arith}
use Rattle.std.proofs.lemmas.Result.{IfOk-weaker}
use Rattle.attr_sets.specs.Attributes.{below}
use Rattle.dep_model.specs.Dependencies.{IsWithin}
use Rattle.dep_model.specs.Theories.{width_of, theory_of, deps_of}
use Rattle.dep_model.specs.Deps.{dependencies_of}
use Rattle.dep_model.proofs.DepLemmas.{dependencies_all-from}
use Rattle.min_cover.specs.Covers.{IsThinned, IsFixedCover, IsMinimalCover}
use Rattle.min_cover.proofs.CoverLemmas.{fixed_is_minimal}
use Rattle.min_cover.proofs.covering.minimal_cover.Goals as goal

pub nonredundant_from-requires-clause-width : goal.nonredundant_from-requires-clause-width
nonredundant_from-requires-clause-width c = omega (arith, c.width.ensures.count, c.args.theory.now.valid.within_limit)

pub nonredundant_from-requires-clause-within : goal.nonredundant_from-requires-clause-within
nonredundant_from-requires-clause-within c = rw c.width.ensures.count c.in_ok-members.ensures.left_reduced.within

pub returns-clause-fixed : goal.returns-clause-fixed
returns-clause-fixed c =
    let n = width_of c.args.theory.now in
    let ds = theory_of c.args.theory.now in
    let members = dependencies_of c.in_ok-members.members.items in
    let short = c.in_ok-members.ensures.left_reduced in
    let thinned = rw c.width.ensures.count at c.nonredundant_from.ensures.thinned in
    IfOk-weaker c.nonredundant_from.result (λ kept. IsThinned n [] members (dependencies_of kept.items)) (λ kept. IsFixedCover n ds (dependencies_of kept.items))
    (λ kept is. record { members = members; shortened = short.short; thinned = is }) thinned

pub returns-clause-minimal : goal.returns-clause-minimal
returns-clause-minimal c =
    let n = width_of c.args.theory.now in
    let ds = theory_of c.args.theory.now in
    let within = dependencies_all-from (IsWithin (below n)) (deps_of c.args.theory.now) c.args.theory.now.valid.deps_within in
    IfOk-weaker c.nonredundant_from.result (λ kept. IsFixedCover n ds (dependencies_of kept.items)) (λ kept. IsMinimalCover n ds (dependencies_of kept.items))
    (λ kept is. fixed_is_minimal n ds (dependencies_of kept.items) within is) (returns-clause-fixed c)

pub returns-clause-within : goal.returns-clause-within
returns-clause-within c = rw c.width.ensures.count at c.nonredundant_from.ensures.within
