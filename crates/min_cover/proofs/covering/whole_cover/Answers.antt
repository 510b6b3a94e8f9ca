-- What is left to prove of `whole_cover`: its clauses `fixed`, `whole_cover`, `minimal` and
-- `within` and what `nonredundant_from` requires, by `CoverLemmas` and `ThinningLemmas`.
use Rattle.std.proofs.Common.{◌≡◌, List, ◌++◌, length, take, drop, sym, ap, subst, arith}
use Rattle.std.proofs.lemmas.List.{length-take}
use Rattle.std.proofs.lemmas.Result.{IfOk-weaker}
use Rattle.std.specs.Prelude.{All}
use Rattle.attr_sets.specs.Attributes.{below}
use Rattle.dep_model.specs.declared.dep.Dep.{Dep}
use Rattle.dep_model.specs.Dependencies.{IsWithin, functional_part}
use Rattle.dep_model.specs.Theories.{width_of, theory_of, deps_of}
use Rattle.dep_model.specs.Deps.{dependencies_of, IsDepWithin}
use Rattle.dep_model.proofs.DepLemmas.{dependencies_all-from}
use Rattle.min_cover.specs.Covers.{IsThinned, IsFixedWholeCover, IsMinimalCover, IsWholeCover, multivalued_part}
use Rattle.min_cover.proofs.ThinningLemmas.{added_later, thinned_after}
use Rattle.min_cover.proofs.CoverLemmas.{fixed_is_whole, whole_is_minimal}
use Rattle.min_cover.proofs.covering.whole_cover.Goals as goal

pub nonredundant_from-requires-clause-width : goal.nonredundant_from-requires-clause-width
nonredundant_from-requires-clause-width c = omega (arith, c.width.ensures.count, c.args.theory.now.valid.within_limit)

pub nonredundant_from-requires-clause-from : goal.nonredundant_from-requires-clause-from
nonredundant_from-requires-clause-from c =
    let cover = c.in_ok-cover.cover.items in
    let others = c.add_multivalued.new.others.items in
    omega (arith, c.len-from.ensures, c.in_ok-cover.cover.ok.0, length-take (length cover) others, ap (λ (ds : List Dep). length ds) c.in_ok-add_multivalued.ensures.front)

pub nonredundant_from-requires-clause-within : goal.nonredundant_from-requires-clause-within
nonredundant_from-requires-clause-within c =
    let n = width_of c.args.theory.now in
    let deps_in : All (IsDepWithin (below n)) c.deps.result.now = subst (λ (ds : List Dep). All (IsDepWithin (below n)) ds) (sym c.deps.ensures.deps) c.args.theory.now.valid.deps_within in
    rw c.width.ensures.count (c.in_ok-add_multivalued.ensures.within n c.in_ok-cover.ensures.within deps_in)

pub returns-clause-fixed : goal.returns-clause-fixed
returns-clause-fixed c =
    let n = width_of c.args.theory.now in
    let ds = theory_of c.args.theory.now in
    let cover = c.in_ok-cover.cover.items in
    let others = c.add_multivalued.new.others.items in
    let from_is : c.len-from.result ≡ length cover = omega (arith, c.len-from.ensures, c.in_ok-cover.cover.ok.0) in
    let added = subst (λ (es : List Dep). dependencies_of others ≡ dependencies_of cover ++ multivalued_part (dependencies_of es)) c.deps.ensures.deps c.in_ok-add_multivalued.ensures.added in
    IfOk-weaker c.nonredundant_from.result (λ kept. IsThinned c.width.result (dependencies_of (take c.len-from.result others)) (dependencies_of (drop c.len-from.result others)) (dependencies_of kept.items))
    (λ kept. IsFixedWholeCover n ds (dependencies_of kept.items))
    (λ kept is. record {
      cover = dependencies_of cover;
      fixed = c.in_ok-cover.ensures.fixed;
      thinned = thinned_after n c.width.result c.len-from.result cover others (multivalued_part ds) (dependencies_of kept.items) c.width.ensures.count from_is c.in_ok-add_multivalued.ensures.front
          (added_later cover others (multivalued_part ds) added) is;
    })
    c.nonredundant_from.ensures.thinned

pub returns-clause-whole_cover : goal.returns-clause-whole_cover
returns-clause-whole_cover c =
    let n = width_of c.args.theory.now in
    let ds = theory_of c.args.theory.now in
    let within = dependencies_all-from (IsWithin (below n)) (deps_of c.args.theory.now) c.args.theory.now.valid.deps_within in
    IfOk-weaker c.nonredundant_from.result (λ kept. IsFixedWholeCover n ds (dependencies_of kept.items)) (λ kept. IsWholeCover n ds (dependencies_of kept.items))
    (λ kept is. fixed_is_whole n ds (dependencies_of kept.items) within is) (returns-clause-fixed c)

pub returns-clause-minimal : goal.returns-clause-minimal
returns-clause-minimal c =
    let n = width_of c.args.theory.now in
    let ds = theory_of c.args.theory.now in
    let within = dependencies_all-from (IsWithin (below n)) (deps_of c.args.theory.now) c.args.theory.now.valid.deps_within in
    IfOk-weaker c.nonredundant_from.result (λ kept. IsFixedWholeCover n ds (dependencies_of kept.items))
    (λ kept. IsMinimalCover n ds (functional_part (dependencies_of kept.items)))
    (λ kept is. whole_is_minimal n ds (dependencies_of kept.items) within is) (returns-clause-fixed c)

pub returns-clause-within : goal.returns-clause-within
returns-clause-within c = rw c.width.ensures.count at c.nonredundant_from.ensures.within
