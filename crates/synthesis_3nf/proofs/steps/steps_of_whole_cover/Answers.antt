-- What is left to prove of `steps_of_whole_cover`: what `steps_of_cover` requires, by `part_is_fixed`.
use Rattle.std.proofs.Common.{List, sym, subst}
use Rattle.attr_sets.specs.Attributes.{below}
use Rattle.dep_model.specs.Dependencies.{Dependency, IsWithin}
use Rattle.dep_model.specs.Deps.{dependencies_of}
use Rattle.dep_model.specs.Theories.{width_of, theory_of, deps_of}
use Rattle.dep_model.proofs.DepLemmas.{dependencies_all-from}
use Rattle.min_cover.specs.Covers.{IsFixedCover, IsMinimalCover}
use Rattle.synthesis_3nf.proofs.PartLemmas.{part_is_fixed}
use Rattle.synthesis_3nf.proofs.steps.steps_of_whole_cover.Goals as goal

pub steps_of_cover-requires : goal.steps_of_cover-requires
steps_of_cover-requires c =
    let s = c.args.theory.now in
    let n = width_of s in
    let ds = theory_of s in
    let within = dependencies_all-from (IsWithin (below n)) (deps_of s) s.valid.deps_within in
    record {
      fixed = subst (λ (es : List Dependency). IsFixedCover n ds es) (sym c.in_ok-cover.ensures.part)
          (part_is_fixed n ds (dependencies_of c.args.whole.now) within c.requires.fixed);
      minimal = subst (λ (es : List Dependency). IsMinimalCover n ds es) (sym c.in_ok-cover.ensures.part) c.requires.minimal;
      within = c.in_ok-cover.ensures.within (below n) c.requires.within;
    }
