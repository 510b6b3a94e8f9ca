-- What is left to prove of `may_begin`: where no dependency fits, that of a number does not.
use Rattle.std.proofs.Common.{List, subst, sym, ap, ◌∙◌}
use Rattle.std.proofs.lemmas.Option.{slice_get_within, get_or_from_slice_get}
use Rattle.std.proofs.lemmas.List.Elements.{All-get_or}
use Rattle.std.specs.Prelude.{All}
use Rattle.attr_sets.specs.Attributes.{Attributes, union, difference}
use Rattle.attr_sets.specs.Sets.{attributes}
use Rattle.dep_model.specs.declared.dep.Dep.{Dep}
use Rattle.dep_model.specs.Dependencies.{Dependency, left_of}
use Rattle.dep_model.specs.Deps.{dependency_of, dependencies_of}
use Rattle.dep_model.specs.Theories.{universe_of, theory_of}
use Rattle.short_proofs.specs.Short.{FitBeyond}
use Rattle.short_proofs.proofs.fitting.may_begin.Goals as goal

pub returns : goal.returns
returns c = record {
  none = λ j e no inside at fit.
      let s = c.args.theory.now in
      let d = dependency_of c.args.goal in
      let w = attributes c.args.middle in
      let P : Dependency → Type 0 = λ (f : Dependency). FitBeyond (attributes c.beyond-rest.result) d w f → ⊥ in
      let rest = c.beyond-rest.ensures.members ∙ ap (λ (x : Attributes). difference (universe_of s) (union w x)) c.sides.ensures.left in
      let all : All P (theory_of s) = subst (λ (ds : List Dep). All P (dependencies_of ds)) c.deps.ensures.deps (c.any_fits.ensures.none no) in
      subst P (get_or_from_slice_get (theory_of s) j e e at) (All-get_or P (theory_of s) j e (slice_get_within (theory_of s) j e at) all)
      (subst (λ (b : Attributes). FitBeyond b d w e) (sym rest) fit);
}

pub returns-then-cuts_both : goal.returns-then-cuts_both
returns-then-cuts_both c = record {
  none = λ j e no inside at fit.
      c.cuts_both.ensures.none (difference (universe_of c.args.theory.now) (union (attributes c.args.middle) (left_of (dependency_of c.args.goal)))) e c.if-cuts_both.true fit;
}
