-- What is left to prove of `is_not_needed_on_right`: what it answers in the cases `Fd` and `Mvd`.
use Rattle.std.proofs.Common.{◌≡◌, ◌↔◌, Bool, refl, sym, ap, subst, ◌∙◌}
use Rattle.std.specs.Prelude.{IfOk, IsTrue}
use Rattle.std.proofs.lemmas.Bool.{false≢true}
use Rattle.attr_sets.specs.Sets.{attributes}
use Rattle.dep_model.specs.declared.dep.Dep.{Dep}
use Rattle.dep_model.specs.declared.dep.Dep.TheVariants.{Fd}
use Rattle.dep_model.specs.Dependencies.{Dependency, fd, mvd}
use Rattle.dep_model.specs.Deps.{dependency_of}
use Rattle.dep_model.specs.Theories.{width_of, theory_of}
use Rattle.cover_accounts.specs.CoverDiagnostics.{IsNotNeededOnRight}
use Rattle.cover_accounts.proofs.GatheringLemmas.{read_at, there_is}
use Rattle.cover_accounts.proofs.needless.is_not_needed_on_right.Goals as goal

abbrev first : Dep
first = Fd (record { 0 = 0 }) (record { 0 = 0 })

pub returns-in-Fd : goal.returns-in-Fd
returns-in-Fd c = record {
  not_needed = λ d read.
      let s = c.args.theory.now in
      let n = width_of s in
      let ds = theory_of s in
      let k = c.args.k in
      let at = read_at s c.deps.result.now k first c.deps.ensures.deps c.requires.position in
      let same : fd (attributes c.in-Fd.lhs) (attributes c.in-Fd.rhs) ≡ d = sym (ap dependency_of c.in-Fd.is) ∙ there_is ds k k _ d at refl read in
      subst (λ (e : Dependency). IfOk c.is_spare.result (λ spare. IsTrue spare ↔ IsNotNeededOnRight n ds k e c.args.attribute)) same
      c.is_spare.ensures.not_needed;
}

pub returns-in-Mvd : goal.returns-in-Mvd
returns-in-Mvd c = record {
  not_needed = λ d read.
      let s = c.args.theory.now in
      let n = width_of s in
      let ds = theory_of s in
      let k = c.args.k in
      let at = read_at s c.deps.result.now k first c.deps.ensures.deps c.requires.position in
      let same : mvd (attributes c.in-Mvd.lhs) (attributes c.in-Mvd.rhs) ≡ d = sym (ap dependency_of c.in-Mvd.is) ∙ there_is ds k k _ d at refl read in (
        (λ told. absurd (false≢true told)),
        (λ spare. absurd (subst (λ (e : Dependency). IsNotNeededOnRight n ds k e c.args.attribute) (sym same) spare)),
      );
}
