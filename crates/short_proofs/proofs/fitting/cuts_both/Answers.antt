-- What is left to prove of `cuts_both`: where it answers so, the first part of the fit fails.
use Rattle.std.proofs.Common.{subst}
use Rattle.std.proofs.lemmas.Bool.{not-true}
use Rattle.attr_sets.specs.Sets.{attributes}
use Rattle.dep_model.specs.declared.dep.Dep.{Dep}
use Rattle.dep_model.specs.Deps.{dependency_of}
use Rattle.short_proofs.specs.Short.{FitBeyond}
use Rattle.short_proofs.proofs.fitting.cuts_both.Goals as goal

pub returns-in-Mvd : goal.returns-in-Mvd
returns-in-Mvd c = record {
  none = λ b e both fit.
      let here = subst (λ (g : Dep). FitBeyond b (dependency_of g) (attributes c.args.middle) e) c.in-Mvd.is fit in
      c.is_one_sided.ensures.none (not-true c.is_one_sided.result both) here.0;
}
