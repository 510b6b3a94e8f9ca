-- What is left to prove of `shorten`: its clause `level_bound`, by `part-depth`.
use Rattle.std.proofs.Common.{subst, refl, arith}
use Rattle.dep_model.specs.Deps.{dependency_of}
use Rattle.derivation.specs.declared.deriv.Deriv.{Deriv}
use Rattle.derivation.specs.Derivs.{tree_of}
use Rattle.derivation.specs.Conclusions.{Proves}
use Rattle.derivation.proofs.ShorteningLemmas.{part-depth}
use Rattle.derivation.proofs.shortening.shorten.Goals as goal

pub returns-in-Ok-clause-level_bound : goal.returns-in-Ok-clause-level_bound
returns-in-Ok-clause-level_bound c =
    let P : Deriv → Type 0 = λ d. Proves c.args.theory.now (tree_of d) (dependency_of c.in-Ok.dep) in
    let least = c.least_of.ensures.least (tree_of c.args.deriv.value) (record { same = refl; only = subst P c.deref.ensures c.in-Ok.ensures.proves }) in
    omega (arith, c.shorten_all.ensures.shortened.level_bound, part-depth (tree_of c.least_of.result.deriv.value) (tree_of c.args.deriv.value) least.part)
