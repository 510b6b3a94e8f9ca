-- What is left to prove of `mreflexivity`: its clause `proves`.
use Rattle.std.proofs.Common.{subst, sym}
use Rattle.attr_sets.specs.Sets.{attributes}
use Rattle.dep_model.specs.Dependencies.{mvd}
use Rattle.derivation.specs.declared.deriv.Deriv.{Deriv}
use Rattle.derivation.specs.Derivs.{tree_of}
use Rattle.derivation.specs.Conclusions.{Proves}
use Rattle.derivation.proofs.ProvesLemmas.{mreflexivity_proves}
use Rattle.basis_proofs.proofs.makers.mreflexivity.Goals as goal

pub returns-clause-proves : goal.returns-clause-proves
returns-clause-proves c =
    let x = attributes c.args.lhs in
    let y = attributes c.args.rhs in
    let P : Deriv → Type 0 = λ d. Proves c.args.theory.now (tree_of d) (mvd x y) in
    subst P (sym c.in_ok-new.ensures.ok) (mreflexivity_proves c.args.theory.now x y c.requires.lhs c.requires.rhs)
