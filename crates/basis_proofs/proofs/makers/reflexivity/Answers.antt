-- What is left to prove of `reflexivity`: its clause `proves`.
use Rattle.std.proofs.Common.{subst, sym}
use Rattle.attr_sets.specs.Sets.{attributes}
use Rattle.dep_model.specs.Dependencies.{fd}
use Rattle.derivation.specs.declared.deriv.Deriv.{Deriv}
use Rattle.derivation.specs.Derivs.{tree_of}
use Rattle.derivation.specs.Conclusions.{Proves}
use Rattle.derivation.proofs.ProvesLemmas.{reflexivity_proves}
use Rattle.basis_proofs.proofs.makers.reflexivity.Goals as goal

pub returns-clause-proves : goal.returns-clause-proves
returns-clause-proves c =
    let x = attributes c.args.lhs in
    let y = attributes c.args.rhs in
    let P : Deriv → Type 0 = λ d. Proves c.args.theory.now (tree_of d) (fd x y) in
    subst P (sym c.in_ok-new.ensures.ok) (reflexivity_proves c.args.theory.now x y c.requires.lhs c.requires.rhs)
