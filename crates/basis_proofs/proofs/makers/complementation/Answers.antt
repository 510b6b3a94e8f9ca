-- What is left to prove of `complementation`: its clause `proves`.
use Rattle.std.proofs.Common.{subst, sym, refl, arith}
use mathlib.Core.Path.{fun_ext}
use Rattle.attr_sets.specs.Attributes.{union, difference}
use Rattle.attr_sets.specs.Sets.{attributes}
use Rattle.dep_model.specs.Dependencies.{mvd}
use Rattle.dep_model.specs.Theories.{universe_of}
use Rattle.derivation.specs.declared.deriv.Deriv.{Deriv}
use Rattle.derivation.specs.Trees.{complementation, step}
use Rattle.derivation.specs.Derivs.{tree_of}
use Rattle.derivation.specs.Conclusions.{Proves}
use Rattle.derivation.proofs.ProvesLemmas.{mvd_restated, complementation_proves}
use Rattle.basis_proofs.proofs.makers.complementation.Goals as goal

pub returns-clause-proves : goal.returns-clause-proves
returns-clause-proves c =
    let s = c.args.theory.now in
    let x = attributes c.args.lhs in
    let from = tree_of c.in_ok-from.from.value in
    let P : Deriv → Type 0 = λ d. Proves s (tree_of d) (mvd x (difference (universe_of s) x)) in
    subst P (sym c.in_ok-new.ensures.ok)
    (mvd_restated s (step complementation from) x (difference (universe_of s) (union x x)) x (difference (universe_of s) x)
    refl (fun_ext (λ k. grind arith))
    (complementation_proves s from x x c.in_ok-from.ensures.proves))
