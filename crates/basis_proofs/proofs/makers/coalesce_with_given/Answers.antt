-- What is left to prove of `coalesce_with_given`: its clause `proves`.
use Rattle.std.proofs.Common.{subst, sym, refl, arith}
use Rattle.std.proofs.lemmas.Bool.Decides.{nat_tests}
use Rattle.attr_sets.specs.Attributes.{only}
use Rattle.attr_sets.specs.Sets.{attributes}
use Rattle.dep_model.specs.Dependencies.{fd}
use Rattle.derivation.specs.declared.deriv.Deriv.{Deriv}
use Rattle.derivation.specs.Trees.{coalescence, pair}
use Rattle.derivation.specs.Derivs.{tree_of}
use Rattle.derivation.specs.Conclusions.{Proves}
use Rattle.attr_sets.proofs.AttributesLemmas.{same_at}
use Rattle.derivation.proofs.ProvesLemmas.{fd_restated, transitivity_proves, coalescence_proves}
use Rattle.basis_proofs.proofs.makers.coalesce_with_given.Goals as goal

pub returns-clause-proves : goal.returns-clause-proves
returns-clause-proves c x w v apart member first second =
    let s = c.args.theory.now in
    let t = attributes c.args.rhs in
    let a = c.args.attribute in
    let part = tree_of c.args.part.value in
    let given = tree_of c.args.given.value in
    let only_tree = tree_of c.in_ok-only.only.value in
    let gives = c.in_ok-gives.gives in
    let alone = attributes c.single.result in
    let Q : Deriv → Type 0 = λ d. Proves s (tree_of d) (fd v alone) in
    let gives_proves : Proves s (tree_of gives.value) (fd v alone) =
    subst Q (sym c.in_ok-gives.ensures.ok) (transitivity_proves s given only_tree v t t alone refl second c.in_ok-only.ensures.proves) in
    let P : Deriv → Type 0 = λ d. Proves s (tree_of d) (fd x (only a)) in
    subst P (sym c.in_ok-new.ensures.ok)
    (fd_restated s (pair coalescence part (tree_of gives.value)) x alone x (only a) refl c.single.ensures.members
    (coalescence_proves s part (tree_of gives.value) x w v alone (λ k m. grind (arith, nat_tests, same_at c.single.ensures.members k, m, member)) apart first gives_proves))
