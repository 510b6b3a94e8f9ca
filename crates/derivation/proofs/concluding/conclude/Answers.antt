-- What is left to prove of `conclude`: its clauses `proves`, `only`, `implied` and `within`, by
-- `ConclusionLemmas`, `SoundnessLemmas` and `WithinLemmas`.
use Rattle.std.proofs.Common.{◌≡◌, sym, ◌∙◌}
use Rattle.std.specs.Prelude.{Result, Ok, Err, IfOk}
use Rattle.dep_model.specs.declared.dep.Dep.{Dep}
use Rattle.dep_model.specs.Theories.{Theory}
use Rattle.dep_model.specs.Dependencies.{Dependency, IsWithin}
use Rattle.dep_model.specs.Deps.{dependency_of}
use Rattle.dep_model.specs.Theories.{universe_of, ImpliedBy}
use Rattle.derivation.specs.declared.fault.Fault.{Fault}
use Rattle.derivation.specs.Trees.{Tree}
use Rattle.derivation.specs.Derivs.{tree_of, outcome_of}
use Rattle.derivation.specs.Conclusions.{Proves, conclusion_after}
use Rattle.derivation.proofs.ConclusionLemmas.{conclusion_after-proves, conclusion_after-from}
use Rattle.derivation.proofs.SoundnessLemmas.{proved_is_implied}
use Rattle.derivation.proofs.WithinLemmas.{tree_of-attributes, conclusion_within}
use Rattle.derivation.proofs.concluding.conclude.Goals as goal

-- what holds of all that a tree proves holds of what is concluded
of_proved : (P : Dependency → Type 0) (s : Theory) (t : Tree) (r : Result Dep Fault) → outcome_of r ≡ conclusion_after s 0 t
    → ((d : Dependency) → Proves s t d → P d) → IfOk r (λ d. P (dependency_of d))
of_proved P s t (Ok d) exact each = each (dependency_of d) (conclusion_after-proves s 0 t (dependency_of d) (sym exact))
of_proved P s t (Err e) exact each = tt {0}

pub returns-clause-proves : goal.returns-clause-proves
returns-clause-proves c =
    let s = c.args.theory.now in
    let t = tree_of c.args.deriv.now in
    of_proved (Proves s t) s t c.conclude_after.result c.conclude_after.ensures.exact (λ d proves. proves)

pub returns-clause-only : goal.returns-clause-only
returns-clause-only c d proves = c.conclude_after.ensures.exact ∙ conclusion_after-from c.args.theory.now 0 (tree_of c.args.deriv.now) d proves

pub returns-clause-implied : goal.returns-clause-implied
returns-clause-implied c =
    let s = c.args.theory.now in
    let t = tree_of c.args.deriv.now in
    of_proved (ImpliedBy s) s t c.conclude_after.result c.conclude_after.ensures.exact (proved_is_implied s t)

pub returns-clause-within : goal.returns-clause-within
returns-clause-within c =
    let s = c.args.theory.now in
    let t = tree_of c.args.deriv.now in
    of_proved (IsWithin (universe_of s)) s t c.conclude_after.result c.conclude_after.ensures.exact
    (λ d. conclusion_within s t d (tree_of-attributes c.args.deriv.now))
