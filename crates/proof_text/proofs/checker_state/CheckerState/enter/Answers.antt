-- What is left to prove of `CheckerState::enter`: its clause `within`.
use Rattle.std.proofs.Common.{◌≡◌, Result, Ok, Err, refl}
use Rattle.std.specs.Prelude.{IfOk}
use Rattle.dep_model.specs.declared.dep.Dep.{Dep}
use Rattle.schema_model.specs.Schemas.{Schema, theory_in}
use Rattle.dep_model.specs.Dependencies.{Dependency}
use Rattle.dep_model.specs.Deps.{dependency_of, IsDepWithin}
use Rattle.schema_model.specs.Schemas.{universe_of}
use Rattle.derivation.specs.declared.deriv.Deriv.{Deriv}
use Rattle.derivation.specs.declared.fault.FaultKind.{FaultKind}
use Rattle.derivation.specs.Trees.{Tree}
use Rattle.derivation.specs.Derivs.{tree_of}
use Rattle.derivation.specs.Conclusions.{Proves}
use Rattle.derivation.proofs.WithinLemmas.{tree_of-attributes, conclusion_within}
use Rattle.proof_text.specs.Outcomes.{concluded_outcome}
use Rattle.proof_text.specs.Views.{body_of, opened_all}
use Rattle.proof_grammar.proofs.CheckedLemmas.{prepared_is}
use Rattle.proof_text.proofs.checker_state.CheckerState.enter.Goals as goal

-- what a node concludes lies within the universe
outcome_within : (s : Schema) (outcome : Result (Deriv × Dep) FaultKind) → ((t : Tree) (d : Dependency) → concluded_outcome outcome ≡ Ok (t, d) → Proves (theory_in s) t d) → IfOk outcome (λ x. IsDepWithin (universe_of s) x.1)
outcome_within s (Ok x) proves = conclusion_within (theory_in s) (tree_of x.0) (dependency_of x.1) (tree_of-attributes x.0) (proves (tree_of x.0) (dependency_of x.1) refl)
outcome_within s (Err why) proves = tt {0}

pub returns-in-Err-clause-within : goal.returns-in-Err-clause-within
returns-in-Err-clause-within c = c.in-Err.ensures.within (universe_of c.args.schema.now)

pub returns-in-Err-check_limits-clause-within : goal.returns-in-Err-check_limits-clause-within
returns-in-Err-check_limits-clause-within c =
    let s = c.args.schema.now in
    let is = prepared_is s (opened_all c.args.self.now.unused.items) (dependency_of c.args.line.now.stated) (body_of c.args.line.now.body) _ c.requires.checker_state.stand c.in-Ok.ensures.ok in
    c.in-Err-check_limits.ensures.within (universe_of s) c.requires.within (outcome_within s c.in-Ok.node.outcome is.proves)
