-- What is left to prove of `closed_set`: what it answers, case by case.
use Rattle.std.proofs.Common.{◌≡◌, ◌↔◌, ℕ, Bool, true, sym, subst}
use Rattle.attr_sets.specs.Sets.{attributes}
use Rattle.dep_model.specs.Keys.{InClosure}
use Rattle.dep_model.specs.Theories.{width_of}
use Rattle.fd_closure.proofs.SchemaLemmas.{functional_closure_of_schema}
use Rattle.normal_forms.specs.Passing.{theory_by}
use Rattle.normal_forms.proofs.passing.closed_set.Goals as goal

pub returns-then-functional : goal.returns-then-functional
returns-then-functional c =
    let s = c.args.theory.now in
    let x = attributes c.args.lhs in
    let closed = attributes c.functional_closure.result in
    record {
      closure = subst (λ (b : Bool). (a : ℕ) → (closed a ≡ true) ↔ InClosure (width_of s) (theory_by b s) x a) (sym c.if-functional.true)
          (functional_closure_of_schema s c.deps.result.now c.deps.ensures.deps x closed c.requires.lhs c.functional_closure.ensures.closure);
    }

pub returns-else-functional : goal.returns-else-functional
returns-else-functional c =
    let s = c.args.theory.now in
    let x = attributes c.args.lhs in
    let closed = attributes c.closure.result in
    record {
      closure = subst (λ (b : Bool). (a : ℕ) → (closed a ≡ true) ↔ InClosure (width_of s) (theory_by b s) x a) (sym c.if-functional.false)
          c.closure.ensures.closure;
    }
