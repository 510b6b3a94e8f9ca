-- What is left to prove of `sides_in`: its clauses `within` and `added`, by
-- `AddedLemmas`.
use Rattle.std.proofs.Common.{◌≡◌, ℕ, ◌↔◌, true, List, subst, arith}
use Rattle.attr_sets.specs.Sets.{attributes}
use Rattle.dep_model.specs.declared.dep.Dep.{Dep}
use Rattle.dep_model.specs.Dependencies.{functional_part}
use Rattle.dep_model.specs.Deps.{dependencies_of}
use Rattle.dep_model.specs.Theories.{width_of, theory_of, deps_of}
use Rattle.attr_sets.proofs.AttributesLemmas.{same_at}
use Rattle.fd_closure.specs.LeftSides.{InLeftSideWithin}
use Rattle.fd_closure.proofs.SchemaLemmas.{functional_closure_of_schema}
use Rattle.fd_closure.proofs.LeftSideLemmas.{within_each}
use Rattle.normal_forms.proofs.AddedLemmas.{functional_twice, functional_within, added_functional}
use Rattle.which_form.proofs.ranges.sides_in.Goals as goal

pub returns : goal.returns
returns c =
    let s = c.args.theory.now in
    let n = width_of s in
    let fs = functional_part (theory_of s) in
    let scheme = attributes c.args.scheme in
    let reach = attributes c.functional_closure-reach.result in
    let lefts = attributes c.functional_left_attributes.result in
    let closed = functional_closure_of_schema s c.deps.result.now c.deps.ensures.deps scheme reach c.requires.scheme c.functional_closure-reach.ensures.closure in
    let members = subst (λ (es : List Dep). (a : ℕ) → (lefts a ≡ true) ↔ InLeftSideWithin reach (functional_part (dependencies_of es)) a) c.deps-2.ensures.deps
    c.functional_left_attributes.ensures.members in
    let each = within_each fs reach lefts (λ a h. (members a).1 h) in
    record {
      within = λ k m. grind (arith, same_at c.intersection.ensures.members k, m);
      added = added_functional n fs scheme reach lefts (attributes c.intersection.result) (functional_within n (deps_of s) s.valid.deps_within) (functional_twice (theory_of s)) c.requires.scheme
          (λ a h. (closed a).1 h) each c.intersection.ensures.members;
    }
