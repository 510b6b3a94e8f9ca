-- What is left to prove of `least_determined`: its clause.
use Rattle.std.proofs.Common.{◌≡◌, ◌↔◌, ℕ, true, refl, sym, ◌∙◌, arith}
use Rattle.std.proofs.lemmas.Bool.{true≢false}
use Rattle.attr_sets.specs.Attributes.{intersection}
use Rattle.attr_sets.specs.Sets.{attributes}
use Rattle.attr_sets.proofs.AttributesLemmas.{same_at}
use Rattle.dep_model.specs.Keys.{InClosure}
use Rattle.dep_model.specs.Theories.{width_of}
use Rattle.fd_closure.proofs.SchemaLemmas.{functional_closure_of_schema}
use Rattle.which_form.specs.KeyRanges.{functional_of}
use Rattle.which_form.proofs.second.least_determined.Goals as goal
use Rattle.which_form.proofs.second.least_determined.Goals.{After-intersection-determined}

-- what was found is the closure
exact : (c : After-intersection-determined) → (a : ℕ) → (attributes c.functional_closure.result a ≡ true)
    ↔ InClosure (width_of c.args.theory.now) (functional_of c.args.theory.now) (attributes c.args.lhs) a
exact c = functional_closure_of_schema c.args.theory.now c.deps.result.now c.deps.ensures.deps (attributes c.args.lhs) (attributes c.functional_closure.result)
    c.requires.lhs c.functional_closure.ensures.closure

pub returns-in-Some : goal.returns-in-Some
returns-in-Some c =
    let closed = exact (goal.at.returns-in-Some c).After-intersection-determined in
    let is = c.intersection-determined.ensures.members in
    let first = c.in-Some.ensures.first in
    let both : intersection (attributes c.functional_closure.result) (attributes c.args.wanted) c.in-Some.attribute ≡ true = sym (same_at is c.in-Some.attribute) ∙ first.member in
    record {
      least = record {
        attribute = c.in-Some.attribute;
        member = grind (arith, both);
        determined = (closed c.in-Some.attribute).0 (grind (arith, both));
        least = λ a less wanted determined.
            let there = (closed a).1 determined in
            let out = first.least a (omega arith) less in
            true≢false (sym (same_at is a ∙ grind (arith, wanted, there)) ∙ out);
        right = c.single.ensures.members;
      };
    }

pub returns-in-None : goal.returns-in-None
returns-in-None c =
    let closed = exact (goal.at.returns-in-None c).After-intersection-determined in
    let is = c.intersection-determined.ensures.members in
    let one = c.requires.determines in
    let there = (closed one.0).1 one.2 in
    let nothing = c.in-None.ensures.none.0 refl one.0 in
    let wanted = one.1 in
    absurd (true≢false (sym (same_at is one.0 ∙ grind (arith, wanted, there)) ∙ nothing))
