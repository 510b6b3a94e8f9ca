-- What is left to prove of `closure_by`: its clause `closure`, where all are functional and, by
-- `rest_closed`, where not.
use Rattle.std.proofs.Common.{◌≡◌, ◌↔◌, ℕ, true, List, sym, subst, ◌∙◌}
use Rattle.attr_sets.specs.Sets.{attributes}
use Rattle.dep_model.specs.Dependencies.{Dependency}
use Rattle.dep_model.specs.Deps.{dependencies_of}
use Rattle.dep_model.specs.Keys.{InClosure}
use Rattle.attr_sets.proofs.AttributesLemmas.{same_at}
use Rattle.dep_basis.proofs.PieceLemmas.{rest_closed}
use Rattle.dep_basis.proofs.bases.closure_by.Goals as goal

pub returns-then-is_functional : goal.returns-then-is_functional
returns-then-is_functional c =
    let n = c.args.width in
    let x = attributes c.args.lhs in
    let closed = attributes c.functional_closure.result in
    record {
      closure = subst (λ (ds : List Dependency). (a : ℕ) → (closed a ≡ true) ↔ InClosure n ds x a)
          (c.is_functional.ensures.functional.0 c.if-is_functional.true)
          (c.functional_closure.ensures.closure n c.requires.deps c.requires.lhs);
    }

pub returns : goal.returns
returns c = record {
  closure = rest_closed c.args.width (dependencies_of c.args.deps.now) (attributes c.args.lhs) c.all_pieces-found.result c.all_pieces-found.ensures.pieces (attributes c.outside_all.result)
      (λ a. (
        (λ m. let h = (c.outside_all.ensures.members a).0 m in (sym (same_at c.full.ensures.members a) ∙ h.0, h.1)),
        (λ h. (c.outside_all.ensures.members a).1 (same_at c.full.ensures.members a ∙ h.0, h.1)),
      ));
}
