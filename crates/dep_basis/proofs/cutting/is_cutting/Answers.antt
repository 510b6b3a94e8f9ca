-- What is left to prove of `is_cutting`: its clause `cuts`.
use Rattle.std.proofs.Common.{sym, ap, ◌∙◌, inr, ⊎_elim}
use Rattle.std.proofs.lemmas.Bool.{true≢false, false_from_ne_true, not-true}
use Rattle.attr_sets.specs.Attributes.{Attributes, Intersects}
use Rattle.attr_sets.specs.Sets.{attributes}
use Rattle.attr_sets.specs.declared.set.TheConstants.{MOST_ATTRIBUTES}
use Rattle.attr_sets.proofs.AttributesLemmas.{attributes_below, tell_subset}
use Rattle.dep_model.specs.Deps.{dependency_of}
use Rattle.dep_basis.proofs.cutting.is_cutting.Goals as goal

pub returns-in-Mvd-clause-cuts : goal.returns-in-Mvd-clause-cuts
returns-in-Mvd-clause-cuts c differs =
    let d = dependency_of c.args.dep in
    let part = attributes c.args.part in
    let right = ap (λ (x : Attributes). x) c.sides.ensures.right in
    let shared : Intersects (attributes c.sides.result.1) part = c.intersects-else-intersects.ensures.intersects.0 c.if-not-intersects.false in
    record {
      apart = λ k m. false_from_ne_true (part k) (λ in_part.
          true≢false (sym (c.intersects.ensures.intersects.1 (k, ap (λ (x : Attributes). x k) c.sides.ensures.left ∙ m, in_part)) ∙ c.if-intersects.false));
      shares = (shared.0, shared.2, sym (ap (λ (x : Attributes). x shared.0) c.sides.ensures.right) ∙ shared.1);
      leaves = ⊎_elim
          (λ found. inr (found.0, found.2, sym (ap (λ (x : Attributes). x found.0) c.sides.ensures.right) ∙ found.3))
          (λ inside. absurd (true≢false (sym (c.is_subset.ensures.subset.1 inside) ∙ not-true c.is_subset.result differs)))
          (tell_subset MOST_ATTRIBUTES part (attributes c.sides.result.1) (attributes_below c.args.part));
    }
