-- What is left to prove of `closure_covering`: its clauses `part` and `covers`, by `part_inside`.
use Rattle.std.proofs.Common.{refl, ap, ◌∙◌, arith}
use Rattle.attr_sets.specs.Sets.{attributes}
use Rattle.attr_sets.specs.declared.set.AttrSet.{AttrSet}
use Rattle.dep_model.specs.Theories.{width_of, theory_of}
use Rattle.attr_sets.proofs.AttributesLemmas.{same_at}
use Rattle.preservation.proofs.KeepingLemmas.{part_inside}
use Rattle.preservation.proofs.scheme_closure.closure_covering.Goals as goal

pub returns-then-is_subset-2-clause-part : goal.returns-then-is_subset-2-clause-part
returns-then-is_subset-2-clause-part c k m =
    grind (arith, same_at c.intersection-part.ensures.members k, c.if-is_subset.ensures.subset.0 refl k m)

pub returns-then-is_subset-2-clause-covers : goal.returns-then-is_subset-2-clause-covers
returns-then-is_subset-2-clause-covers c k m = c.if-is_subset-2.ensures.subset.0 refl k (same_at c.intersection-part.ensures.members k ∙ m)

pub returns-else-is_subset-clause-covers : goal.returns-else-is_subset-clause-covers
returns-else-is_subset-clause-covers c k m =
    let s = c.args.theory.now in
    let new = c.closure_within.result in
    part_inside (width_of s) (theory_of s) (attributes new.scheme) (attributes new.part) (attributes new.closed)
    c.closure_within.ensures.known k
    (ap (λ (part : AttrSet). attributes part k) c.closure_within.ensures.part ∙ same_at c.intersection-part.ensures.members k ∙ m)
