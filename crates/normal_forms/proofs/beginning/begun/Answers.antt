-- What is left to prove of `begun`: its clause `begun`, where the set holds the part and where it does not.
use Rattle.std.proofs.Common.{sym, subst}
use Rattle.attr_sets.specs.Attributes.{Attributes}
use Rattle.attr_sets.specs.Sets.{attributes}
use Rattle.normal_forms.specs.Beginning.{IsBegun}
use Rattle.normal_forms.proofs.BeginLemmas.{begun_with, begun_bare}
use Rattle.normal_forms.proofs.beginning.begun.Goals as goal

pub returns-then-is_subset : goal.returns-then-is_subset
returns-then-is_subset c = record {
  begun = λ by s known low. subst (λ (b : Attributes). IsBegun by s (attributes c.args.set) b) (sym c.union.ensures.members)
      (begun_with by s c.args.part (attributes c.args.set) known low (c.is_subset.ensures.subset.0 c.if-is_subset.true));
}

pub returns-else-is_subset : goal.returns-else-is_subset
returns-else-is_subset c = record { begun = λ by s known low. begun_bare by s (attributes c.args.set) low }
