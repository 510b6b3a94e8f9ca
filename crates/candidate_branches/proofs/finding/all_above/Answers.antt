-- What is left to prove of `all_above`: its clause where all are found, by `FindLemmas`.
use Rattle.std.proofs.Common.{List, sym, subst}
use Rattle.std.specs.Prelude.{All}
use Rattle.std.proofs.lemmas.List.Elements.{All-nil}
use Rattle.std.proofs.lemmas.List.Filters.{dedup_is}
use Rattle.attr_sets.specs.declared.set.AttrSet.{AttrSet}
use Rattle.dep_model.specs.Plans.{schemes_of}
use Rattle.candidate_branches.specs.Branches.{AddsAbove, HasNumber}
use Rattle.candidate_branches.proofs.FindLemmas.{all_in_order, same_number}
use Rattle.candidate_branches.proofs.finding.all_above.Goals as goal

pub returns : goal.returns
returns c = record {
  all = λ most a es is.
      all_in_order c.args.width most a es c.args.branch.now c.add_above.new.found.items c.sort_unstable.new.self.items c.dedup.new.self.items
      c.sort_unstable.ensures.permutation c.sort_unstable.ensures.sorted (dedup_is same_number _ _ c.dedup.ensures.filtered)
      (c.in-Ok.ensures.numbers (subst (λ (sets : List AttrSet). All HasNumber sets) (sym c.new-found.ensures.items) (All-nil HasNumber)))
      (subst (λ (sets : List AttrSet). AddsAbove c.args.width most a es c.args.branch.now (schemes_of sets) (schemes_of c.add_above.new.found.items))
      c.new-found.ensures.items (c.in-Ok.ensures.added most a es is));
}
