-- What the loop of `row_agreement` keeps: `agreed`.
use Rattle.std.proofs.Common.{◌≡◌}
use Rattle.attr_sets.specs.Sets.{attributes}
use Rattle.candidate_search.specs.Pairs.{same_codes}
use Rattle.candidate_search.proofs.pairs.row_agreement.Given as goal

abbrev pub invariant-loop-attribute : goal.invariant-loop-attribute
invariant-loop-attribute l = record {
  agreed : attributes l.agreed ≡ same_codes l.codes l.first l.second l.attribute;
}
