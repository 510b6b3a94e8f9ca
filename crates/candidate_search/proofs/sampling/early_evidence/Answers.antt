-- What is left to prove of `early_evidence`: its clause `evidence`, whatever the order of the sets.
use Rattle.std.proofs.lemmas.Map.Views.{All-map-IsPermutation}
use Rattle.attr_sets.specs.Sets.{attributes}
use Rattle.candidate_sets.specs.Evidence.{IsEvidence}
use Rattle.candidate_search.proofs.sampling.early_evidence.Goals as goal

pub returns : goal.returns
returns c = record {
  evidence = λ r coded.
      All-map-IsPermutation attributes (IsEvidence c.args.width r) c.sort_by_key.new.self.items c.reverse.new.self.items
      c.reverse.ensures.permutation
      (All-map-IsPermutation attributes (IsEvidence c.args.width r) c.in_ok-found.found.items c.sort_by_key.new.self.items
      c.in_ok-sort_by_key.ensures.permutation (c.in_ok-found.ensures.evidence r coded));
}
