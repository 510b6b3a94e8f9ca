-- What is left to prove of `first_evidence`: its clause `evidence`.
use Rattle.std.proofs.Common.{sym, subst, ◌∙◌, ap}
use Rattle.std.proofs.lemmas.List.{map-append}
use Rattle.std.proofs.lemmas.List.Elements.{All-append}
use Rattle.attr_sets.specs.Sets.{attributes}
use Rattle.candidate_sets.specs.Evidence.{AreEvidence, IsEvidence}
use Rattle.dep_model.specs.Plans.{schemes_of}
use Rattle.candidate_search.proofs.sampling.first_evidence.Goals as goal

pub returns : goal.returns
returns c = record {
  evidence = λ r coded seen.
      subst (AreEvidence c.args.width r)
      (sym (ap schemes_of c.in_ok-extend_from_slice.ensures.items ∙ map-append attributes c.in_ok-found.found.items c.args.seen.now))
      (All-append (IsEvidence c.args.width r) (schemes_of c.in_ok-found.found.items) (schemes_of c.args.seen.now)
      (c.in_ok-found.ensures.evidence r coded) seen);
}
