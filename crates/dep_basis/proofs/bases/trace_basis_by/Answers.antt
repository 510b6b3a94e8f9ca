-- What is left to prove of `trace_basis_by`: its clause `basis`, by `trace_basis-from`.
use Rattle.attr_sets.specs.Sets.{attributes}
use Rattle.dep_basis.proofs.BasisLemmas.{trace_basis-from}
use Rattle.dep_basis.proofs.bases.trace_basis_by.Goals as goal

pub returns : goal.returns
returns c = record {
  basis = trace_basis-from c.args.width c.args.deps.now (attributes c.args.scheme) (attributes c.args.lhs) c.traces.result c.requires.deps c.requires.scheme c.requires.lhs c.traces.ensures.traces;
}
