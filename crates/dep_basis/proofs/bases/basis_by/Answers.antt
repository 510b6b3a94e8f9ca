-- What is left to prove of `basis_by`: its clause `basis`, by `basis-from`.
use Rattle.std.proofs.Common.{subst}
use Rattle.attr_sets.specs.Attributes.{Attributes}
use Rattle.attr_sets.specs.Sets.{attributes}
use Rattle.dep_model.specs.Deps.{dependencies_of}
use Rattle.dep_basis.specs.Traces.{AreTraces}
use Rattle.dep_basis.proofs.BasisLemmas.{basis-from}
use Rattle.dep_basis.proofs.bases.basis_by.Goals as goal

pub returns : goal.returns
returns c =
    let n = c.args.width in
    let whole = c.full.ensures.members in
    record {
      basis = basis-from n c.args.deps.now (attributes c.args.lhs) c.traces.result c.requires.deps c.requires.lhs
          (subst (λ (scheme : Attributes). AreTraces n (dependencies_of c.args.deps.now) scheme (attributes c.args.lhs) c.traces.result) whole c.traces.ensures.traces);
    }
