-- What is left to prove of `decide_by`: its clause `decision`, by `breaking_broken`.
use Rattle.std.proofs.Common.{arith}
use mathlib.Core.Path.{fun_ext}
use Rattle.attr_sets.specs.Sets.{attributes}
use Rattle.dep_model.specs.Deps.{dependency_of}
use Rattle.attr_sets.proofs.AttributesLemmas.{same_at}
use Rattle.dep_basis.proofs.DecidingLemmas.{breaking_broken}
use Rattle.dep_basis.proofs.deciding.decide_by.Goals as goal

pub returns-in-Some-clause-decision : goal.returns-in-Some-clause-decision
returns-in-Some-clause-decision c =
    breaking_broken c.args.width c.args.deps.now (dependency_of c.args.dep) (attributes c.difference.result) (attributes c.in-Some.block)
    c.requires.deps c.requires.within c.in-Some.ensures.block
    (fun_ext (λ k. grind (arith, same_at c.difference.ensures.members k, same_at c.full.ensures.members k)))
