-- What is left to prove of `is_said`: that a link says the dependency.
use Rattle.std.proofs.Common.{subst}
use Rattle.std.specs.Prelude.{Contains}
use Rattle.std.proofs.lemmas.List.Elements.{Contains-get_or}
use Rattle.short_derivations.specs.Links.{said_by}
use Rattle.short_derivations.proofs.LinkLemmas.{said_one}
use Rattle.short_derivations.proofs.checking.is_said.Goals as goal

pub returns-then-same_dep : goal.returns-then-same_dep
returns-then-same_dep c = record {
  said = λ _. subst (Contains (said_by c.args.links.now)) (c.same_dep.ensures.same.0 c.if-same_dep.true)
      (said_one c.args.links.now _ (Contains-get_or c.args.links.now c.loop-link.link-index _ c.loop-link-test.true));
}
