-- What is left to prove of `conclude_pair`: its clause `concluded`.
use Rattle.std.proofs.Common.{ap, ◌∙◌}
use Rattle.derivation.specs.Trees.{Tree, pair}
use Rattle.derivation.specs.Derivs.{tree_of, pair_of}
use Rattle.derivation.proofs.shortening.conclude_pair.Goals as goal

pub returns : goal.returns
returns c = record {
  concluded = λ s t u first second.
      let rule = pair_of c.args.rule in
      record {
        same = ap (λ (v : Tree). pair rule v (tree_of c.args.second.deriv.value)) first.same ∙ ap (λ (v : Tree). pair rule t v) second.same;
        only = c.pair_dep-dep.ensures.only s t u first.only second.only;
      };
}
