-- What is left to prove of `misuse_of`: its clause `first`.
use Rattle.std.proofs.Common.{sym, subst}
use Rattle.dep_model.specs.Deps.{dependency_of, dependencies_of}
use Rattle.derivation_text.specs.Views.{body_of_line}
use Rattle.derivation_mistakes.specs.Misuses.{IsMisuse}
use Rattle.derivation_mistakes.proofs.ReasonLemmas.{misuse_first}
use Rattle.derivation_mistakes.proofs.misusing.misuse_of.Goals as goal

pub returns : goal.returns
returns c = record {
  first = λ s gives.
      let before = dependencies_of c.args.before.now in
      let stated = dependency_of c.args.stated in
      let body = body_of_line c.args.body in
      subst (IsMisuse s before stated body) (sym c.named_misuse.ensures.exact)
      (misuse_first s before stated body c.args.kind gives);
}
