-- What is left to prove of `row_agreement`: its clause `agreement`, by `PairLemmas`.
use Rattle.std.proofs.Common.{◌≡◌, ℕ, ap, ◌∙◌, arith}
use Rattle.candidate_search.specs.Pairs.{same_codes}
use Rattle.candidate_search.proofs.PairLemmas.{agreement_is}
use Rattle.candidate_search.proofs.pairs.row_agreement.Goals as goal

pub returns : goal.returns
returns c =
    let end : c.loop-attribute.attribute ≡ c.args.width =
    omega (arith, c.loop-attribute-test.false, c.loop-attribute.auto.attribute-end) in
    record {
      agreement = λ r coded.
          c.loop-attribute.invariant.agreed
          ∙ ap (λ (m : ℕ). same_codes c.args.codes.now c.args.first c.args.second m) end
          ∙ agreement_is c.args.width r c.args.codes.now c.args.first c.args.second coded
          (omega (arith, c.requires.first, coded.count)) (omega (arith, c.requires.second, coded.count));
    }
