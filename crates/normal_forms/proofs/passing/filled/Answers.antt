-- What is left to prove of `filled`: what it answers, case by case, by `filled_between` and
-- `empty_between`.
use Rattle.std.proofs.Common.{ap, refl, ◌∙◌, arith}
use Rattle.attr_sets.specs.Attributes.{union}
use Rattle.attr_sets.specs.Sets.{attributes}
use Rattle.attr_sets.proofs.AttributesLemmas.{same_at}
use Rattle.normal_forms.proofs.PassLemmas.{filled_between, empty_between}
use Rattle.normal_forms.proofs.passing.filled.Goals as goal

pub returns-in-Some : goal.returns-in-Some
returns-in-Some c =
    let set = attributes c.args.set in
    let whole = attributes c.args.whole in
    let is = c.union.ensures.members ∙ ap (union set) c.intersection.ensures.members in
    record {
      holds = λ k m. grind (arith, same_at c.union.ensures.members k, m);
      within = λ k m. grind (arith, same_at is k, m, c.requires.within k);
      between = λ x x_in after not_later.
          filled_between whole set (attributes c.full.result) (attributes c.union.result) c.in-Some.first c.in-Some.ensures.first c.full.ensures.members is x x_in after not_later;
    }

pub returns-in-None : goal.returns-in-None
returns-in-None c = record {
  holds = c.requires.within;
  within = λ k m. m;
  between = λ x x_in _ _. empty_between (attributes c.args.whole) (attributes c.args.set) x (c.in-None.ensures.none.0 refl) x_in;
}
