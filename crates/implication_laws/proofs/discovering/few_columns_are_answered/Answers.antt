-- The law `few_columns_are_answered`, by `few_have_few` and, of sets that are tried, by `few_without`.
use Rattle.std.proofs.Common.{◌≡◌, ◌<◌, ◌≤◌, ◌^◌, ℕ, false, length, arith}
use Rattle.std.proofs.lemmas.List.Elements.{All-contains}
use Rattle.attr_sets.specs.Attributes.{Attributes, IsSubset, below}
use Rattle.candidate_sets.proofs.FewColumns.{few_have_few, few_without}
use Rattle.dep_model.specs.Tuples.{Relation}
use Rattle.near_rules.specs.NearRules.{ExceedsTried, MustBeTried}
use Rattle.implication_laws.proofs.discovering.few_columns_are_answered.Goals as goal

few_are_tried : (n most limit : ℕ) (r : Relation) (a : ℕ) → n ≤ 20 → a < n → ExceedsTried n most limit r a → ⊥
few_are_tried n most limit r a few inside is =
    let short : length is.sets ≤ 2 ^ 19 = few_without n a is.sets
    (λ x listed. of_tried x (All-contains (λ v. MustBeTried n most limit r v a) is.sets x is.each listed)) is.differ few inside in
    omega (arith, short, is.more)
  where
    of_tried : (x : Attributes) → MustBeTried n most limit r x a → IsSubset x (below n) × (x a ≡ false)
    of_tried x tried = (tried.within, tried.outside)

pub returns : goal.returns
returns c = record {
  left_sides = λ most headed refusal few is. few_have_few (length headed.names) most is.exceeded.exceeds.seen refusal.right few is.exceeded.exceeds.exceeds;
  near = λ limit most headed refusal few is. few_are_tried (length headed.names) most limit headed.rows refusal.right few is.right is.exceeds;
  keys = λ headed few is. few_have_few (length headed.names) (length headed.names) is.seen (length headed.names) few is.exceeds;
}
