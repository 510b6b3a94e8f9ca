-- What is left to prove of `is_any_within`: that the list is cut where an attribute begins, that both parts
-- are shorter, and what its answers say, by `CutLemmas` and `AskLemmas`.
use Rattle.std.proofs.Common.{◌-◌, ◌<◌, ℕ, List, length, drop, refl, sym, subst, ◌∙◌, length-take, length-drop, arith}
use Rattle.std.proofs.lemmas.Bool.{false≢true}
use Rattle.std.proofs.lemmas.Bool.Decides.{nat_tests}
use Rattle.attr_sets.specs.declared.set.AttrSet.{AttrSet}
use Rattle.attr_sets.specs.Sets.{attributes}
use Rattle.candidate_sets.specs.Cuts.{Ascend}
use Rattle.candidate_sets.specs.Growing.{HasWithin}
use Rattle.candidate_sets.proofs.CutLemmas.{parted_at_cut, shared_above, some_having, some_without}
use Rattle.candidate_sets.proofs.AskLemmas.{ascend_after, ascend_before, bound_has, rest_is, shared_within, within_after, within_before, within_rest}
use Rattle.candidate_sets.proofs.asking.+is_any_within.Goals as goal
use Rattle.candidate_sets.proofs.asking.+is_any_within.Goals.{Else-not-is_subset, After-count_without-middle, After-greatest_difference-cut}

some : (t : ℕ) (c : After-greatest_difference-cut t) → 0 < length c.args.sets.now
some t c = grind (arith, nat_tests, c.is_empty.ensures, c.if-is_empty.false)

pub count_without-middle-requires-clause-parted : goal.count_without-middle-requires-clause-parted
count_without-middle-requires-clause-parted t c =
    parted_at_cut c.args.sets.now c.requires.ascending _ _ _
    (some t (goal.at.count_without-middle-requires-clause-parted t c).After-greatest_difference-cut)
    c.greatest_difference-cut.ensures.cut

pub returns-then-not-is_subset : goal.returns-then-not-is_subset
returns-then-not-is_subset t c =
    let not_empty = some t (goal.at.returns-then-not-is_subset t c).After-greatest_difference-cut in
    record {
      within = (
        (λ e. absurd (false≢true e)),
        λ found. absurd (false≢true (sym c.if-not-is_subset.true ∙ c.is_subset-2.ensures.subset.1
            (shared_within c.args.sets.now _ _ _ _ (attributes c.args.bound)
            (shared_above c.args.sets.now c.requires.ascending _ _ _ not_empty c.greatest_difference-cut.ensures.cut)
            c.full.ensures.members c.difference-shared.ensures.members found))),
      );
    }

pub is_any_within-requires : goal.is_any_within-requires
is_any_within-requires t c =
    let not_empty = some t (goal.at.is_any_within-requires t c).After-greatest_difference-cut in
    let m : ℕ = c.count_without-middle.result in
    let bound = c.count_without-middle.ensures.bound in
    let less : m < length c.args.sets.now =
    some_having c.args.sets.now c.requires.ascending _ _ _ not_empty c.greatest_difference-cut.ensures.cut m
    c.count_without-middle.ensures.without in (
      omega (arith, c.decreases, less, length-take m c.args.sets.now),
      ascend_before c.args.sets.now m bound c.requires.ascending,
    )

pub returns-then-is_any_within : goal.returns-then-is_any_within
returns-then-is_any_within t c = record {
  within = (
    (λ _. within_before c.args.sets.now c.count_without-middle.result (attributes c.args.bound)
        c.count_without-middle.ensures.bound (c.is_any_within.ensures.within.0 c.if-is_any_within.true)),
    λ _. refl,
  );
}

pub returns-then-not-contains : goal.returns-then-not-contains
returns-then-not-contains t c =
    let m : ℕ = c.count_without-middle.result in
    let bound = c.count_without-middle.ensures.bound in
    record {
      within = (
        (λ e. absurd (false≢true e)),
        λ found. absurd (false≢true (sym c.if-not-contains.true ∙ c.contains.ensures.member
            ∙ bound_has c.args.sets.now m _ (attributes c.args.bound) bound c.count_without-middle.ensures.having
            (within_rest c.args.sets.now m (attributes c.args.bound) bound found
            (λ before. false≢true (sym c.if-is_any_within.false ∙ c.is_any_within.ensures.within.1 before))))),
      );
    }

pub is_any_within-requires-2 : goal.is_any_within-requires-2
is_any_within-requires-2 t c =
    let not_empty = some t (goal.at.is_any_within-requires-2 t c).After-greatest_difference-cut in
    let m : ℕ = c.count_without-middle.result in
    let sets : List AttrSet = c.args.sets.now in
    let bound = c.count_without-middle.ensures.bound in
    let more : 0 < m =
    some_without sets c.requires.ascending _ _ _ not_empty c.greatest_difference-cut.ensures.cut m
    c.count_without-middle.ensures.having in (
      omega (arith, c.decreases, more, bound, length-drop m sets, length-take (length sets - m) (drop m sets)),
      subst (λ (rest : List AttrSet). Ascend rest) (sym (rest_is sets m)) (ascend_after sets m bound c.requires.ascending),
    )

pub returns : goal.returns
returns t c =
    let m : ℕ = c.count_without-middle.result in
    let sets : List AttrSet = c.args.sets.now in
    let bound = c.count_without-middle.ensures.bound in
    record {
      within = (
        (λ e. within_after sets m (attributes c.args.bound) bound
            (subst (λ (rest : List AttrSet). HasWithin rest (attributes c.args.bound)) (rest_is sets m)
            (c.is_any_within-2.ensures.within.0 e))),
        λ found. c.is_any_within-2.ensures.within.1
            (subst (λ (rest : List AttrSet). HasWithin rest (attributes c.args.bound)) (sym (rest_is sets m))
            (within_rest sets m (attributes c.args.bound) bound found
            (λ before. false≢true (sym c.if-is_any_within.false ∙ c.is_any_within.ensures.within.1 before)))),
      );
    }
