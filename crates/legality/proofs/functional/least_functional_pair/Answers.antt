-- What is left to prove of `least_functional_pair`: its clause `pair`, that the invariant of its loop holds at first
-- and stays, and what `rows_agree` requires, by `PairLemmas` and `CodeLemmas`.
use Rattle.std.proofs.Common.{arith, ◌≡◌, ◌<◌, ℕ, List, length, ap, subst, sym, refl, ◌∙◌}
use Rattle.attr_sets.specs.Attributes.{Attributes}
use Rattle.attr_sets.specs.Sets.{attributes}
use Rattle.dep_model.specs.Tuples.{Relation, AgreeOn}
use Rattle.row_groups.specs.Interning.{IsInterned, groups_of, firsts_of}
use Rattle.row_groups.specs.Numberings.{number_at, AreGroups, AreFirsts}
use Rattle.row_store.specs.Rows.{row_at}
use Rattle.legality.proofs.CodeLemmas.{codes_agree, agree_codes}
use Rattle.legality.proofs.PairLemmas.{Leads, leader, leads_none, leads_on, leads_more, functional_answer}
use Rattle.legality.proofs.functional.least_functional_pair.Goals as goal
use Rattle.legality.proofs.functional.least_functional_pair.Goals.{then-not-rows_agree, else-not-rows_agree}

pub loop-second-init : goal.loop-second-init
loop-second-init c = record { least = λ rows is. leads_none rows (attributes c.args.rhs) (leader (groups_of c.in_ok-groups.groups) (firsts_of c.in_ok-groups.groups)) }

-- the first row of a group is a row
lead_in : (r : Relation) (x : Attributes) (numbers firsts : List ℕ) (i : ℕ) → AreGroups r x numbers → AreFirsts numbers firsts
    → i < length r → leader numbers firsts i < length r
lead_in r x numbers firsts i groups are i_in =
    let short : i < length numbers = omega (arith, i_in, groups.one_each) in
    omega (arith, are.within (number_at numbers i) (are.each i short), groups.one_each)

pub loop-second-preserved : goal.loop-second-preserved
loop-second-preserved c =
    let i : ℕ = c.loop-second.second in
    let y : Attributes = attributes c.args.rhs in
    let lead : ℕ → ℕ = leader (groups_of c.in_ok-groups.groups) (firsts_of c.in_ok-groups.groups) in
    let j : ℕ = number_at c.firsts.result.now (number_at c.numbers.result.now i) in
    let first : j ≡ lead i =
    ap (λ (xs : List ℕ). number_at xs (number_at c.numbers.result.now i)) c.firsts.ensures.firsts
    ∙ ap (λ (xs : List ℕ). number_at (firsts_of c.in_ok-groups.groups) (number_at xs i)) c.numbers.ensures.numbers in
    let within : (rows : Relation) → IsInterned c.args.width rows c.args.codes.now → i < length rows =
    λ rows is. omega (arith, c.loop-second-test.true, c.count-second-end.ensures.count, is.count) in
    let led : (rows : Relation) → IsInterned c.args.width rows c.args.codes.now → j < length rows =
    λ rows is. subst (λ (k : ℕ). k < length rows) (sym first)
    (lead_in rows (attributes c.args.lhs) _ _ i (c.in_ok-groups.ensures.groups c.args.width rows is) (c.in_ok-groups.ensures.firsts c.args.width rows is) (within rows is)) in
    elim c.if-not-rows_agree.branch [
      | then-not-rows_agree w ↦ record {
        least = rw w.least-is
            (λ rows is. leads_more rows y lead i c.loop-second.least w.earlier_of-least.result _ (c.loop-second.invariant.least rows is) first refl
            (λ a. c.rows_agree.ensures.differ w.if-not-rows_agree.true
            (agree_codes c.args.width rows c.args.codes.now is y c.requires.rhs j i (led rows is) (within rows is) a))
            w.earlier_of-least.ensures.first w.earlier_of-least.ensures.kept w.earlier_of-least.ensures.replaced);
      }
      | else-not-rows_agree w ↦ record {
        least = rw w.least-is
            (λ rows is. leads_on rows y lead i c.loop-second.least (c.loop-second.invariant.least rows is)
            (subst (λ (k : ℕ). AgreeOn y (row_at rows k) (row_at rows i)) first
            (codes_agree c.args.width rows c.args.codes.now is y c.requires.rhs j i (led rows is) (within rows is) (c.rows_agree.ensures.agree w.if-not-rows_agree.false))));
      }
    ]

pub returns : goal.returns
returns c =
    let end : c.loop-second.second ≡ c.args.codes.now.count = omega (arith, c.loop-second-test.false, c.count-second-end.ensures.count) in
    record {
      pair = λ rows is. functional_answer c.args.width rows (attributes c.args.lhs) (attributes c.args.rhs) (groups_of c.in_ok-groups.groups) (firsts_of c.in_ok-groups.groups) c.loop-second.least
          (c.in_ok-groups.ensures.groups c.args.width rows is) (c.in_ok-groups.ensures.firsts c.args.width rows is)
          (subst (λ (m : ℕ). Leads rows (attributes c.args.rhs) (leader (groups_of c.in_ok-groups.groups) (firsts_of c.in_ok-groups.groups)) m c.loop-second.least) (end ∙ is.count) (c.loop-second.invariant.least rows is));
    }
