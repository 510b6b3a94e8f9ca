-- What is left to prove of `broken_in`: its clause `pair` and that the invariant of its loop stays, by `PairLemmas`.
use Rattle.std.proofs.Common.{◌≡◌, ◌<◌, ℕ, List, length, sym, ap, subst, ◌∙◌, below_more, arith}
use Rattle.std.proofs.lemmas.List.{get_or_default}
use Rattle.attr_sets.specs.Sets.{attributes}
use Rattle.row_groups.specs.Interning.{codes_at}
use Rattle.row_groups.specs.Numberings.{number_at}
use Rattle.candidate_search.proofs.PairLemmas.{broken_by, obeyed_by}
use Rattle.candidate_search.proofs.pairs.broken_in.Goals as goal
use Rattle.candidate_search.proofs.pairs.broken_in.Goals.{After-index}

-- the leader of the row at hand
leader : (c : After-index) → c.loop-second.second < length c.args.level.now.leaders.items
    → c.index.result.now ≡ number_at c.args.level.now.leaders.items c.loop-second.second
leader c low = c.index.ensures
    ∙ get_or_default c.args.level.now.leaders.items c.loop-second.second c.index.result.now 0 low

pub returns-then-column-first : goal.returns-then-column-first
returns-then-column-first c =
    let first : ℕ = c.index.result.now in
    let second : ℕ = c.loop-second.second in
    record {
      pair = λ r coded led. broken_by c.args.width r c.args.codes.now (attributes c.args.level.now.set) c.args.right
          c.args.level.now.leaders.items first second coded c.requires.right led
          (omega (arith, c.loop-second-test.true, c.count-second-end.ensures.count, coded.count))
          (leader (goal.at.returns-then-column-first c).After-index
          (omega (arith, c.loop-second-test.true, c.count-second-end.ensures.count, coded.count, led.one_each)))
          (λ same. c.if-column-first.true
          (subst (λ (xs : List ℕ). number_at xs first ≡ number_at xs second) (sym c.column-column.ensures.codes) same));
    }

pub loop-second-preserved : goal.loop-second-preserved
loop-second-preserved c =
    let (r, coded, led) = c.requires.rows in
    let first : ℕ = c.index.result.now in
    let second : ℕ = c.loop-second.second in
    let codes : List ℕ = codes_at c.args.codes.now c.args.right in
    record {
      same = below_more _ _ c.loop-second.invariant.same
          (ap (number_at codes) (sym (leader (goal.at.loop-second-preserved c).After-index
          (omega (arith, c.loop-second-test.true, c.count-second-end.ensures.count, coded.count, led.one_each))))
          ∙ subst (λ (xs : List ℕ). number_at xs first ≡ number_at xs second) c.column-column.ensures.codes
          c.if-column-first.false);
    }

pub returns : goal.returns
returns c = record {
  pair = λ r coded led. obeyed_by c.args.width r c.args.codes.now (attributes c.args.level.now.set) c.args.right
      c.args.level.now.leaders.items coded c.requires.right led
      (λ j l. c.loop-second.invariant.same j
      (omega (arith, l, c.loop-second-test.false, c.count-second-end.ensures.count, coded.count)));
}
