-- What is left to prove of `look_at`: that the invariant of its loop stays.
use Rattle.std.proofs.Common.{◌-◌, ℕ, length, sym, subst, arith}
use Rattle.std.specs.Prelude.{All}
use Rattle.candidate_search.specs.Pairs.{IsRowPair}
use Rattle.candidate_search.specs.declared.neighbours.Sample.{Sample}
use Rattle.candidate_search.proofs.neighbours.look_at.Goals as goal
use Rattle.candidate_search.proofs.neighbours.look_at.Goals.{then-numbers-first+in_ok-look, else-numbers-first}

pub loop-k-preserved : goal.loop-k-preserved
loop-k-preserved c =
    let n : ℕ = length c.args.numbers.now in
    let k : ℕ = c.loop-k.k in
    elim c.if-numbers-first.branch [
      | then-numbers-first+in_ok-look w ↦ record {
        pairs = subst (λ (s : Sample). All (IsRowPair n) s.pairs.items) (sym w.sample-is)
            (w.in_ok-look.ensures.pairs n
            (c.requires.order (k - c.args.distance) _ (omega (arith, c.loop-k-test.true)))
            (c.requires.order k _ c.loop-k-test.true) c.loop-k.invariant.pairs);
      }
      | else-numbers-first w ↦ record {
        pairs = subst (λ (s : Sample). All (IsRowPair n) s.pairs.items) (sym w.sample-is) c.loop-k.invariant.pairs;
      }
    ]
