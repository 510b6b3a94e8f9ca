-- What is left to prove of `is_used`: which line uses it.
use Rattle.std.proofs.Common.{arith}
use Rattle.short_derivations.proofs.PushedLines.{line_there}
use Rattle.short_derivations.proofs.checking.is_used.Goals as goal

pub returns-then-uses : goal.returns-then-uses
returns-then-uses c = record {
  used = λ _. record {
    by = _;
    at = c.loop-at.at;
    stands = line_there c.args.lines.now c.loop-at.at _ c.loop-at-test.true;
    later = omega arith;
    premise = c.uses.ensures.premise c.if-uses.true;
  };
}
