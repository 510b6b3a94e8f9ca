-- What is left to prove of `first_exceeded`: where the right sides before have no more sets than are tried, by
-- `WholeLemmas`.
use Rattle.near_rules.specs.Searching.{AreSought}
use Rattle.near_rules.proofs.WholeLemmas.{none_exceeds}
use Rattle.near_rules.proofs.finding.+first_exceeded.Goals as goal
use Rattle.std.proofs.Common.{arith}

pub returns-in-Ok : goal.returns-in-Ok
returns-in-Ok t c = record {
  first = λ r sought exceeds.
      let before : AreSought r (record {
        codes = c.args.sought.codes;
        front = c.args.sought.front;
        width = c.args.sought.width;
        rights = c.args.right;
        most = c.args.sought.most;
        limit = c.args.sought.limit;
      }) = record {
        interned = sought.interned;
        front = sought.front;
        width = sought.width;
        rights = omega (arith, c.requires.right, sought.rights);
      } in
      record {
        right = omega (arith, c.requires.right, sought.rights);
        exceeds = exceeds;
        first = λ a a_in. none_exceeds _ r c.in-Ok.field-0 (c.in-Ok.ensures.found r before) a a_in;
      };
}
