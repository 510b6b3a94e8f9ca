-- What is left to prove of `stated_at`: what the line states.
use Rattle.std.proofs.Common.{arith}
use Rattle.short_derivations.proofs.PushedLines.{stated_there}
use Rattle.short_derivations.proofs.checking.stated_at.Goals as goal

pub returns : goal.returns
returns c = record { stated = stated_there c.args.lines.now c.args.p _ (omega arith) }
