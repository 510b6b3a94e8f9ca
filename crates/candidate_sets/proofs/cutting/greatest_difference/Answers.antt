-- What is left to prove of `greatest_difference`: that the sets differ, and its clause `cut`, by
-- `CutLemmas`.
use Rattle.std.proofs.Common.{arith}
use Rattle.candidate_sets.proofs.CutLemmas.{greatest_is_cut, leading_few}
use Rattle.candidate_sets.proofs.cutting.greatest_difference.Goals as goal

pub overflow_sub-result-2 : goal.overflow_sub-result-2
overflow_sub-result-2 c =
    omega (arith, leading_few c.args.first c.args.last (omega arith) (omega arith) c.requires.before)

pub returns-clause-cut : goal.returns-clause-cut
returns-clause-cut c =
    greatest_is_cut c.args.first c.args.last (omega arith) (omega arith) c.requires.before _
    (omega (arith, leading_few c.args.first c.args.last (omega arith) (omega arith) c.requires.before))
