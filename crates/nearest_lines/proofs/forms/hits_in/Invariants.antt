-- What the loop of `hits_in` keeps: `IsCounted`; and by what it ends.
use Rattle.std.proofs.Common.{length}
use Rattle.nearest_lines.proofs.WordLemmas.{IsCounted}
use Rattle.nearest_lines.proofs.forms.hits_in.Given as goal

abbrev pub invariant-words : goal.invariant-words
invariant-words l = IsCounted l.words l.form l.count l.rest

abbrev pub decreases-words : goal.decreases-words
decreases-words l = length l.rest
