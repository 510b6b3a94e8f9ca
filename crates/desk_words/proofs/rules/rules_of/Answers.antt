-- What is left to prove of `rules_of`: its clause `form`, whatever rules are sought.
use Rattle.std.proofs.Common.{refl}
use Rattle.desk_words.proofs.rules.rules_of.Goals as goal

pub returns : goal.returns
returns c = record { form = refl }
