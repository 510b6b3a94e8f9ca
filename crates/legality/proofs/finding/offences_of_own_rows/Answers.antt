-- What is left to prove of `offences_of_own_rows`: its clause `legal`, by `none_legal`.
use Rattle.legality.proofs.CodeLemmas.{interned_for}
use Rattle.legality.proofs.OffenceLemmas.{none_legal}
use Rattle.legality.proofs.finding.offences_of_own_rows.Goals as goal

pub returns-clause-legal : goal.returns-clause-legal
returns-clause-legal c =
    none_legal c.args.theory.now c.args.rows c.in_ok-found.found.items c.requires.over
    (c.in_ok-found.ensures.offences c.args.rows (interned_for c.args.rows c.in_ok-codes.codes _ _ c.width.ensures.count c.in_ok-codes.ensures.codes))
