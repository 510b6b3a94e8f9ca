-- What is left to prove of `test_rows`: its clause `exit`, by `offences_stop`.
use Rattle.std.proofs.Common.{◌≡◌, length, ap, arith}
use Rattle.std.proofs.lemmas.Bool.{false≢true}
use Rattle.std.proofs.lemmas.Bool.Decides.{nat_tests}
use Rattle.desk_tables.proofs.OffenceLemmas.{offences_stop}
use Rattle.desk_tables.proofs.rows.test_rows.Goals as goal

pub returns-clause-exit : goal.returns-clause-exit
returns-clause-exit c =
    offences_stop c.args.schema.now c.args.rows.now c.in_ok-found.found.items c.deref.result.now _
    (λ none.
    let count : length c.in_ok-found.found.items ≡ 0 = ap length none in
    false≢true (grind (arith, nat_tests, count, c.if-is_empty.ensures)))
    (rw (c.theory.ensures.theory) at c.in_ok-found.ensures.legal) (rw (c.theory.ensures.theory) at c.in_ok-found.ensures.offences)
    c.deref.ensures.value c.offences_exit.ensures.says
