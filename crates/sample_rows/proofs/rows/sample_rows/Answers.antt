-- What is left to prove of `sample_rows`: its clauses `count`, `legal` and `differ` and that a
-- round of its loop keeps the invariant, by `SampleLemmas`.
use Rattle.std.proofs.Common.{◌≡◌, length, ap, arith}
use Rattle.sample_rows.specs.Sample.{sample_relation}
use Rattle.sample_rows.proofs.SampleLemmas.{person_more, row_count, rows_legal, rows_differ}
use Rattle.sample_rows.proofs.rows.sample_rows.Goals as goal

pub loop-person-preserved : goal.loop-person-preserved
loop-person-preserved c =
    let before : c.loop-person.rows ≡ sample_relation c.loop-person.person = c.loop-person.invariant.rows in
    let more = person_more c.loop-person.person in
    let here = c.in_ok-add_person.ensures.added in
    record { rows = cc (before, more, here) }

pub returns-clause-count : goal.returns-clause-count
returns-clause-count c =
    let count = row_count c.loop-person.person in
    omega (arith, count, ap length c.loop-person.invariant.rows, c.loop-person-test.false, c.loop-person.auto.person-end)

pub returns-clause-legal : goal.returns-clause-legal
returns-clause-legal c =
    rows_legal c.loop-person.person c.loop-person.rows (omega arith) c.loop-person.invariant.rows

pub returns-clause-differ : goal.returns-clause-differ
returns-clause-differ c =
    rows_differ c.loop-person.person c.loop-person.rows (omega arith) c.loop-person.invariant.rows
