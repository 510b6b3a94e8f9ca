-- What is left to prove of `RowNumbers::number`: its clauses `known`, `fresh` and `grown`, by
-- `NumberLemmas`.
use Rattle.std.proofs.Common.{◌<◌, length, sym, arith}
use Rattle.tableau_chase.proofs.NumberLemmas.{numbering_known, numbering_fresh, numbering_more}
use Rattle.tableau_chase.proofs.numbers.RowNumbers.number.Goals as goal

pub returns-in-Some-clause-known : goal.returns-in-Some-clause-known
returns-in-Some-clause-known c keys before count ne = (before.sound c.args.symbols c.in-Some.field-0.now (sym c.in-Some.ensures.value), before)

pub returns-in-Some-clause-fresh : goal.returns-in-Some-clause-fresh
returns-in-Some-clause-fresh c keys before count e h =
    let at = before.sound c.args.symbols c.in-Some.field-0.now (sym c.in-Some.ensures.value) in
    let low : c.in-Some.field-0.now < length keys = at.low in
    absurd (omega (arith, low, count, e))

pub returns-in-Some-clause-grown : goal.returns-in-Some-clause-grown
returns-in-Some-clause-grown c keys before count =
    numbering_known keys c.args.self.now c.args.symbols.items c.in-Some.field-0.now before (before.sound c.args.symbols c.in-Some.field-0.now (sym c.in-Some.ensures.value))

pub returns-in_ok-insert-in-None-clause-fresh : goal.returns-in_ok-insert-in-None-clause-fresh
returns-in_ok-insert-in-None-clause-fresh c keys before count e h = numbering_fresh keys c.args.self.now c.args.symbols before (sym c.in-None.ensures.value) h

pub returns-in_ok-insert-in-None-clause-grown : goal.returns-in_ok-insert-in-None-clause-grown
returns-in_ok-insert-in-None-clause-grown c keys before count =
    numbering_more keys c.args.self.now (record { firsts = c.insert.new.self }) c.args.symbols before (sym c.in-None.ensures.value) (rw count c.in_ok-insert-in-None.ensures.updates.0)
