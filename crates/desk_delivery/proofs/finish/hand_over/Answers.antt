-- What is left to prove of `hand_over`: its clauses `ends` and `err`, by `reported` and `left`.
use Rattle.std.proofs.Common.{Option, inl, ap, refl, subst, sym}
use Rattle.named_tables.specs.Tables.{table_values}
use Rattle.desk_responses.specs.ResponseValues.{OwnFolder}
use Rattle.desk_delivery.specs.Outcomes.{OutcomeValue, Written, destinations_in_call, folder_in_call}
use Rattle.desk_delivery.proofs.WrittenLemmas.{left, on_err, reported}
use Rattle.desk_delivery.proofs.finish.hand_over.Goals as goal

pub returns-clause-ends : goal.returns-clause-ends
returns-clause-ends g c = λ response says into_is.
    let destinations = destinations_in_call g.D.Folder.state c.args.destinations.now.items c.write_tables.new.destinations.items in
    let own = folder_in_call g.G.Folder.state c.args.own.now c.write_tables.new.own in
    let tables = table_values c.args.tables.now in
    reported destinations own response tables c.in_ok-ends.ends.items c.report.result
    (ap (λ (outcome : OutcomeValue). outcome.status) says)
    (subst (λ (f : Option OwnFolder). Written destinations own f tables c.in_ok-ends.ends.items) (sym into_is) c.in_ok-ends.ensures.written)
    (rw c.deref.ensures.value at c.report.ensures.memory) (rw c.deref.ensures.value at (c.report.ensures.reports response says))

pub returns-clause-err : goal.returns-clause-err
returns-clause-err g c = λ response given into_is.
    let destinations = destinations_in_call g.D.Folder.state c.args.destinations.now.items c.write_tables.new.destinations.items in
    let own = folder_in_call g.G.Folder.state c.args.own.now c.write_tables.new.own in
    let tables = table_values c.args.tables.now in
    left destinations own response tables c.in_ok-ends.ends.items c.report.result given
    (subst (λ (f : Option OwnFolder). Written destinations own f tables c.in_ok-ends.ends.items) (sym into_is) c.in_ok-ends.ensures.written)
    (rw c.deref.ensures.value at c.report.ensures.wanted)

pub returns-in_err-room-clause-err : goal.returns-in_err-room-clause-err
returns-in_err-room-clause-err g c = λ response given into_is. on_err _ (inl (refl, refl))

pub returns-in_err-ends-clause-err : goal.returns-in_err-ends-clause-err
returns-in_err-ends-clause-err g c = λ response given into_is. on_err _ (inl c.in_err-ends.ensures.err)
