-- What is left to prove of `note`: that a text that was taken whole, and then a hint, are the notice.
use Rattle.std.proofs.Common.{Bool, if◌then◌else◌, List, [], ◌++◌, sym, ◌∙◌, subst}
use Rattle.desk_cli.specs.Desk.{Notes, sink_in_call}
use Rattle.desk_cli.proofs.NoteLemmas.{notes_both}
use Rattle.desk_cli.proofs.top.note.Goals as goal

pub returns-in-Ok-clause-notes : goal.returns-in-Ok-clause-notes
returns-in-Ok-clause-notes g c =
    let contents = g.N.Sink.contents in
    let faults = g.N.Sink.faults in
    let old = c.args.notices.now in
    let middle = c.send.new.sink in
    let new = c.send_hint.new.notices in
    let text = c.args.text.now in
    let hint = c.args.hint.now in
    let call = sink_in_call (contents old) (contents new) (faults old) (faults new) in
    let noted : Notes call (text ++ hint) =
    notes_both (contents old) (contents middle) (contents new) (faults old) (faults middle) (faults new) text hint
    c.in-Ok.ensures.ok c.in-Ok.ensures.no_new_error c.send_hint.ensures.notes in
    subst (λ (b : Bool). Notes call (if b then [] else text ++ hint))
    (sym (sym c.is_answer.ensures.answer ∙ c.if-is_answer.false)) noted
