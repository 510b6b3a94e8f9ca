-- What is left to prove of `open_headed`: its clauses that name the limits and the command.
use Rattle.std.proofs.Common.{◌≤◌, List, ℕ, length, subst}
use Rattle.std.specs.Prelude.{IfOk}
use Rattle.headed_rows.specs.Headers.{IsHeaderWithin}
use Rattle.headed_rows.specs.Headings.{headed_of}
use Rattle.headed_rows.specs.declared.headed_rows.Headed.{Headed}
use Rattle.headed_rows.specs.declared.headed_rows.Limits.{Limits}
use Rattle.desk_inputs.specs.FileCalls.{OpensFile}
use Rattle.desk_inputs.specs.Headed.{headed_file_for, limits_for}
use Rattle.desk_inputs.proofs.headed.open_headed.Goals as goal

pub returns-clause-opens : goal.returns-clause-opens
returns-clause-opens g c =
    subst (λ (word : List ℕ). OpensFile g.F.FileSource c.args.source.now c.open_headed_for.new.source (headed_file_for word (limits_for c.args.purpose)) c.args.name.now (λ (headed : Headed). headed_of headed) c.open_headed_for.result) c.command_for.ensures.command
    (subst (λ (limits : Limits). OpensFile g.F.FileSource c.args.source.now c.open_headed_for.new.source (headed_file_for c.command_for.result.now limits) c.args.name.now (λ (headed : Headed). headed_of headed) c.open_headed_for.result) c.limits_for.ensures.limits
    c.open_headed_for.ensures.opens)

pub returns-clause-header : goal.returns-clause-header
returns-clause-header g c =
    subst (λ (limits : Limits). IfOk c.open_headed_for.result (λ headed. IsHeaderWithin limits.columns headed.names.items))
    c.limits_for.ensures.limits c.open_headed_for.ensures.header

pub returns-clause-within_limit : goal.returns-clause-within_limit
returns-clause-within_limit g c =
    subst (λ (limits : Limits). IfOk c.open_headed_for.result (λ headed. length headed.rows ≤ limits.rows))
    c.limits_for.ensures.limits c.open_headed_for.ensures.within_limit
