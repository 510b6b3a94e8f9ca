-- What is left to prove of `write` of a folder in memory: what its calls leave as it was, and its clauses where
-- `take_open` did not fail, by `PlannedFacts`.
use Rattle.std.proofs.Common.{◌↔◌, false, Ok, IsErrOf, length, refl, ap, subst, ◌∙◌}
use Rattle.desk_outside.specs.declared.failure.OutsideFault.TheVariants.{Failed}
use Rattle.desk_outside.specs.Causes.{HasOutsideCause}
use Rattle.desk_outside.specs.Files.{files_of}
use Rattle.desk_outside.specs.Memory.{FolderInMemory}
use Rattle.desk_outside.specs.Planned.{CountsCall, FailsNext}
use Rattle.desk_outside.proofs.PlannedFacts.{fine_within, no_cause_within}
use Rattle.desk_outside.proofs.memory_folder.MemoryFolderFolder.write.Goals as goal

pub returns-in_err-file-clause-finished : goal.returns-in_err-file-clause-finished
returns-in_err-file-clause-finished c = ap files_of c.take_open.ensures.finished ∙ ap (λ (f : FolderInMemory). f.finished) c.self.view_is

pub returns-in_err-file-clause-same : goal.returns-in_err-file-clause-same
returns-in_err-file-clause-same c = ap (λ (f : FolderInMemory). f.begun) c.self.view_is

pub returns-in_err-extend_from_slice-clause-finished : goal.returns-in_err-extend_from_slice-clause-finished
returns-in_err-extend_from_slice-clause-finished c =
    ap files_of c.take_open.ensures.finished ∙ ap (λ (f : FolderInMemory). f.finished) c.self.view_is

pub returns-in_err-extend_from_slice-clause-same : goal.returns-in_err-extend_from_slice-clause-same
returns-in_err-extend_from_slice-clause-same c = ap (λ (f : FolderInMemory). f.begun) c.self.view_is

pub returns-clause-finished : goal.returns-clause-finished
returns-clause-finished c = ap files_of c.take_open.ensures.finished ∙ ap (λ (f : FolderInMemory). f.finished) c.self.view_is

pub returns-clause-same : goal.returns-clause-same
returns-clause-same c = ap (λ (f : FolderInMemory). f.begun) c.self.view_is

pub returns-clause-count : goal.returns-clause-count
returns-clause-count c = refl

pub returns-clause-closed : goal.returns-clause-closed
returns-clause-closed c = tt

pub returns-clause-failed : goal.returns-clause-failed
returns-clause-failed c =
    subst (λ (f : FolderInMemory). IsErrOf (Ok (length c.args.piece.now)) Failed ↔ FailsNext f.planned) c.self.view_is
    (fine_within _ (length c.args.piece.now) c.in_ok-file.ensures.failed)

pub returns-clause-counts : goal.returns-clause-counts
returns-clause-counts c =
    subst (λ (f : FolderInMemory). CountsCall f.planned c.take_open.new.self.planned false) c.self.view_is c.in_ok-file.ensures.counts

pub returns-clause-cause : goal.returns-clause-cause
returns-clause-cause c =
    subst (λ (f : FolderInMemory). HasOutsideCause f.planned.faults c.take_open.new.self.planned.faults (Ok (length c.args.piece.now))) c.self.view_is
    (no_cause_within _ _ _ (length c.args.piece.now) c.in_ok-file.ensures.cause)
