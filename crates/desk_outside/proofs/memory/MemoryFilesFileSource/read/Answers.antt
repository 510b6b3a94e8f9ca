-- What is left to prove of `MemoryFilesFileSource::read`: its clause `bytes`, by `drop-copied`.
use Rattle.std.proofs.Common.{◌≡◌, drop, ap, sym, ◌∙◌, arith}
use Rattle.desk_outside.proofs.ListFacts.{drop-copied}
use Rattle.desk_outside.specs.Memory.{bytes_at}
use Rattle.desk_outside.proofs.memory.MemoryFilesFileSource.read.Goals as goal

pub returns-clause-bytes : goal.returns-clause-bytes
returns-clause-bytes c =
    let rest : c.rest_of-left.result.now ≡ drop c.self.inside.taken (bytes_at c.self.inside.files.items c.self.inside.begun) =
    rw c.deref.ensures.value at c.rest_of-left.ensures.left in
    sym (ap (λ s. s.left) c.self.view_is)
    ∙ drop-copied _ _ _ c.args.buf.now _ _ rest (omega arith) c.copy_from_slice.ensures.after
