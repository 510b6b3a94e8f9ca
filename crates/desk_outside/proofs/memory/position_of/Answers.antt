-- What is left to prove of `position_of`: its clause `bytes`, by `bytes_of_file-drop`.
use Rattle.std.proofs.Common.{sym, ap, ◌∙◌}
use Rattle.std.specs.Str.{bytes_eq}
use Rattle.desk_outside.proofs.HeldFacts.{bytes_of_file-drop}
use Rattle.desk_outside.proofs.memory.position_of.Goals as goal

pub returns-then-eq-clause-bytes : goal.returns-then-eq-clause-bytes
returns-then-eq-clause-bytes c =
    let same = ap (λ name. bytes_eq name c.args.name.now) (sym c.bytes.ensures.bytes) ∙ sym c.eq.ensures ∙ c.if-eq.true in
    bytes_of_file-drop _ _ _ _ c.loop-position-test.true c.index-files-position.is c.loop-position.invariant same
