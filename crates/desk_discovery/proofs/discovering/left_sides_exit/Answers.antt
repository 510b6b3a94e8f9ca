-- What is left to prove of `left_sides_exit`: its clause `says`.
use Rattle.std.proofs.Common.{◌≡◌, ℕ, List, subst}
use Rattle.std.specs.Prelude.{IfOk}
use Rattle.desk_discovery.specs.Discoveries.{left_sides_text}
use Rattle.desk_discovery.proofs.discovering.left_sides_exit.Goals as goal

pub returns : goal.returns
returns c = record {
  says = λ response is.
      c.with_text.ensures.says _
      (subst (λ (file : List ℕ). IfOk c.left_sides_line.result
      (λ text. text.items ≡ left_sides_text file c.args.names.now c.args.column)) c.bytes.ensures.bytes
      c.left_sides_line.ensures.line)
      response is;
}
