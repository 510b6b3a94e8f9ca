-- What is left to prove of `too_many_keys_exit`: its clause `says`.
use Rattle.std.proofs.Common.{◌≡◌, ◌++◌, ℕ, List, codes, subst}
use Rattle.std.specs.Prelude.{IfOk}
use Rattle.desk_texts.specs.Texts.{line}
use Rattle.desk_discovery.proofs.keys.too_many_keys_exit.Goals as goal

pub returns : goal.returns
returns c = record {
  says = λ response is. c.with_text.ensures.says _
      (subst (λ (file : List ℕ). IfOk c.line_of.result
      (λ text. text.items ≡ line (codes "refused: discover 7 at " ++ file ++ codes ": too many keys"))) c.bytes.ensures.bytes
      c.line_of.ensures.line)
      response is;
}
