-- What is left to prove of `columns_of`: its clause `exit`, where the text is too long.
use Rattle.std.proofs.Common.{ℕ, List, inl, length, ap, arith}
use Rattle.desk_references.proofs.columns.columns_of.Goals as goal

pub returns-then-bytes-gt-MOST_LIST_BYTES-clause-exit : goal.returns-then-bytes-gt-MOST_LIST_BYTES-clause-exit
returns-then-bytes-gt-MOST_LIST_BYTES-clause-exit c = λ response is.
    inl (omega (arith, c.if-bytes-gt-MOST_LIST_BYTES.true, ap (λ (t : List ℕ). length t) c.bytes-bytes.ensures.bytes), c.with_text.ensures.says _ c.line_of.ensures.line response is)
