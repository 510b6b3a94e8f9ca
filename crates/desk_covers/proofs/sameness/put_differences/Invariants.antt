-- What the loop of `put_differences` keeps, in terms of `differences_text`.
use Rattle.std.proofs.Common.{◌≡◌, ◌++◌, take}
use Rattle.desk_covers.specs.Sameness.{differences_text}
use Rattle.desk_covers.proofs.sameness.put_differences.Given as goal

abbrev pub invariant-loop-number : goal.invariant-loop-number
invariant-loop-number l = l.text.items ≡ l.fn.text.items ++ differences_text l.schema l.file l.other_file (take l.number-index l.numbers)
