-- What the loop of `words_of` keeps.
use Rattle.std.proofs.Common.{◌≡◌, map, take, string_bytes}
use Rattle.desk_process.proofs.words.words_of.Given as goal

-- the words so far
abbrev pub invariant-loop-argument : goal.invariant-loop-argument
invariant-loop-argument l = l.words.items ≡ map string_bytes (take l.argument-index l.arguments)
