-- What is left to prove of `numbered_table`: that each row has one value more, by `NameLemmas` and `KeyLemmas`.
use Rattle.std.proofs.Common.{◌+◌, sym, subst}
use Rattle.dep_model.specs.Tuples.{IsOver}
use Rattle.fd_search.proofs.KeyLemmas.{names_over}
use Rattle.fd_search.proofs.NameLemmas.{names_of}
use Rattle.fd_search.proofs.key_searching.numbered_table.Goals as goal

pub new-requires-clause-over : goal.new-requires-clause-over
new-requires-clause-over c =
    let (name, names, is) = names_of c.args.width c.args.rows c.in_ok-made.made c.requires.over c.in_ok-made.ensures.numbered in
    subst (IsOver (c.args.width + 1)) (sym is) (names_over name c.args.width c.args.rows c.requires.over)
