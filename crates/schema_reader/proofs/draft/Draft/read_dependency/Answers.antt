-- What is left to prove of `Draft::read_dependency`: its clauses `err` and `ok`.
use Rattle.std.proofs.Common.{refl}
use Rattle.schema_grammar.specs.Declarations.{dependency_line}
use Rattle.schema_grammar.proofs.RefusalLemmas.{Refuses-here}
use Rattle.schema_reader.proofs.draft.Draft.read_dependency.Goals as goal

pub returns-in-Err-clause-err : goal.returns-in-Err-clause-err
unfolding dependency_line
returns-in-Err-clause-err c =
    Refuses-here _ _ _ c.refusal_of.ensures.refusal (rw c.in-Err.ensures.err refl)

pub returns-in-Err-follow-clause-err : goal.returns-in-Err-follow-clause-err
unfolding dependency_line
returns-in-Err-follow-clause-err c =
    rw (c.in-Ok.ensures.ok, ← c.requires.follows, ← c.deref.ensures.value, c.in-Err-follow.ensures.err) refl

pub returns-clause-ok : goal.returns-clause-ok
unfolding dependency_line
returns-clause-ok c =
    rw (c.in_ok-add_dependency.ensures.ok, c.in-Ok.ensures.ok, ← c.requires.follows, ← c.deref.ensures.value)
    (rw (c.in-Ok-follow.ensures.ok, c.line.ensures.line) refl)
