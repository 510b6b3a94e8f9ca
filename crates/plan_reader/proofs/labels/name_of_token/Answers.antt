-- What is left to prove of `name_of_token`: its clauses where the token is a word.
use Rattle.std.proofs.Common.{◌≡◌, ◌∙◌, ℕ, List, Ok, Err, subst}
use Rattle.std.specs.Prelude.{IfErr, IfOk}
use Rattle.plan_grammar.specs.Reading.{name_of_word}
use Rattle.plan_reader.proofs.labels.name_of_token.Goals as goal

pub returns-in-Identifier-clause-ok : goal.returns-in-Identifier-clause-ok
returns-in-Identifier-clause-ok c = λ token.
    rw c.in-Identifier.is
    (subst (λ (word : List ℕ). IfOk c.name_of_word.result (λ name. name_of_word c.args.earlier.now word ≡ Ok name))
    (c.as_slice.ensures.bytes ∙ c.bytes.ensures.bytes) c.name_of_word.ensures.ok)

pub returns-in-Identifier-clause-err : goal.returns-in-Identifier-clause-err
returns-in-Identifier-clause-err c = λ token.
    rw c.in-Identifier.is
    (subst (λ (word : List ℕ). IfErr c.name_of_word.result (λ why. name_of_word c.args.earlier.now word ≡ Err why))
    (c.as_slice.ensures.bytes ∙ c.bytes.ensures.bytes) c.name_of_word.ensures.err)
