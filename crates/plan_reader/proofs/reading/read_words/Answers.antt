-- What is left to prove of `read_words`: its clauses `err` and `ok` and that the invariant of its
-- loop holds at first and stays, by `ReadingLemmas`.
use Rattle.std.proofs.Common.{true, false, Err, sym, ap, ◌∙◌}
use Rattle.attr_sets.specs.Attributes.{Attributes}
use Rattle.tokens.specs.Views.{names_in, rest_of}
use Rattle.plan_grammar.specs.declared.refusal.PlanRefusal.TheVariants as plan
use Rattle.plan_grammar.specs.Reading.{read_words_rest}
use Rattle.plan_reader.proofs.ReadingLemmas.{words_empty, words_end, words_stop, words_refused, words_more}
use Rattle.plan_reader.proofs.reading.read_words.Goals as goal

pub words-init : goal.words-init
words-init c = ap (λ (x : Attributes). read_words_rest (names_in c.args.names.now) true x (rest_of c.args.start)) (sym c.empty-set.ensures.members)

pub returns-then-first-clause-err : goal.returns-then-first-clause-err
returns-then-first-clause-err c =
    c.words.invariant ∙ words_empty _ _ _ _ c.if-first.true c.in-End.ensures.exact
    ∙ ap (λ line. Err (plan.EmptyScheme line)) (sym c.line.ensures.line)

pub returns-else-first-clause-ok : goal.returns-else-first-clause-ok
returns-else-first-clause-ok c = c.words.invariant ∙ words_end _ _ _ _ c.if-first.false c.in-End.ensures.exact

pub returns-in-Refusal-clause-err : goal.returns-in-Refusal-clause-err
returns-in-Refusal-clause-err c = c.words.invariant ∙ words_stop _ _ _ _ _ c.in-Refusal.ensures.exact

pub returns-in-Err-clause-err : goal.returns-in-Err-clause-err
returns-in-Err-clause-err c =
    c.words.invariant ∙ words_refused _ _ _ _ _ _ _ c.in-Token.ensures.exact.led (rw (← c.line-in-Token.ensures.line) c.in-Err.ensures.err)

pub words-preserved : goal.words-preserved
words-preserved c =
    c.words.invariant
    ∙ words_more _ _ _ _ _ _ _ c.in-Token.ensures.exact.led (rw (← c.line-in-Token.ensures.line) c.in-Ok.ensures.ok)
    ∙ ap (λ (x : Attributes). read_words_rest (names_in c.args.names.now) false x (rest_of c.in-Token.after)) (sym c.with-set.ensures.members)
