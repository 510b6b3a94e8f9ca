-- What is left to prove of `Cursor::words`: its clauses `ok` and `err` and that a round of its loop
-- keeps the invariant, by `WordLemmas`.
use Rattle.std.proofs.Common.{◌∙◌, sym, ap, arith}
use Rattle.std.proofs.lemmas.Bool.Decides.{nat_tests}
use Rattle.attr_sets.specs.Attributes.{Attributes}
use Rattle.attr_sets.proofs.AttributesLemmas.{same_at}
use Rattle.schema_grammar.specs.Rests.{words}
use Rattle.tokens.specs.Views.{names_in, rest_of}
use Rattle.tokens.proofs.WordLemmas.{words_here, words_before, words_refused, words_more}
use Rattle.tokens.proofs.cursor.Cursor.words.Goals as goal

pub returns-in-End-clause-ok : goal.returns-in-End-clause-ok
returns-in-End-clause-ok c = c.words.invariant.same ∙ words_here _ _ _ c.in-End.ensures.exact.marks

pub returns-in-Refusal-clause-ok : goal.returns-in-Refusal-clause-ok
returns-in-Refusal-clause-ok c = c.words.invariant.same ∙ words_here _ _ _ c.in-Refusal.ensures.exact.marks

pub returns-then-not-is_word-clause-ok : goal.returns-then-not-is_word-clause-ok
returns-then-not-is_word-clause-ok c =
    c.words.invariant.same ∙ words_before _ _ _ _ _ c.in-Token.ensures.exact.led (sym c.if-not-is_word.ensures.exact)

pub returns-in-Err-clause-err : goal.returns-in-Err-clause-err
returns-in-Err-clause-err c =
    let word = sym c.is_word.ensures.exact ∙ c.if-not-is_word.false in
    c.words.invariant.same ∙ words_refused _ _ _ _ _ _ c.in-Token.ensures.exact.led word (rw (← c.line.ensures.line) c.in-Err.ensures.err)

pub words-preserved : goal.words-preserved
words-preserved c =
    let word = sym c.is_word.ensures.exact ∙ c.if-not-is_word.false in
    record {
      same = c.words.invariant.same
          ∙ words_more _ _ _ _ _ _ c.in-Token.ensures.exact.led word (rw (← c.line.ensures.line) c.in-Ok.ensures.ok)
          ∙ ap (λ (x : Attributes). words (names_in c.args.names.now) x (rest_of c.in-Token.after)) (sym c.with-set.ensures.members);
      within = λ k m. grind (
        arith,
        nat_tests,
        c.words.invariant.within k,
        same_at c.with-set.ensures.members k,
        m,
        c.in-Ok.ensures.inside,
      );
    }
