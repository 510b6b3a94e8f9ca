-- What is left to prove of `hits_in`: that the invariant of its loop stays, and its clause `hits`, by `WordLemmas`.
use Rattle.std.proofs.Common.{List, ℕ, Option, ◌∷◌, ◌+◌, ◌<◌, length, refl, subst, ap, ◌∙◌}
use Rattle.std.proofs.lemmas.Bool.{lt-ltb}
use Rattle.std.specs.Prelude.{IfSome}
use denote.Ref.{Bor}
use Rattle.lexer.proofs.Steps.{is_some}
use Rattle.nearest_lines.specs.Words.{words_after}
use Rattle.nearest_lines.proofs.WordLemmas.{count_on}
use Rattle.nearest_lines.proofs.forms.hits_in.Goals as goal

pub words-preserved : goal.words-preserved
words-preserved c =
    let word = c.cut_word.result.0.now in
    let rest = c.words.rest.now in
    count_on c.args.words.now c.args.form.now rest c.in-Some.form.now word c.words.count c.hit-count.result
    (c.words.count + c.hit-count.result) c.words.invariant
    (c.cut_word.ensures.cut ∙ ap (λ (after : Option (Bor (List ℕ))). word ∷ words_after after) c.in-Some.is)
    (lt-ltb 0 (length word) (is_some _ c.if-is_empty.ensures))
    (subst (λ (after : Option (Bor (List ℕ))). IfSome after (λ left. length word + length left.now < length rest)) c.in-Some.is c.cut_word.ensures.shorter)
    c.hit-count.ensures.hit c.hit-count.ensures.few refl
