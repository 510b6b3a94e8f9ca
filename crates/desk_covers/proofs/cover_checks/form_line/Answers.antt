-- What is left to prove of `form_line`: its clause, by `functional_told`.
use Rattle.std.proofs.Common.{◌≡◌, ℕ, List, [], ◌++◌, Bool, ap, subst, sym, ◌∙◌, append-nil}
use Rattle.std.specs.Prelude.{IfOk, codes}
use Rattle.desk_covers.specs.CoverChecks.{form_words}
use Rattle.desk_covers.proofs.KindLemmas.{functional_told}
use Rattle.desk_texts.specs.Texts.{line}
use Rattle.desk_covers.proofs.cover_checks.form_line.Goals as goal

pub returns : goal.returns
returns c =
    let told = functional_told c.args.schema.now c.is_functional.result (rw (c.deps.ensures.deps) at c.is_functional.ensures.functional) in
    let words = c.form_words-words.ensures.words ∙ ap (form_words c.args.form) (sym told) in
    record {
      text = subst (λ (t : List ℕ). IfOk c.line_of.result (λ text. text.items ≡ line t)) (append-nil (c.form_words-words.result.now ++ []) ∙ append-nil c.form_words-words.result.now ∙ words)
          c.line_of.ensures.line;
    }
