-- What is left to prove of `test_text`: its clause `text`, by what each call adds.
use Rattle.std.proofs.Common.{◌++◌, ℕ, List, ap, ◌∙◌}
use Rattle.sql_scripts.specs.Migrating.{width_text, test_words, count_text, test_end}
use Rattle.sql_scripts.proofs.migrating.test_text.Goals as goal

pub returns : goal.returns
returns c =
    let front = width_text c.args.width.now ++ test_words in
    let lacked = count_text c.args.lacked.now in
    record {
      text = c.in_ok-add-4.ensures.added
          ∙ ap (λ (t : List ℕ). t ++ test_end) (c.in_ok-add-3.ensures.added
          ∙ ap (λ (t : List ℕ). t ++ c.deref-2.result.now) (c.in_ok-add-2.ensures.added
          ∙ ap (λ (t : List ℕ). t ++ c.deref.result.now) (c.in_ok-add.ensures.added ∙ ap (λ (t : List ℕ). t ++ test_words) c.in_ok-text.ensures.text)
          ∙ ap (λ (t : List ℕ). front ++ t) (c.deref.ensures.value ∙ c.in_ok-count_text.ensures.text))
          ∙ ap (λ (t : List ℕ). front ++ lacked ++ t) (c.deref-2.ensures.value ∙ c.in_ok-count_text-2.ensures.text));
    }
