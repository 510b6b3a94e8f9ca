-- What is left to prove of `over_into`: its clause `form`, by whether the word is `into`, whatever is asked.
use Rattle.std.proofs.Common.{◌≡◌, ℕ, true, false, List, Some, None, codes, sym, ◌∙◌}
use Rattle.std.specs.Str.{bytes_eq}
use Rattle.desk_words.specs.Commands.{task_form}
use Rattle.desk_words.specs.Forms.{Task, over_schema, where_into}
use Rattle.desk_words.proofs.migrate.over_into.Goals as goal

into : (word schema : List ℕ) (task : Task) → bytes_eq word (codes "into") ≡ true → Some (over_schema schema task) ≡ where_into word schema task
into word schema task is = rw is

other : (word schema : List ℕ) (task : Task) → bytes_eq word (codes "into") ≡ false → None ≡ where_into word schema task
other word schema task is = rw is

pub returns-then-is_word : goal.returns-then-is_word
returns-then-is_word c = record {
  form = c.over.ensures.form ∙ into c.args.word.now c.args.schema.now (task_form c.args.task) (sym c.is_word.ensures.exact ∙ c.if-is_word.true);
}

pub returns-else-is_word : goal.returns-else-is_word
returns-else-is_word c = record {
  form = other c.args.word.now c.args.schema.now (task_form c.args.task) (sym c.is_word.ensures.exact ∙ c.if-is_word.false);
}
