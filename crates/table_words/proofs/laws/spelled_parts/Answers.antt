-- The law `spelled_parts`, by `parts_read`.
use Rattle.table_words.proofs.SpellingLemmas.{parts_read}
use Rattle.table_words.proofs.laws.spelled_parts.Goals as goal

pub returns : goal.returns
returns c = record { law = parts_read }
