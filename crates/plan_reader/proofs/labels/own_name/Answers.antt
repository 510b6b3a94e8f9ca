-- What is left to prove of `own_name`: what `unwrap` requires, since a word is a name.
use Rattle.schema_model.proofs.NameLemmas.{bare_name_is_name}
use Rattle.plan_reader.proofs.labels.own_name.Goals as goal

pub unwrap-requires : goal.unwrap-requires
unwrap-requires c = c.new.ensures.name.1 (bare_name_is_name c.args.word.now c.requires)
