-- What is left to prove of `is_new`: what it answers where a column is not in the key, by `KeyLemmas`.
use Rattle.std.proofs.Common.{◌∙◌, ap}
use Rattle.attr_sets.specs.Attributes.{Attributes}
use Rattle.attr_sets.specs.Sets.{attributes, is_subset}
use Rattle.sql_schemas.proofs.KeyLemmas.{new_from}
use Rattle.sql_schemas.proofs.keys.is_new.Goals as goal

pub returns-then-not-is_subset : goal.returns-then-not-is_subset
returns-then-not-is_subset c = record {
  exact = new_from c.args.n (attributes c.args.missing) c.args.keys.now c.args.key.now c.is_said.result
      (c.if-not-is_subset.ensures.test
      ∙ ap (λ (x : Attributes). is_subset x (attributes c.args.key.now.columns)) c.full.ensures.members)
      c.is_said.ensures.exact;
}
