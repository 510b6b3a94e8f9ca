-- What is left to prove of `key_dependency`: what it answers.
use Rattle.std.proofs.Common.{◌∙◌, ap, sym}
use Rattle.attr_sets.specs.Attributes.{Attributes, below, difference}
use Rattle.attr_sets.specs.Sets.{attributes}
use Rattle.dep_model.specs.Dependencies.{fd}
use Rattle.schema_printer.proofs.SpellingLemmas.{length_printed}
use Rattle.sql_schemas.proofs.table.key_dependency.Goals as goal

pub returns : goal.returns
returns c =
    let key = attributes c.args.key.now.columns in
    let whole = c.full.ensures.members ∙ ap below (c.width.ensures.count ∙ sym (length_printed c.args.schema.now)) in
    record { dependency = ap (fd key) (c.difference.ensures.members ∙ ap (λ (x : Attributes). difference x key) whole) }
