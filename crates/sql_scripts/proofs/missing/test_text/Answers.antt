-- What is left to prove of `test_text`: its clause `text`, by the name of the attribute.
use Rattle.std.proofs.Common.{◌≡◌, ℕ, List, [], subst, sym}
use Rattle.std.proofs.lemmas.Option.{get_or_from_slice_get}
use Rattle.std.specs.Prelude.{IfOk}
use Rattle.schema_model.specs.Schemas.{names_of}
use Rattle.sql_syntax.specs.Printing.{condition_text}
use Rattle.sql_scripts.specs.Listing.{test_at, test_with}
use Rattle.sql_scripts.proofs.missing.test_text.Goals as goal

pub returns : goal.returns
unfolding test_at
returns c = record {
  text = subst (λ (name : List ℕ). IfOk c.null_test.result (λ text. text.items ≡ condition_text (test_with c.args.asked name)))
      (sym (get_or_from_slice_get (names_of c.args.schema.now) c.args.attribute c.name.result.now [] c.name.ensures.name))
      c.null_test.ensures.text;
}
