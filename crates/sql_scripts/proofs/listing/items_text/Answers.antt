-- What is left to prove of `items_text`: its clause `text`, by `comma_list-map`.
use Rattle.std.proofs.Common.{◌≡◌, ◌+◌, ℕ, List, sym, subst}
use Rattle.std.specs.Prelude.{IfOk}
use Rattle.attr_sets.specs.Attributes.{count_below}
use Rattle.attr_sets.specs.Sets.{attributes}
use Rattle.dep_model.specs.Projections.{members_below}
use Rattle.schema_model.specs.Schemas.{width_of}
use Rattle.sql_syntax.specs.Printing.{item_text}
use Rattle.sql_scripts.specs.Listing.{item_of}
use Rattle.sql_syntax.proofs.ListLemmas.{comma_list-map}
use Rattle.sql_scripts.proofs.listing.items_text.Goals as goal

pub returns : goal.returns
returns c =
    let s = c.args.schema.now in
    let x = attributes c.args.set in
    record {
      text = subst (λ (t : List ℕ). IfOk c.listed_text.result (λ text. text.items ≡ t))
          (sym (comma_list-map item_text (λ (k : ℕ). item_of s c.args.listed (count_below x k + 1) k) (members_below (width_of s) x)))
          c.listed_text.ensures.text;
    }
