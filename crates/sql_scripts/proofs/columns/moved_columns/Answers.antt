-- What is left to prove of `moved_columns`: its clause `text`, by `comma_list-map`.
use Rattle.std.proofs.Common.{◌≡◌, ℕ, List, sym, subst}
use Rattle.std.specs.Prelude.{IfOk}
use Rattle.attr_sets.specs.Sets.{attributes}
use Rattle.dep_model.specs.Projections.{members_below}
use Rattle.schema_model.specs.Schemas.{width_of}
use Rattle.sql_syntax.specs.Printing.{item_text}
use Rattle.sql_migrate.specs.Moving.{moved_at}
use Rattle.sql_syntax.proofs.ListLemmas.{comma_list-map}
use Rattle.sql_scripts.proofs.columns.moved_columns.Goals as goal

pub returns : goal.returns
returns c =
    let s = c.args.schema.now in
    record {
      text = subst (λ (t : List ℕ). IfOk c.columns_text.result (λ text. text.items ≡ t))
          (sym (comma_list-map item_text (moved_at s c.args.how) (members_below (width_of s) (attributes c.args.set))))
          c.columns_text.ensures.text;
    }
