-- What is left to prove of `rows_with`: its clause `text`, by `rows_printed` and `all_printed`.
use Rattle.std.proofs.Common.{◌≡◌, ◌∙◌, ℕ, List, sym, subst}
use Rattle.std.specs.Prelude.{IfOk}
use Rattle.attr_sets.specs.Sets.{attributes}
use Rattle.dep_model.specs.Projections.{members_below}
use Rattle.schema_model.specs.Schemas.{width_of}
use Rattle.sql_scripts.proofs.ItemLemmas.{all_printed, rows_printed}
use Rattle.sql_scripts.proofs.filling.rows_with.Goals as goal

pub returns-then-not-has_members : goal.returns-then-not-has_members
returns-then-not-has_members c =
    let s = c.args.schema.now in
    record {
      text = c.new.ensures.items ∙ all_printed s (members_below (width_of s) (attributes c.args.set))
          (sym c.has_members.ensures.members ∙ c.if-not-has_members.true);
    }

pub returns : goal.returns
returns c =
    let s = c.args.schema.now in
    record {
      text = subst (λ (t : List ℕ). IfOk c.rows_clause.result (λ text. text.items ≡ t))
          (rows_printed s (members_below (width_of s) (attributes c.args.set))
          (sym c.has_members.ensures.members ∙ c.if-not-has_members.false))
          c.rows_clause.ensures.text;
    }
