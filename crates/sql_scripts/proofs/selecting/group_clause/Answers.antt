-- What is left to prove of `group_clause`: its clause `text`, by `group_not_empty`.
use Rattle.std.proofs.Common.{◌≡◌, ◌++◌, ℕ, List, sym, subst, ap, ◌∙◌, append-nil}
use Rattle.std.specs.Prelude.{IfOk, codes}
use Rattle.attr_sets.specs.Sets.{attributes}
use Rattle.dep_model.specs.Projections.{members_below}
use Rattle.schema_model.specs.Schemas.{width_of}
use Rattle.sql_check.specs.Columns.{column_at}
use Rattle.sql_scripts.proofs.ListingLemmas.{group_not_empty}
use Rattle.sql_scripts.proofs.selecting.group_clause.Goals as goal

pub returns : goal.returns
returns c =
    let s = c.args.schema.now in
    record {
      text = subst (λ (t : List ℕ). IfOk c.grouped_text.result (λ text. text.items ≡ t))
          (append-nil (codes " GROUP BY " ++ c.deref.result.now)
          ∙ ap (λ (t : List ℕ). codes " GROUP BY " ++ t) (c.deref.ensures.value ∙ c.in_ok-columns.ensures.text)
          ∙ group_not_empty (column_at s (codes "d")) (members_below (width_of s) (attributes c.args.set)) (sym c.has_members.ensures.members ∙ c.if-not-has_members.false))
          c.grouped_text.ensures.text;
    }
