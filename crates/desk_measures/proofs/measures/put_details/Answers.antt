-- What is left to prove of `put_details`: what `put_attributes_where` requires, and what it answers of a functional
-- dependency.
use Rattle.std.proofs.Common.{Bool, subst}
use Rattle.std.specs.Prelude.{◌&&◌, nat_lt, OnOk}
use Rattle.attr_sets.specs.Attributes.{Attributes, count_below}
use Rattle.attr_sets.specs.Sets.{attributes}
use Rattle.attr_sets.specs.declared.set.TheConstants.{MOST_ATTRIBUTES}
use Rattle.desk_measures.specs.Findings.{Adds}
use Rattle.desk_measures.specs.Measures.{AreAttributes, FindsWhere}
use Rattle.desk_measures.proofs.measures.put_details.Goals as goal

pub returns-in-Fd : goal.returns-in-Fd
returns-in-Fd c =
    let s = c.args.schema.now in
    let rows = c.args.rows.now in
    let x = attributes c.in-Fd.lhs in
    let P : Attributes → Bool → Type 0 = λ (own : Attributes) (shown : Bool). OnOk c.put_attributes_where.result
    ((clean : Bool) × Adds (FindsWhere shown (AreAttributes s rows x own)) c.args.text.now.items c.put_attributes_where.new.text.items clean) in
    let shown = subst (λ (b : Bool). P (attributes c.difference-own.result) b) c.has_details-shown.ensures.details c.put_attributes_where.ensures.added in
    record {
      added = rw c.in-Fd.is
          (subst (λ (own : Attributes). P own (c.args.broken && nat_lt 1 (count_below own MOST_ATTRIBUTES)))
          c.difference-own.ensures.members shown);
    }
