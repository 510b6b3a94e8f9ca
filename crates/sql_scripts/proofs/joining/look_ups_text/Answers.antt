-- What is left to prove of `look_ups_text`: that the order is that of the tables, and the clause `text`.
use Rattle.std.proofs.Common.{◌≡◌, ◌<◌, ◌∙◌, ℕ, List, length, ap, subst, sym}
use Rattle.std.specs.Prelude.{All, IfOk}
use Rattle.std.proofs.lemmas.List.{length-map}
use Rattle.attr_sets.specs.Attributes.{Attributes}
use Rattle.optional_tables.specs.Order.{look_up_order, members_at}
use Rattle.optional_tables.specs.declared.keyed.KeyedScheme.{KeyedScheme}
use Rattle.schema_model.specs.Schemas.{nullable_of}
use Rattle.ddl_text.specs.Designs.{keyed}
use Rattle.sql_scripts.proofs.JoiningLemmas.{look_up_links}
use Rattle.sql_scripts.proofs.joining.look_ups_text.Goals as goal

pub look_ups_at-requires : goal.look_ups_at-requires
look_ups_at-requires c =
    let designs = c.args.designs.now in
    let many = ap (λ (ts : List KeyedScheme). length ts) (c.deref.ensures.value ∙ c.in_ok-keyed.ensures.keyed) ∙ length-map designs keyed in
    record {
      within = subst (λ (ks : List ℕ). All (λ k. k < length designs) ks) (sym c.deref-2.ensures.value)
          (subst (λ (n : ℕ). All (λ k. k < n) c.in_ok-order.order.items) many c.in_ok-order.ensures.within);
    }

pub returns : goal.returns
returns c =
    let s = c.args.schema.now in
    let designs = c.args.designs.now in
    record {
      text = subst (λ (ks : List ℕ). IfOk c.look_ups_at.result (λ text. text.items ≡ look_up_links s (members_at designs ks)))
          (c.deref-2.ensures.value ∙ c.in_ok-order.ensures.order
          ∙ ap (λ (x : Attributes). look_up_order x c.deref.result.now) c.nullable.ensures.nullable
          ∙ ap (look_up_order (nullable_of s)) (c.deref.ensures.value ∙ c.in_ok-keyed.ensures.keyed))
          c.look_ups_at.ensures.text;
    }
