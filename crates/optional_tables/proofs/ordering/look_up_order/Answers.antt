-- What is left to prove of `look_up_order`: what `looked_up` requires, and its clause `within`, by `order_within`.
use Rattle.std.proofs.Common.{◌≡◌, ◌<◌, ◌∙◌, ℕ, List, Vec, not, length, subst, sym}
use Rattle.std.specs.Prelude.{All}
use Rattle.std.proofs.lemmas.Result.{IfOk-weaker}
use Rattle.std.specs.declared.alloc.Global.{Global}
use Rattle.attr_sets.specs.Sets.{attributes}
use Rattle.optional_tables.specs.Homes.{is_optional}
use Rattle.optional_tables.specs.Order.{look_up_order}
use Rattle.optional_tables.proofs.OrderLemmas.{order_within}
use Rattle.optional_tables.proofs.PositionLemmas.{members_of_positions}
use Rattle.optional_tables.proofs.ordering.look_up_order.Goals as goal

pub looked_up-requires-clause-filled : goal.looked_up-requires-clause-filled
looked_up-requires-clause-filled c =
    c.in_ok-filled.ensures.tables
    ∙ sym (members_of_positions (λ table. not (is_optional (attributes c.args.nullable) table)) c.args.tables.now)

pub returns-clause-within : goal.returns-clause-within
returns-clause-within c =
    let nullable = attributes c.args.nullable in
    let tables = c.args.tables.now in
    IfOk-weaker c.looked_up.result (λ (order : Vec ℕ Global). order.items ≡ look_up_order nullable tables)
    (λ (order : Vec ℕ Global). All (λ k. k < length tables) order.items)
    (λ order is. subst (λ (ks : List ℕ). All (λ (k : ℕ). k < length tables) ks) (sym is) (order_within nullable tables))
    c.looked_up.ensures.order
