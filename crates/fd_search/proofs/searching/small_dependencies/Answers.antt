-- What is left to prove of `small_dependencies`: what its calls require, and its clauses `small` and
-- `within`, by `ListLemmas` and `SmallLemmas`.
use Rattle.std.proofs.Common.{◌≡◌, ◌<◌, ℕ, ap, ◌∙◌, arith}
use Rattle.std.specs.Prelude.{All}
use Rattle.std.specs.List.{range_with_len}
use Rattle.std.proofs.lemmas.List.Elements.{All-same}
use Rattle.attr_sets.specs.Attributes.{below}
use Rattle.candidate_search.specs.Levels.{AreTabled}
use Rattle.candidate_search.specs.Sides.{HasMinimal, rights_of}
use Rattle.dep_model.specs.Dependencies.{IsWithin}
use Rattle.dep_model.specs.Deps.{dependencies_of}
use Rattle.dep_model.proofs.DepLemmas.{dependencies_all-to}
use Rattle.fd_search.proofs.ListLemmas.{range_within}
use Rattle.fd_search.proofs.SmallLemmas.{small_within}
use Rattle.fd_search.proofs.searching.small_dependencies.Goals as goal
use Rattle.fd_search.proofs.searching.small_dependencies.Goals.{After-deref-2}

-- the sides, once they are found
tabled : (c : After-deref-2) → AreTabled c.args.width c.args.rows.now c.in_ok-table.table
tabled c = record { over = c.requires.over; table = c.in_ok-table.ensures.table }

minimal_sides : (c : After-deref-2) → All (HasMinimal c.args.width c.args.most c.args.rows.now) c.deref-2.result.now
minimal_sides c =
    All-same (HasMinimal c.args.width c.args.most c.args.rows.now) c.deref-2.result.now c.in_ok-sides.sides.items
    c.deref-2.ensures.value (c.in_ok-sides.ensures.minimal c.args.rows.now (tabled c) (λ i d l. absurd (omega (arith, l))))

sides_rights : (c : After-deref-2) → rights_of c.deref-2.result.now ≡ range_with_len 0 c.args.width
sides_rights c = ap rights_of c.deref-2.ensures.value ∙ c.in_ok-sides.ensures.rights ∙ c.deref.ensures.value
    ∙ c.in_ok-rights.ensures.columns

pub minimal_left_sides-requires-clause-rights : goal.minimal_left_sides-requires-clause-rights
minimal_left_sides-requires-clause-rights c =
    All-same (λ (k : ℕ). k < c.args.width) c.deref.result.now (range_with_len 0 c.args.width)
    (c.deref.ensures.value ∙ c.in_ok-rights.ensures.columns) (range_within c.args.width)

pub in_order-requires-clause-sides : goal.in_order-requires-clause-sides
in_order-requires-clause-sides c =
    (c.args.rows.now, minimal_sides (goal.at.in_order-requires-clause-sides c).After-deref-2)

pub returns-clause-small : goal.returns-clause-small
returns-clause-small c =
    let at = (goal.at.returns-clause-small c).After-deref-2 in
    c.in_ok-in_order.ensures.small c.args.rows.now (minimal_sides at) (sides_rights at)

pub returns-clause-within : goal.returns-clause-within
returns-clause-within c =
    let at = (goal.at.returns-clause-within c).After-deref-2 in
    dependencies_all-to (IsWithin (below c.args.width)) c.in_ok-in_order.field-0.items
    (small_within c.args.width c.args.most c.args.rows.now (dependencies_of c.in_ok-in_order.field-0.items)
    (c.in_ok-in_order.ensures.small c.args.rows.now (minimal_sides at) (sides_rights at)))
