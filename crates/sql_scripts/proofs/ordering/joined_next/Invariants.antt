-- What the loop of `joined_next` keeps: `order` and `count`.
use Rattle.std.proofs.Common.{◌≡◌, ◌+◌, ◌++◌, length}
use Rattle.attr_sets.specs.Attributes.{none}
use Rattle.attr_sets.specs.Sets.{attributes}
use Rattle.dep_model.specs.JoinOrders.{joined_next}
use Rattle.sql_migrate.specs.Script.{scheme_of_joined}
use Rattle.sql_scripts.proofs.ordering.joined_next.Given as goal

-- the order so far, and what will follow it
abbrev pub invariant-loop-round : goal.invariant-loop-round
invariant-loop-round l = record {
  order : l.order.items ++ joined_next scheme_of_joined (length l.left.items) (attributes l.seen) l.left.items
      ≡ joined_next scheme_of_joined (length l.fn.tables.items) none l.fn.tables.items;
  count : length l.left.items + l._round ≡ length l.fn.tables.items;
}
