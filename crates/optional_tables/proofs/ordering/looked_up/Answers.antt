-- What is left to prove of `looked_up`: that its invariant holds at first and stays, and what it answers.
use Rattle.std.proofs.Common.{◌≡◌, ◌<◌, ◌+◌, ◌++◌, ◌∷◌, ℕ, [], List, length, get_or, sym, ap, subst, ◌∙◌, arith}
use Rattle.std.specs.Prelude.{All}
use Rattle.std.specs.List.{remove}
use Rattle.std.proofs.lemmas.List.Edits.{length-remove}
use Rattle.std.proofs.lemmas.Option.{slice_get-get_or}
use Rattle.attr_sets.specs.Sets.{attributes}
use Rattle.dep_model.specs.JoinOrders.{put_first}
use Rattle.optional_tables.specs.Order.{is_ready_at, look_up_order, members_at}
use Rattle.optional_tables.specs.declared.keyed.KeyedScheme.{KeyedScheme}
use Rattle.optional_tables.proofs.HomeLemmas.{no_table}
use Rattle.optional_tables.proofs.OrderLemmas.{all_removed, joined_after, joined_more, joined_next, order_done, order_more, order_start, waiting_within}
use Rattle.optional_tables.proofs.PositionLemmas.{members_first}
use Rattle.optional_tables.proofs.ordering.looked_up.Goals as goal

pub loop-round-init : goal.loop-round-init
loop-round-init c =
    let nullable = attributes c.args.nullable in
    let tables = c.args.tables.now in
    record {
      joined = joined_next nullable tables c.new-order.result.items c.new-order.ensures.items ∙ sym c.requires.filled;
      order = order_start nullable tables c.new-order.result.items c.args.waiting.items c.new-order.ensures.items c.requires.waiting;
      within = waiting_within nullable tables c.args.waiting.items c.requires.waiting;
      count = omega arith;
    }

pub loop-round-preserved : goal.loop-round-preserved
loop-round-preserved c =
    let nullable = attributes c.args.nullable in
    let tables = c.args.tables.now in
    let left = c.loop-round.left.items in
    let order = c.loop-round.order.items in
    let i = c.first_ready.result in
    let k = c.remove-k.result in
    let before = c.loop-round.invariant in
    let same = c.deref-in-loop-round.ensures.value in
    let low : i < length left = subst (λ (ks : List ℕ). i < length ks) same c.first_ready.ensures.within in
    let less = length-remove left i low in
    let inside : k < length tables =
    subst (λ (j : ℕ). j < length tables) (sym c.remove-k.ensures.value) (before.within i k low) in
    let t = get_or tables k no_table in
    let joined = joined_after nullable tables order in
    record {
      joined =
          ap (λ (ks : List ℕ). members_at tables (joined_after nullable tables ks)) c.in_ok-push.ensures.items
          ∙ ap (members_at tables) (joined_more nullable tables order k)
          ∙ members_first tables joined k t (slice_get-get_or tables k no_table inside)
          ∙ ap (λ (ts : List KeyedScheme). t ∷ ts) before.joined ∙ sym c.in_ok-insert.ensures.items;
      order = order_more nullable tables order c.push.new.self.items left c.remove-k.new.self.items
          (look_up_order nullable tables) i k low c.remove-k.ensures.value c.remove-k.ensures.items
          (subst (λ (ks : List ℕ). get_or ks i k ∷ remove ks i ≡ put_first (is_ready_at nullable tables joined) [] ks) same
          (c.first_ready.ensures.first joined k (before.joined ∙ sym c.deref.ensures.value)))
          c.in_ok-push.ensures.items before.order;
      within = all_removed (λ (j : ℕ). j < length tables) left c.remove-k.new.self.items i c.remove-k.ensures.items before.within;
      count = let so_far = before.count in
          let shorter : length c.remove-k.new.self.items ≡ length (remove left i) = ap (λ (ks : List ℕ). length ks) c.remove-k.ensures.items in
          omega (arith, so_far, less, shorter);
    }

pub first_ready-requires : goal.first_ready-requires
first_ready-requires c =
    let count = c.loop-round.invariant.count in
    let some : 0 < length c.loop-round.left.items = grind (arith, c.len-round-end.ensures, c.loop-round-test.true, count) in
    record {
      not_empty = subst (λ (ks : List ℕ). 0 < length ks) (sym c.deref-in-loop-round.ensures.value) some;
      positions = subst (λ (ks : List ℕ). All (λ (j : ℕ). j < length c.args.tables.now) ks)
          (sym c.deref-in-loop-round.ensures.value) c.loop-round.invariant.within;
    }

pub returns : goal.returns
returns c =
    let count = c.loop-round.invariant.count in
    let done : length c.loop-round.left.items ≡ 0 = grind (arith, c.len-round-end.ensures, c.loop-round-test.false, count) in
    record {
      order = order_done (attributes c.args.nullable) c.args.tables.now c.loop-round.order.items c.loop-round.left.items
          (look_up_order (attributes c.args.nullable) c.args.tables.now) done c.loop-round.invariant.order;
    }
