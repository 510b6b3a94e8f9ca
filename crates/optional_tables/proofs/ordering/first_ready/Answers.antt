-- What is left to prove of `first_ready`: what it answers, and that its invariant stays, by `OrderLemmas`.
use Rattle.std.proofs.Common.{◌≡◌, ◌<◌, ◌∙◌, ◌∷◌, ℕ, List, true, false, length, get_or, sym, ap, arith}
use Rattle.std.specs.List.{remove}
use Rattle.std.proofs.lemmas.List.{get_or_default}
use Rattle.std.proofs.lemmas.Option.{slice_get-get_or}
use Rattle.attr_sets.specs.Sets.{attributes}
use Rattle.optional_tables.specs.Homes.{has_home}
use Rattle.optional_tables.specs.Order.{is_ready_at}
use Rattle.optional_tables.specs.declared.keyed.KeyedScheme.{KeyedScheme}
use Rattle.optional_tables.proofs.HomeLemmas.{no_table}
use Rattle.optional_tables.proofs.OrderLemmas.{found_first, passed_over, ready_there}
use Rattle.optional_tables.proofs.ordering.first_ready.Goals as goal

pub returns-then-has_home-clause-first : goal.returns-then-has_home-clause-first
returns-then-has_home-clause-first c positions k same =
    let nullable = attributes c.args.nullable in
    let tables = c.args.tables.now in
    let left = c.args.left.now in
    let i = c.loop-i.i in
    let low : i < length left = omega (arith, c.loop-i-test.true) in
    let j = get_or left i 0 in
    let at = slice_get-get_or tables j no_table (c.requires.positions i 0 low) in
    let passes : is_ready_at nullable tables positions j ≡ true =
    ready_there nullable tables positions j (get_or tables j no_table) at
    ∙ ap (λ (ts : List KeyedScheme). has_home nullable ts (get_or tables j no_table)) same
    ∙ sym c.has_home.ensures.home ∙ c.if-has_home.true in
    ap (λ (h : ℕ). h ∷ remove left i) (get_or_default left i k 0 low)
    ∙ found_first (is_ready_at nullable tables positions) left i 0 low passes ∙ c.loop-i.invariant positions same

pub loop-i-preserved : goal.loop-i-preserved
loop-i-preserved c positions same =
    let nullable = attributes c.args.nullable in
    let tables = c.args.tables.now in
    let left = c.args.left.now in
    let i = c.loop-i.i in
    let low : i < length left = omega (arith, c.loop-i-test.true) in
    let j = get_or left i 0 in
    let at = slice_get-get_or tables j no_table (c.requires.positions i 0 low) in
    let fails : is_ready_at nullable tables positions j ≡ false =
    ready_there nullable tables positions j (get_or tables j no_table) at
    ∙ ap (λ (ts : List KeyedScheme). has_home nullable ts (get_or tables j no_table)) same
    ∙ sym c.has_home.ensures.home ∙ c.if-has_home.false in
    passed_over (is_ready_at nullable tables positions) left i 0 low fails ∙ c.loop-i.invariant positions same
