-- What is left to prove of `always_filled`: that a round of its loop keeps the invariant, and that the positions are there.
use Rattle.std.proofs.Common.{◌<◌, ◌∙◌, ℕ, Bool, List, not, length, sym, ap, subst, arith}
use Rattle.std.specs.Prelude.{All}
use Rattle.std.proofs.lemmas.List.{take_all}
use Rattle.attr_sets.specs.Sets.{attributes}
use Rattle.optional_tables.specs.Homes.{is_optional}
use Rattle.optional_tables.specs.Order.{positions_from}
use Rattle.optional_tables.specs.declared.keyed.KeyedScheme.{KeyedScheme}
use Rattle.optional_tables.proofs.HomeLemmas.{no_table}
use Rattle.optional_tables.proofs.PositionLemmas.{positions_next, positions_within}
use Rattle.optional_tables.proofs.ordering.always_filled.Goals as goal

pub loop-k-preserved : goal.loop-k-preserved
loop-k-preserved c =
    positions_next (λ table. not (is_optional (attributes c.args.nullable) table)) c.args.tables.now c.loop-k.k no_table
    (not c.is_optional.result) c.loop-k.found.items c.push_if.new.found.items
    (omega (arith, c.loop-k-test.true)) (ap not c.is_optional.ensures.optional) c.loop-k.invariant
    c.in_ok-push_if.ensures.added

pub returns-clause-within : goal.returns-clause-within
returns-clause-within c =
    let test : KeyedScheme → Bool = λ table. not (is_optional (attributes c.args.nullable) table) in
    let tables = c.args.tables.now in
    let is = c.loop-k.invariant
    ∙ ap (positions_from test 0) (take_all c.loop-k.k tables (omega (arith, c.loop-k-test.false))) in
    subst (λ (ks : List ℕ). All (λ (k : ℕ). k < length tables) ks) (sym is) (positions_within test tables)
