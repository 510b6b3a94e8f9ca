-- What is left to prove of `one_more`: its clause `level`, by the lemmas of `fd_discovery` on leaders.
use Rattle.std.proofs.Common.{sym, subst}
use Rattle.attr_sets.specs.Sets.{attributes}
use Rattle.fd_discovery.specs.Leaders.{AreLeadersOn}
use Rattle.fd_discovery.proofs.LeaderLemmas.{leaders_with}
use Rattle.candidate_search.proofs.levels.one_more.Goals as goal

pub returns : goal.returns
returns c = record {
  level = λ r tabled led.
      leaders_with c.args.width r c.args.table.now (attributes c.args.level.now.set) (attributes c.with-set.result)
      c.args.column c.column-codes.result.now c.index.result.now c.rows-order.result.now c.in_ok-leaders.leaders.items
      tabled.table c.requires.column c.column-codes.ensures.codes c.rows-order.ensures.rows c.index.ensures
      c.with-set.ensures.members
      (c.in_ok-leaders.ensures.leaders r (attributes c.args.level.now.set) c.args.column
      (subst (AreLeadersOn r (attributes c.args.level.now.set)) (sym c.deref.ensures.value) led));
}
