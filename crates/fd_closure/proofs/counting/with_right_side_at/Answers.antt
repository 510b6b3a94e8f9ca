-- What is left to prove of `with_right_side_at`: what it answers in one case, by `grows-by_one`.
use Rattle.std.proofs.lemmas.List.Elements.{All-contains_itself}
use Rattle.attr_sets.specs.Sets.{attributes}
use Rattle.fd_closure.proofs.GrowthLemmas.{grows-by_one}
use Rattle.fd_closure.proofs.counting.with_right_side_at.Goals as goal

pub returns-then-k-deps : goal.returns-then-k-deps
returns-then-k-deps c =
    let more = c.with_right_side.ensures in
    record {
      grows = grows-by_one c.args.deps.now _ (attributes c.args.closed) (attributes c.with_right_side.result)
          (All-contains_itself c.args.deps.now c.args.k _ c.if-k-deps.true)
          more.grows more.within more.implied;
    }
