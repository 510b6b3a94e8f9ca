-- One end more, behind the values of the row.
use Rattle.std.proofs.Common.{arith, ℕ, ◌≡◌, ◌+◌, ◌++◌, ◌∷◌, [], List, length, ap}
use Rattle.std.proofs.lemmas.List.{length-append}
use Rattle.row_store.proofs.PieceLemmas.{pushed_ends, pushed_pieces}
use Rattle.row_store.proofs.rows.Rows.push.Goals as goal
use Rattle.row_store.proofs.rows.Rows.push.Goals.{After-unwrap}

end_is : (c : After-unwrap) → c.push.new.self.items ≡ c.self.inside.ends.items ++ (c.len.result + c.len-2.result) ∷ []
end_is c =
    rw (c.push.ensures.items, c.unwrap.ensures)
    (ap (λ (ends : List ℕ). ends ++ (c.len.result + c.len-2.result) ∷ []) c.reserve.ensures.items)

pub invariant_of-self-2 : goal.invariant_of-self-2
invariant_of-self-2 c = (
  pushed_ends c.self.inside.values c.args.row.now _ c.self.inside.ends.items _ (c.len.result + c.len-2.result)
      c.self.invariant.0 c.in_ok-append.ensures.values (omega (arith, c.len.ensures.count, c.len-2.ensures.count)) (end_is c),
  omega (arith, ap length c.in_ok-append.ensures.values, length-append c.self.inside.values c.args.row.now, c.len.ensures.count, c.len-2.ensures.count, c.if-end-gt-MOST_STORED.false),
)

pub returns-clause-rows : goal.returns-clause-rows
returns-clause-rows c =
    rw (← c.self.view_is)
    (pushed_pieces c.self.inside.values c.args.row.now _ c.self.inside.ends.items _ (c.len.result + c.len-2.result)
    c.self.invariant.0 c.in_ok-append.ensures.values (omega (arith, c.len.ensures.count, c.len-2.ensures.count)) (end_is c))
