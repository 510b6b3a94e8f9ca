-- One end more, behind the bytes of the value.
use Rattle.std.proofs.Common.{arith, ℕ, ◌≡◌, ◌+◌, ◌++◌, ◌∷◌, [], List, length, ap}
use Rattle.row_store.proofs.PieceLemmas.{pushed_ends, pushed_pieces}
use Rattle.row_store.proofs.flat_values.FlatValues.push.Goals as goal
use Rattle.row_store.proofs.flat_values.FlatValues.push.Goals.{After-unwrap}

end_is : (c : After-unwrap) → c.push.new.self.items ≡ c.self.inside.ends.items ++ (c.len.result + length c.args.value.now) ∷ []
end_is c =
    rw (c.push.ensures.items, c.unwrap.ensures)
    (ap (λ (ends : List ℕ). ends ++ (c.len.result + length c.args.value.now) ∷ []) c.reserve.ensures.items)

pub invariant_of-self-2 : goal.invariant_of-self-2
invariant_of-self-2 c =
    pushed_ends c.self.inside.bytes.items c.args.value.now _ c.self.inside.ends.items _ (c.len.result + length c.args.value.now)
    c.self.invariant c.in_ok-extend_from_slice.ensures.items (omega (arith, c.len.ensures, c.self.inside.bytes.ok.0)) (end_is c)

pub returns-clause-values : goal.returns-clause-values
returns-clause-values c =
    rw (← c.self.view_is)
    (pushed_pieces c.self.inside.bytes.items c.args.value.now _ c.self.inside.ends.items _ (c.len.result + length c.args.value.now)
    c.self.invariant c.in_ok-extend_from_slice.ensures.items (omega (arith, c.len.ensures, c.self.inside.bytes.ok.0)) (end_is c))
