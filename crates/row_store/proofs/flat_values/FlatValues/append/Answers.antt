-- The ends of the others, counted from behind the bytes before.
use Rattle.std.proofs.Common.{arith, ℕ, ◌+◌, ◌++◌, List, map, ap, ◌∙◌}
use Rattle.row_store.proofs.PieceLemmas.{all_ends, appended_ends, appended_pieces}
use Rattle.row_store.proofs.flat_values.FlatValues.append.Goals as goal

pub add_ends-requires-clause-fits_u32 : goal.add_ends-requires-clause-fits_u32
add_ends-requires-clause-fits_u32 c =
    rw c.deref-2.ensures.value
    (all_ends c.len-count.result _ 4294967295 _ c.other.invariant (omega (arith, c.len.ensures, c.other.inside.bytes.ok.0, c.if-count-len-gt-MOST_STORED.false)))

pub invariant_of-self-2 : goal.invariant_of-self-2
invariant_of-self-2 c =
    appended_ends c.self.inside.bytes.items c.other.inside.bytes.items _ c.self.inside.ends.items c.other.inside.ends.items _ c.len-count.result
    c.self.invariant c.other.invariant
    (c.in_ok-extend_from_slice.ensures.items ∙ ap (λ (bytes : List ℕ). c.self.inside.bytes.items ++ bytes) c.deref.ensures.value)
    (omega (arith, c.len-count.ensures, c.self.inside.bytes.ok.0))
    (c.add_ends.ensures.ends ∙ ap (λ (ends : List ℕ). ends ++ map (λ end. c.len-count.result + end) c.deref-2.result.now) c.reserve.ensures.items
    ∙ ap (λ (ends : List ℕ). c.self.inside.ends.items ++ map (λ end. c.len-count.result + end) ends) c.deref-2.ensures.value)

pub returns-clause-values : goal.returns-clause-values
returns-clause-values c =
    rw (← c.self.view_is, ← c.other.view_is)
    (appended_pieces c.self.inside.bytes.items c.other.inside.bytes.items _ c.self.inside.ends.items c.other.inside.ends.items _ c.len-count.result
    c.self.invariant
    (c.in_ok-extend_from_slice.ensures.items ∙ ap (λ (bytes : List ℕ). c.self.inside.bytes.items ++ bytes) c.deref.ensures.value)
    (omega (arith, c.len-count.ensures, c.self.inside.bytes.ok.0))
    (c.add_ends.ensures.ends ∙ ap (λ (ends : List ℕ). ends ++ map (λ end. c.len-count.result + end) c.deref-2.result.now) c.reserve.ensures.items
    ∙ ap (λ (ends : List ℕ). c.self.inside.ends.items ++ map (λ end. c.len-count.result + end) ends) c.deref-2.ensures.value))
