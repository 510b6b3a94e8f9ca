-- The bytes between quotes one after the other.
use Rattle.std.proofs.Common.{List, ℕ, ◌++◌, refl, sym, ap, ◌∙◌, append-nil}
use Rattle.csv_text.proofs.RowLemmas.{no_bytes, escaped-next}
use Rattle.csv_text.proofs.adding.add_escaped.Goals as goal

pub loop-byte-init : goal.loop-byte-init
loop-byte-init c = sym (ap (λ (t : List ℕ). c.args.text.now.items ++ t) no_bytes ∙ append-nil c.args.text.now.items)

pub loop-byte-preserved : goal.loop-byte-preserved
loop-byte-preserved c =
    escaped-next c.args.value.now _ _ 0 c.args.text.now.items _ _ c.loop-byte-test.true refl
    c.loop-byte.invariant c.in_ok-add_doubled.ensures.doubled
