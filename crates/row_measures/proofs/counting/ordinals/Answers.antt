-- What is left to prove of `ordinals`: that the invariant of its loop holds at first and stays, and that its
-- sums fit.
use Rattle.std.proofs.Common.{◌≡◌, ◌+◌, ◌<◌, ◌++◌, ℕ, List, [], ◌∷◌, length, sym, ap, ◌∙◌, ⊎_elim, arith}
use Rattle.std.proofs.lemmas.Bool.{cases_lt}
use Rattle.std.proofs.lemmas.List.{get_or_append_left, get_or_push, length-append}
use Rattle.attr_sets.specs.Attributes.{Attributes, count_below}
use Rattle.attr_sets.proofs.AttributesLemmas.{count_below-le, count_below-member, count_below-outside}
use Rattle.row_groups.specs.Numberings.{number_at}
use Rattle.dep_model.proofs.SchemeLemmas.{count_below-start}
use Rattle.legality.specs.Parts.{flag_at}
use Rattle.row_measures.specs.Broken.{ordinal}
use Rattle.row_measures.proofs.counting.ordinals.Goals as goal
use Rattle.row_measures.proofs.counting.ordinals.Goals.{then-flag, else-flag}

pub loop-flag-init : goal.loop-flag-init
loop-flag-init c = record {
  count = sym (count_below-start (flag_at c.args.flags.now));
  one_each = ap length c.in_ok-numbers.ensures.items;
  each = λ h low. absurd (omega (arith, low));
}

pub overflow_add-count : goal.overflow_add-count
overflow_add-count c =
    omega (arith, c.loop-flag.invariant.count, count_below-le c.loop-flag.flag-index (flag_at c.args.flags.now), c.loop-flag-test.true, c.requires.fits_u32)

-- one number more
each_more : (numbers items : List ℕ) (n last : ℕ) (f : ℕ → ℕ) → length numbers ≡ n → items ≡ numbers ++ last ∷ [] → last ≡ f n
    → ((h : ℕ) → h < n → number_at numbers h ≡ f h) → (h : ℕ) → h < n + 1 → number_at items h ≡ f h
each_more numbers items n last f size pushed is old h low = ⊎_elim
    (λ before. ap (λ (l : List ℕ). number_at l h) pushed ∙ get_or_append_left numbers (last ∷ []) 0 h (omega (arith, before, size)) ∙ old h before)
    (λ at_end.
    let at : n ≡ h = omega (arith, low, at_end) in
    ap (λ (l : List ℕ). number_at l h) pushed ∙ get_or_push numbers last 0 h (size ∙ at) ∙ is ∙ ap f at)
    (cases_lt h n)

pub loop-flag-preserved : goal.loop-flag-preserved
loop-flag-preserved c =
    let set : Attributes = flag_at c.args.flags.now in
    let h : ℕ = c.loop-flag.flag-index in
    let count : c.if-flag.count ≡ count_below set (h + 1) = elim c.if-flag.branch [
      | then-flag w ↦ w.count-is ∙ ap (λ (m : ℕ). m + 1) c.loop-flag.invariant.count ∙ sym (count_below-member h set w.if-flag.true)
      | else-flag w ↦ w.count-is ∙ c.loop-flag.invariant.count ∙ sym (count_below-outside h set w.if-flag.false)
    ] in
    record {
      count = count;
      one_each = ap length c.in_ok-push.ensures.items ∙ omega (arith, length-append c.loop-flag.numbers.items (c.if-flag.count ∷ []), c.loop-flag.invariant.one_each);
      each = each_more c.loop-flag.numbers.items _ h c.if-flag.count (ordinal c.args.flags.now) c.loop-flag.invariant.one_each c.in_ok-push.ensures.items count c.loop-flag.invariant.each;
    }
