-- What is left to prove of `lead_pairs`, by what numbers and their first positions are, and `leads`.
use Rattle.std.proofs.Common.{ℕ, List, length, get_or, sym, ap, subst, ◌∙◌}
use Rattle.row_groups.specs.Numberings.{AreNumbered}
use Rattle.row_groups.proofs.BucketLemmas.{first_inside, firsts_are, leads, number_inside, told_of}
use Rattle.row_groups.proofs.pair_leaders.lead_pairs.Goals as goal

pub lead_rows-requires-clause-numbers : goal.lead_rows-requires-clause-numbers
lead_rows-requires-clause-numbers c = λ k d l.
    let numbered = c.in_ok-numbers.ensures.numbered in
    number_inside _ _ _ _ (firsts_are (0, 0) _ _ _ _ _ numbered.1 c.deref-2.ensures.value c.in_ok-firsts.ensures.firsts)
    c.deref-4.ensures.value c.deref-5.ensures.value k d l

pub lead_rows-requires-clause-firsts : goal.lead_rows-requires-clause-firsts
lead_rows-requires-clause-firsts c = λ k d l.
    let numbered = c.in_ok-numbers.ensures.numbered in
    first_inside _ _ _ _ (firsts_are (0, 0) _ _ _ _ _ numbered.1 c.deref-2.ensures.value c.in_ok-firsts.ensures.firsts)
    (numbered.1.one_each ∙ ap length c.deref.ensures.value ∙ c.requires.even ∙ sym (ap length c.deref-3.ensures.value)) c.deref-5.ensures.value k d l

pub returns-clause-led : goal.returns-clause-led
returns-clause-led c = λ value n place is i low same.
    let numbered = c.in_ok-numbers.ensures.numbered in
    let numbered_there : AreNumbered (λ k. get_or c.args.bucket.now.pairs.items k (0, 0)) (length c.args.bucket.now.pairs.items) numbered.0 c.in_ok-numbers.numbers.items =
    subst (λ (ps : List (ℕ × ℕ)). AreNumbered (λ k. get_or ps k (0, 0)) (length ps) numbered.0 c.in_ok-numbers.numbers.items) c.deref.ensures.value numbered.1 in
    leads _ value n place _ _ is (0, 0) _ _ _ numbered.0 numbered_there
    (firsts_are (0, 0) _ _ _ _ _ numbered.1 c.deref-2.ensures.value c.in_ok-firsts.ensures.firsts)
    (told_of _ _ _ _ _ _ _ c.deref-3.ensures.value c.deref-4.ensures.value c.deref-5.ensures.value c.lead_rows.ensures.led)
    i low same
