-- What is left to prove of `lead_bucket`, by what numbers and their first positions are, and `leads`.
use Rattle.std.proofs.Common.{length, [], sym, ap, ◌∙◌}
use Rattle.row_groups.proofs.BucketLemmas.{first_inside, firsts_are, leads, number_inside, told_of}
use Rattle.row_groups.proofs.leaders.lead_bucket.Goals as goal

pub lead_rows-requires-clause-numbers : goal.lead_rows-requires-clause-numbers
lead_rows-requires-clause-numbers c = λ k d l.
    let numbered = c.in_ok-numbers.ensures.numbered in
    number_inside _ _ _ _ (firsts_are [] _ _ _ _ _ numbered.1 c.deref.ensures.value c.in_ok-firsts.ensures.firsts)
    c.deref-3.ensures.value c.deref-4.ensures.value k d l

pub lead_rows-requires-clause-firsts : goal.lead_rows-requires-clause-firsts
lead_rows-requires-clause-firsts c = λ k d l.
    let numbered = c.in_ok-numbers.ensures.numbered in
    first_inside _ _ _ _ (firsts_are [] _ _ _ _ _ numbered.1 c.deref.ensures.value c.in_ok-firsts.ensures.firsts)
    (numbered.1.one_each ∙ c.requires.even ∙ sym (ap length c.deref-2.ensures.value)) c.deref-4.ensures.value k d l

pub returns-clause-led : goal.returns-clause-led
returns-clause-led c = λ value n place is i low same.
    let numbered = c.in_ok-numbers.ensures.numbered in
    leads _ value n place _ _ is [] _ _ _ numbered.0 numbered.1
    (firsts_are [] _ _ _ _ _ numbered.1 c.deref.ensures.value c.in_ok-firsts.ensures.firsts)
    (told_of _ _ _ _ _ _ _ c.deref-2.ensures.value c.deref-3.ensures.value c.deref-4.ensures.value c.lead_rows.ensures.led)
    i low same
