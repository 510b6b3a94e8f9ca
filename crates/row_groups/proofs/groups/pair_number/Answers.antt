-- What is left to prove of `pair_number`: its clause `kept`, by `lead_new`, `lead_same` and `other_pair`.
use Rattle.std.proofs.Common.{inl, inr, arith, ◌≡◌, ◌<◌, ◌≤◌, ◌⊎◌, ℕ, List, [], ◌∷◌, ◌++◌, Some, length, get_or, refl, sym, ap, subst, ◌∙◌}
use Rattle.std.specs.List.{slice_get}
use Rattle.std.proofs.lemmas.Bool.{cases_lt}
use Rattle.std.proofs.lemmas.Option.{slice_get-get_or, slice_get_within}
use Rattle.row_groups.specs.Numberings.{number_at}
use Rattle.row_groups.specs.Pairs.{Gets}
use Rattle.row_groups.proofs.NumberingLemmas.{at_last, pair-Gets}
use Rattle.dep_model.proofs.ListLemmas.{same_default}
use Rattle.row_groups.proofs.PairLemmas.{lead_new, lead_same, other_pair}
use Rattle.row_groups.proofs.groups.pair_number.Goals as goal

pub returns-then-pair-len-clause-kept : goal.returns-then-pair-len-clause-kept
returns-then-pair-len-clause-kept c = λ seen kept counted near.
    lead_new seen c.args.leads.now.items _ c.args.others.now.keys c.args.other_numbers.now.items c.args.pair c.args.count kept counted (omega (arith, c.if-pair-len.true, c.len.ensures)) c.in_ok-push.ensures.items

pub returns-in-Some-clause-kept : goal.returns-in-Some-clause-kept
returns-in-Some-clause-kept c = λ seen kept counted near.
    lead_same seen c.args.leads.now.items c.args.others.now.keys c.args.other_numbers.now.items c.args.pair _ kept
    (subst (λ (ls : List (ℕ × ℕ)). slice_get ls c.args.pair.0 ≡ Some (c.args.pair.1, c.in-Some.number)) c.deref.ensures.value c.in-Some.ensures.found)

-- a lead that is there
there : (leads : List (ℕ × ℕ)) (g : ℕ) → g ≤ length leads → (g ≡ length leads → ⊥) → (lead : ℕ × ℕ) × (slice_get leads g ≡ Some lead)
there leads g near other = by (cases_lt g (length leads))
  where
    by : (g < length leads) ⊎ (length leads ≤ g) → (lead : ℕ × ℕ) × (slice_get leads g ≡ Some lead)
    by (inl low) = (get_or leads g (0, 0), slice_get-get_or leads g (0, 0) low)
    by (inr high) = absurd (other (omega (arith, near, high)))

-- the lead of the pair's first half has another second half
led : (leads ls : List (ℕ × ℕ)) (p : ℕ × ℕ) → ls ≡ leads → p.0 ≤ length leads → (p.0 ≡ length leads → ⊥)
    → ((lead : ℕ × ℕ) → slice_get ls p.0 ≡ Some lead → lead.0 ≡ p.1 → ⊥)
    → (lead : ℕ × ℕ) × (slice_get leads p.0 ≡ Some lead) × (lead.0 ≡ p.1 → ⊥)
led leads ls p same near other none =
    let found = there leads p.0 near other in
    (found.0, found.1, none found.0 (subst (λ (l : List (ℕ × ℕ)). slice_get l p.0 ≡ Some found.0) (sym same) found.1))

pub returns-then-place-len-clause-kept : goal.returns-then-place-len-clause-kept
returns-then-place-len-clause-kept c = λ seen kept counted near.
    let lead = led c.args.leads.now.items c.deref.result.now c.args.pair c.deref.ensures.value near (λ e. c.if-pair-len.false (omega (arith, e, c.len.ensures))) (c.lead_number.ensures.none c.in-None.is) in
    let at : c.in_ok-place.place ≡ length c.args.other_numbers.now.items = omega (arith, c.if-place-len.true, c.len-2.ensures) in
    other_pair seen c.args.leads.now.items c.args.others.now.keys _ c.args.other_numbers.now.items _ c.args.pair lead.0 c.args.count c.in_ok-place.place c.args.count kept counted
    c.requires.even lead.1 lead.2 (pair-Gets _ _ _ _ c.in_ok-place.ensures.keys c.in_ok-place.ensures.index) (inl (at, c.in_ok-push-2.ensures.items))
    (sym (ap (λ (l : List ℕ). number_at l c.in_ok-place.place) c.in_ok-push-2.ensures.items
    ∙ ap (number_at (c.args.other_numbers.now.items ++ c.args.count ∷ [])) at ∙ at_last c.args.other_numbers.now.items _ c.args.count refl))

-- a pair that was there before has a number
inside : (p : ℕ × ℕ) (others after : List (ℕ × ℕ)) (k size : ℕ) → Gets p others after k → size ≡ length others → (k ≡ size → ⊥) → k < size
inside p others after k size gets even other = elim gets.number [
  | inl found ↦ omega (arith, slice_get_within others k p found.1, even)
  | inr new ↦ absurd (other (new.1 ∙ sym even))
]

pub returns-clause-kept : goal.returns-clause-kept
returns-clause-kept c = λ seen kept counted near.
    let lead = led c.args.leads.now.items c.deref.result.now c.args.pair c.deref.ensures.value near (λ e. c.if-pair-len.false (omega (arith, e, c.len.ensures))) (c.lead_number.ensures.none c.in-None.is) in
    other_pair seen c.args.leads.now.items c.args.others.now.keys _ c.args.other_numbers.now.items _ c.args.pair lead.0 c.args.count c.in_ok-place.place _ kept counted
    c.requires.even lead.1 lead.2 (pair-Gets _ _ _ _ c.in_ok-place.ensures.keys c.in_ok-place.ensures.index)
    (inr ((λ e. c.if-place-len.false (omega (arith, e, c.len-2.ensures))), refl))
    (c.index.ensures ∙ same_default c.args.other_numbers.now.items c.in_ok-place.place c.index.result.now 0
    (inside c.args.pair c.args.others.now.keys _ c.in_ok-place.place _ (pair-Gets _ _ _ _ c.in_ok-place.ensures.keys c.in_ok-place.ensures.index) c.requires.even (λ e. c.if-place-len.false (omega (arith, e, c.len-2.ensures)))))

-- no pair is added where the place is not the next one
same_count : (p : ℕ × ℕ) (others after : List (ℕ × ℕ)) (k size : ℕ) → Gets p others after k → size ≡ length others → (k ≡ size → ⊥) → size ≡ length after
same_count p others after k size gets even other = elim gets.number [
  | inl found ↦ even ∙ ap length (sym found.0)
  | inr new ↦ absurd (other (new.1 ∙ sym even))
]

pub returns-clause-even : goal.returns-clause-even
returns-clause-even c =
    same_count c.args.pair c.args.others.now.keys _ c.in_ok-place.place _ (pair-Gets _ _ _ _ c.in_ok-place.ensures.keys c.in_ok-place.ensures.index) c.requires.even (λ e. c.if-place-len.false (omega (arith, e, c.len-2.ensures)))
