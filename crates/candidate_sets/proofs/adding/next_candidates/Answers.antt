-- What is left to prove of `next_candidates`: what `fresh_sets` requires, and its clauses `candidates` and
-- `refusal`, by `NextLemmas`.
use Rattle.std.proofs.Common.{◌≡◌, ◌<◌, ◌^◌, ◌++◌, ◌∷◌, List, filter, sym, ap, subst, ◌∙◌, arith}
use Rattle.std.specs.Prelude.{All, IsPermutation}
use Rattle.std.proofs.lemmas.Result.{err_from_is_err_and}
use Rattle.attr_sets.specs.Attributes.{Attributes, below, difference, only}
use Rattle.attr_sets.specs.declared.set.AttrSet.{AttrSet}
use Rattle.attr_sets.specs.declared.set.TheConstants.{MOST_ATTRIBUTES}
use Rattle.attr_sets.specs.Sets.{attributes}
use Rattle.dep_model.proofs.FailureLemmas.{refuses_also}
use Rattle.candidate_sets.specs.Standing.{HasMoreCandidates}
use Rattle.candidate_sets.specs.Growing.{HasManyFresh, can_grow, is_apart}
use Rattle.candidate_sets.specs.declared.refusal.TheConstants.{MOST_CANDIDATES}
use Rattle.candidate_sets.proofs.NextLemmas.{hits_apart, hits_differ, kept_ascend, kept_short, many_are, next_are}
use Rattle.candidate_sets.proofs.adding.next_candidates.Goals as goal
use Rattle.candidate_sets.proofs.adding.next_candidates.Goals.{After-deref-2}

-- ---- what is known before the hit sets grow
kept_is : (c : After-deref-2) → c.deref.result.now ≡ filter (is_apart (attributes c.args.evidence)) c.args.candidates.now
kept_is c = c.deref.ensures.value ∙ c.in_ok-next.ensures.apart

hits_is : (c : After-deref-2)
    → c.deref-2.result.now ≡ filter (can_grow (attributes c.args.evidence) c.args.most) c.args.candidates.now
hits_is c = c.deref-2.ensures.value ∙ c.in_ok-hits.ensures.hits

columns_is : (c : After-deref-2) → attributes c.without-columns.result
    ≡ difference (difference (below c.args.width) (attributes c.args.evidence)) (only c.args.right)
columns_is c =
    c.without-columns.ensures.members
    ∙ ap (λ (x : Attributes). difference x (only c.args.right))
    (c.difference.ensures.members ∙ ap (λ (x : Attributes). difference x (attributes c.args.evidence)) c.full.ensures.members)

numbers : (c : After-deref-2) → All (λ (s : AttrSet). s.0 < 2 ^ MOST_ATTRIBUTES) c.deref.result.now
numbers c = subst (λ (sets : List AttrSet). All (λ (s : AttrSet). s.0 < 2 ^ MOST_ATTRIBUTES) sets)
    (sym c.deref.ensures.value) c.in_ok-next.ensures.numbers

pub fresh_sets-requires-clause-ascending : goal.fresh_sets-requires-clause-ascending
fresh_sets-requires-clause-ascending c =
    let (es, are) = c.requires.candidates in
    let at = (goal.at.fresh_sets-requires-clause-ascending c).After-deref-2 in
    kept_ascend c.args.width c.args.most c.args.right (attributes c.args.evidence) c.args.candidates.now es are
    c.requires.width c.deref.result.now c.deref-2.result.now (kept_is at) (hits_is at) (attributes c.without-columns.result)
    (columns_is at)

pub fresh_sets-requires-clause-within_limit : goal.fresh_sets-requires-clause-within_limit
fresh_sets-requires-clause-within_limit c =
    let (es, are) = c.requires.candidates in
    let at = (goal.at.fresh_sets-requires-clause-within_limit c).After-deref-2 in
    let short = kept_short c.args.width c.args.most c.args.right (attributes c.args.evidence) c.args.candidates.now es are
    c.requires.width c.deref.result.now c.deref-2.result.now (kept_is at) (hits_is at) (attributes c.without-columns.result)
    (columns_is at) in
    omega (arith, short, c.requires.within_limit)

pub fresh_sets-requires-clause-differ : goal.fresh_sets-requires-clause-differ
fresh_sets-requires-clause-differ c =
    let (es, are) = c.requires.candidates in
    let at = (goal.at.fresh_sets-requires-clause-differ c).After-deref-2 in
    hits_differ c.args.width c.args.most c.args.right (attributes c.args.evidence) c.args.candidates.now es are
    c.requires.width c.deref.result.now c.deref-2.result.now (kept_is at) (hits_is at) (attributes c.without-columns.result)
    (columns_is at)

pub fresh_sets-requires-clause-apart : goal.fresh_sets-requires-clause-apart
fresh_sets-requires-clause-apart c =
    let (es, are) = c.requires.candidates in
    let at = (goal.at.fresh_sets-requires-clause-apart c).After-deref-2 in
    hits_apart c.args.width c.args.most c.args.right (attributes c.args.evidence) c.args.candidates.now es are
    c.requires.width c.deref.result.now c.deref-2.result.now (kept_is at) (hits_is at) (attributes c.without-columns.result)
    (columns_is at)

pub returns-in_err-new-clause-refusal : goal.returns-in_err-new-clause-refusal
returns-in_err-new-clause-refusal c = λ es are.
    let at = (goal.at.returns-in_err-new-clause-refusal c).After-deref-2 in
    let e : Attributes = attributes c.args.evidence in
    let p = err_from_is_err_and c.from_residual-in_err-new.result c.from_residual-in_err-new.ensures.1 in
    rw (p.1, p.2) (refuses_also
    (λ _. HasManyFresh c.deref.result.now (attributes c.without-columns.result) c.deref-2.result.now c.args.width)
    (λ _. HasMoreCandidates c.args.width c.args.most (e ∷ es) c.args.right MOST_CANDIDATES) c.in_err-new.field-0.0
    (λ _ many. many_are c.args.width c.args.most c.args.right e c.args.candidates.now es are
    c.requires.width c.deref.result.now c.deref-2.result.now (kept_is at) (hits_is at) (attributes c.without-columns.result)
    (columns_is at) c.requires.without (numbers at) many) c.in_err-new.ensures.refusal)

pub returns-clause-candidates : goal.returns-clause-candidates
returns-clause-candidates c = λ es are.
    let at = (goal.at.returns-clause-candidates c).After-deref-2 in
    let kept : List AttrSet = c.deref.result.now in
    let new : List AttrSet = c.in_ok-new.new.items in
    let items : c.extend_from_slice.new.self.items ≡ kept ++ new =
    c.in_ok-extend_from_slice.ensures.items
    ∙ ap (λ (sets : List AttrSet). sets ++ c.deref-3.result.now) (sym c.deref.ensures.value)
    ∙ ap (λ (sets : List AttrSet). kept ++ sets) c.deref-3.ensures.value in
    next_are c.args.width c.args.most c.args.right (attributes c.args.evidence) c.args.candidates.now es are
    c.requires.width kept c.deref-2.result.now (kept_is at) (hits_is at) (attributes c.without-columns.result)
    (columns_is at) new c.sort.new.self.items (numbers at) c.in_ok-new.ensures.fresh
    (subst (λ (sets : List AttrSet). IsPermutation sets c.sort.new.self.items) items c.in_ok-sort.ensures.permutation)
    c.in_ok-sort.ensures.sorted c.requires.without
