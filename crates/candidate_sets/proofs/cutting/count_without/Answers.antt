-- What is left to prove of `count_without`: which sets stand before the place and which after it.
use Rattle.std.proofs.Common.{rules, ◌≡◌, not, true, false, Bool, refl, sym, arith}
use Rattle.std.proofs.lemmas.List.Sorted.{IsPartitionPoint-from_clause}
use Rattle.attr_sets.specs.declared.set.AttrSet.{AttrSet}
use Rattle.attr_sets.specs.Sets.{attributes}
use Rattle.candidate_sets.proofs.CutLemmas.{passes_before}
use Rattle.candidate_sets.proofs.cutting.count_without.Goals as goal

out_of : (b : Bool) → not b ≡ true → b ≡ false
out_of true h = sym h
out_of false h = refl

has_of : (b : Bool) → not b ≡ false → b ≡ true
has_of true h = refl
has_of false h = sym h

pub returns-clause-without : goal.returns-clause-without
returns-clause-without c =
    let point = IsPartitionPoint-from_clause (λ (s : AttrSet). not (attributes s c.args.attribute)) c.args.sets.now _
    c.partition_point.ensures.partitioned (passes_before c.args.sets.now c.args.attribute c.requires.parted)
    (λ a r f k. search rules) in
    λ i d l. out_of _ (point.0 i d (omega arith) l)

pub returns-clause-having : goal.returns-clause-having
returns-clause-having c =
    let point = IsPartitionPoint-from_clause (λ (s : AttrSet). not (attributes s c.args.attribute)) c.args.sets.now _
    c.partition_point.ensures.partitioned (passes_before c.args.sets.now c.args.attribute c.requires.parted)
    (λ a r f k. search rules) in
    λ i d from l. has_of _ (point.1 i d from l)
