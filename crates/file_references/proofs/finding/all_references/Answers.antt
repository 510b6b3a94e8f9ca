-- What is left to prove of `all_references`: that a round of its loop keeps the invariant, and its clause `all`, by
-- `OrderLemmas`.
use Rattle.std.proofs.Common.{inl, inr, ◌≡◌, ◌+◌, ◌<◌, [], length, map, arith}
use Rattle.std.proofs.lemmas.Bool.{cases_lt}
use Rattle.std.proofs.lemmas.List.{length-map}
use Rattle.std.proofs.lemmas.List.Filters.{dedup_is}
use Rattle.file_references.specs.Finds.{IsTo, IsToFirst, reference_of}
use Rattle.file_references.specs.References.{Reference}
use Rattle.file_references.proofs.AddLemmas.{adds_fewer, adds_then, still_references}
use Rattle.file_references.proofs.OrderLemmas.{all_found, equal}
use Rattle.headed_rows.specs.Headings.{headed_of}
use Rattle.file_references.proofs.finding.all_references.Goals as goal

pub loop-target-preserved : goal.loop-target-preserved
loop-target-preserved c = record {
  adds =
      let files = map headed_of c.args.files.now in
      let target = c.loop-target.target in
      adds_then files (IsToFirst target) (IsTo target) (IsToFirst (target + 1)) [] (map reference_of c.loop-target.found.items)
      (map reference_of c.add_references_to.new.found.items)
      (λ ref is low. elim (cases_lt ref.target target) [
        | inl less ↦ inl less
        | inr other ↦ inr (omega (arith, low, other))
      ]) c.loop-target.invariant.adds
      (c.in_ok-add_references_to.ensures.added (still_references files (IsToFirst target) [] (map reference_of c.loop-target.found.items)
      (λ ref has. absurd (omega (arith, has.1))) c.loop-target.invariant.adds));
}

pub returns : goal.returns
returns c = record {
  all =
      let files = map headed_of c.args.files.now in
      let target = c.loop-target.target in
      let all : target ≡ length files = omega (arith, c.loop-target-test.false, c.loop-target.auto.target-end, length-map c.args.files.now headed_of) in
      all_found files c.loop-target.found.items c.sort_unstable.new.self.items c.dedup.new.self.items c.sort_unstable.ensures.permutation
      c.sort_unstable.ensures.sorted (dedup_is equal _ _ c.dedup.ensures.filtered)
      (adds_fewer files (IsToFirst target) (λ (ref : Reference). ref.target < length files) [] (map reference_of c.loop-target.found.items)
      (λ ref is low. omega (arith, low, all)) c.loop-target.invariant.adds);
}
