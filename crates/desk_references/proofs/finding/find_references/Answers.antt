-- What is left to prove of `find_references`: what it asks of `add_reference`, by `CheckLemmas`.
use Rattle.std.proofs.Common.{List, length, map, sym, subst, arith}
use Rattle.std.proofs.lemmas.List.{length-map}
use Rattle.file_references.specs.Finds.{reference_of}
use Rattle.file_references.specs.References.{AreAllReferences}
use Rattle.file_references.specs.declared.reference.FoundReference.{FoundReference}
use Rattle.headed_rows.specs.Headings.{headed_of}
use Rattle.desk_references.proofs.CheckLemmas.{reference_here, source_low, target_low}
use Rattle.desk_references.proofs.finding.find_references.Goals as goal

pub add_reference-requires-clause-file : goal.add_reference-requires-clause-file
add_reference-requires-clause-file c =
    let files = map headed_of c.args.files.now in
    let ref = reference_here files c.deref-reference-items.result.now c.loop-reference.reference-index c.reference-item.result
    (subst (λ (xs : List FoundReference). AreAllReferences files (map reference_of xs)) (sym c.deref-reference-items.ensures.value) c.in_ok-found.ensures.all)
    c.loop-reference-test.true c.reference-item.is in
    let low = ref.candidate.file in omega (arith, low, length-map c.args.files.now headed_of)

pub add_reference-requires-clause-target : goal.add_reference-requires-clause-target
add_reference-requires-clause-target c =
    let files = map headed_of c.args.files.now in
    let ref = reference_here files c.deref-reference-items.result.now c.loop-reference.reference-index c.reference-item.result
    (subst (λ (xs : List FoundReference). AreAllReferences files (map reference_of xs)) (sym c.deref-reference-items.ensures.value) c.in_ok-found.ensures.all)
    c.loop-reference-test.true c.reference-item.is in
    let low = ref.candidate.target_file in omega (arith, low, length-map c.args.files.now headed_of)

pub add_reference-requires-clause-columns : goal.add_reference-requires-clause-columns
add_reference-requires-clause-columns c =
    let files = map headed_of c.args.files.now in
    let ref = reference_here files c.deref-reference-items.result.now c.loop-reference.reference-index c.reference-item.result
    (subst (λ (xs : List FoundReference). AreAllReferences files (map reference_of xs)) (sym c.deref-reference-items.ensures.value) c.in_ok-found.ensures.all)
    c.loop-reference-test.true c.reference-item.is in
    source_low (map headed_of c.args.files.now) (reference_of c.reference-item.result) ref

pub add_reference-requires-clause-key : goal.add_reference-requires-clause-key
add_reference-requires-clause-key c =
    let files = map headed_of c.args.files.now in
    let ref = reference_here files c.deref-reference-items.result.now c.loop-reference.reference-index c.reference-item.result
    (subst (λ (xs : List FoundReference). AreAllReferences files (map reference_of xs)) (sym c.deref-reference-items.ensures.value) c.in_ok-found.ensures.all)
    c.loop-reference-test.true c.reference-item.is in
    target_low (map headed_of c.args.files.now) (reference_of c.reference-item.result) ref
