-- What is left to prove of `add_references_to`: what it asks of its callees, and its clause `added`, by `KnowsLemmas`.
use Rattle.std.proofs.Common.{true≢false, ◌≡◌, ◌<◌, ◌≤◌, length, map, ap, sym, subst, ◌∙◌, arith}
use Rattle.std.proofs.lemmas.List.{length-map}
use Rattle.std.proofs.lemmas.Result.{on_ok_weaker}
use Rattle.attr_sets.specs.Attributes.{Attributes, IsSubset, below}
use Rattle.attr_sets.specs.Sets.{attributes}
use Rattle.attr_sets.specs.declared.set.TheConstants.{MOST_ATTRIBUTES}
use Rattle.dep_model.specs.Tuples.{IsOver}
use Rattle.file_references.specs.Columns.{file_at}
use Rattle.file_references.specs.Finds.{AreReferences, reference_of}
use Rattle.file_references.specs.Keys.{AreAllOfSize}
use Rattle.file_references.specs.References.{HasTwoRows}
use Rattle.file_references.proofs.AddLemmas.{counted, file_at_or}
use Rattle.file_references.proofs.KnowsLemmas.{all_known, knows_first, none_known}
use Rattle.file_references.proofs.TargetLemmas.{looked_more, looked_one}
use Rattle.headed_rows.specs.Headings.{HeadedRows, headed_of}
use Rattle.file_references.proofs.targets.add_references_to.Goals as goal

pub returns-then-not-have_two : goal.returns-then-not-have_two
returns-then-not-have_two c =
    let rows = ap (λ (h : HeadedRows). h.rows) (file_at_or c.args.files.now c.args.target c.index-files-target.result c.requires.target) in
    record {
      added = λ are. none_known (map headed_of c.args.files.now) c.args.target (map reference_of c.args.found.now.items)
          (λ two. true≢false (sym (c.have_two.ensures.two.1 (subst HasTwoRows rows two)) ∙ c.if-not-have_two.true));
    }

pub add_targets-requires-clause-two : goal.add_targets-requires-clause-two
add_targets-requires-clause-two c =
    subst HasTwoRows (sym (ap (λ (h : HeadedRows). h.rows) (file_at_or c.args.files.now c.args.target c.index-files-target.result c.requires.target)))
    (c.have_two.ensures.two.0 c.if-not-have_two.false)

pub add_targets-requires-2-clause-two : goal.add_targets-requires-2-clause-two
add_targets-requires-2-clause-two c =
    subst HasTwoRows (sym (ap (λ (h : HeadedRows). h.rows) (file_at_or c.args.files.now c.args.target c.index-files-target.result c.requires.target)))
    (c.have_two.ensures.two.0 c.if-not-have_two.false)

pub add_targets-requires-3-clause-two : goal.add_targets-requires-3-clause-two
add_targets-requires-3-clause-two c =
    subst HasTwoRows (sym (ap (λ (h : HeadedRows). h.rows) (file_at_or c.args.files.now c.args.target c.index-files-target.result c.requires.target)))
    (c.have_two.ensures.two.0 c.if-not-have_two.false)

pub returns : goal.returns
returns c =
    let files = map headed_of c.args.files.now in
    let target = c.args.target in
    let first = map reference_of c.args.found.now.items in
    let here = file_at_or c.args.files.now target c.index-files-target-2.result c.requires.target in
    let n = length (file_at files target).names in
    let shared = attributes c.in_ok-shared.shared in
    let within : IsSubset shared (below n) = λ k h. c.shared_columns-named.ensures.within k (c.in_ok-shared.ensures.within k h) in
    let width : c.len-width.result ≡ n = omega (arith, c.len-width.ensures, counted c.args.files.now target c.index-files-target-2.result, ap (λ (f : HeadedRows). length f.names) here) in
    let low : n ≤ MOST_ATTRIBUTES = omega (
      arith,
      ap (λ (f : HeadedRows). length f.names) here,
      (c.requires.header target c.index-files-target-2.result c.requires.target).within_limit,
    ) in
    let ones : AreAllOfSize (below n) 1 c.in_ok-columns.columns.items = subst (λ (x : Attributes). AreAllOfSize x 1 c.in_ok-columns.columns.items)
    (c.full.ensures.members ∙ ap below width) c.in_ok-columns.ensures.sets in
    let twos : AreAllOfSize shared 2 c.in_ok-pairs.pairs.items = c.in_ok-pairs.ensures.sets 1
    (subst (AreAllOfSize shared 1) (sym c.deref-3.ensures.value) c.in_ok-sets_of_one.ensures.sets) in
    let threes : AreAllOfSize shared 3 c.in_ok-triples.triples.items = c.in_ok-triples.ensures.sets 2
    (subst (AreAllOfSize shared 2) (sym c.deref-5.ensures.value) twos) in
    let at_one = λ (are : AreReferences files first). c.in_ok-add_targets.ensures.knows shared 0 first (omega arith)
    (looked_one n shared _ (subst (AreAllOfSize (below n) 1) (sym c.deref.ensures.value) ones)) are
    (knows_first files target shared _ first c.new-keys.ensures.items) in
    let at_two = λ (are : AreReferences files first). c.in_ok-add_targets-2.ensures.knows shared 1 first (omega arith)
    (looked_more n shared 2 _ (omega arith) within (subst (AreAllOfSize shared 2) (sym c.deref-4.ensures.value) twos)) are (at_one are) in
    record {
      added = λ are. on_ok_weaker c.add_targets-3.result
          (all_known files target shared first c.add_targets-3.new.keys.items (map reference_of c.add_targets-3.new.found.items) low
          (λ file inside. subst (λ (h : HeadedRows). IsOver (length h.names) h.rows)
          (sym (file_at_or c.args.files.now file c.index-files-target-2.result (omega (arith, inside, length-map c.args.files.now headed_of))))
          (c.requires.same_width file c.index-files-target-2.result (omega (arith, inside, length-map c.args.files.now headed_of))))
          (λ file k x inside other low_k is. let low : file < length c.args.files.now = omega (arith, inside, length-map c.args.files.now headed_of) in
          c.in_ok-shared.ensures.promising file k x low other (c.shared_columns-named.ensures.shared file k x low other low_k is) is))
          (c.add_targets-3.ensures.knows shared 2 first (omega arith)
          (looked_more n shared 3 _ (omega arith) within (subst (AreAllOfSize shared 3) (sym c.deref-6.ensures.value) threes)) are (at_two are));
    }
