-- What is left to prove of `add_namesakes`: what it asks of `add_source`, and its clause `added`, by `SourceLemmas`.
use Rattle.std.proofs.Common.{map, ap, sym, ◌∙◌, arith}
use Rattle.std.proofs.lemmas.List.{length-map}
use Rattle.std.proofs.lemmas.Option.{MatchOption-at_none, MatchOption-at_some}
use Rattle.std.proofs.lemmas.Result.{on_ok_weaker}
use Rattle.file_references.specs.Columns.{file_at}
use Rattle.file_references.specs.Finds.{reference_of}
use Rattle.file_references.proofs.AddLemmas.{file_at_or}
use Rattle.file_references.proofs.SourceLemmas.{all_named_low, moved_names, names_candidate, names_none, names_these}
use Rattle.headed_rows.specs.Headings.{HeadedRows, headed_of}
use Rattle.file_references.proofs.sources.add_namesakes.Goals as goal

pub add_source-requires-clause-columns : goal.add_source-requires-clause-columns
add_source-requires-clause-columns c =
    let files = map headed_of c.args.files.now in
    let target = c.args.target.now in
    let names = c.deref.ensures.value ∙ sym (ap (λ (h : HeadedRows). h.names) (file_at_or c.args.files.now c.args.file c.index-files-file.result c.requires.file)) in
    let others = c.deref-2.ensures.value ∙ sym (ap (λ (h : HeadedRows). h.names) (file_at_or c.args.files.now target.file c.index-files-target.result (omega (arith, c.requires.target.within, length-map c.args.files.now headed_of)))) in
    all_named_low (file_at files c.args.file).names (file_at files target.file).names c.in-Some.columns.items target.columns.items
    (moved_names _ _ _ _ c.in-Some.columns.items _ _ names others c.deref-3.ensures.value
    (MatchOption-at_some _ _ c.in-Some.columns c.in-Some.is c.in_ok-namesakes.ensures.named))

pub returns-in-None : goal.returns-in-None
returns-in-None c = record {
  added = λ are of.
      let files = map headed_of c.args.files.now in
      let target = c.args.target.now in
      let names = c.deref.ensures.value ∙ sym (ap (λ (h : HeadedRows). h.names) (file_at_or c.args.files.now c.args.file c.index-files-file.result c.requires.file)) in
      let others = c.deref-2.ensures.value ∙ sym (ap (λ (h : HeadedRows). h.names) (file_at_or c.args.files.now target.file c.index-files-target.result (omega (arith, c.requires.target.within, length-map c.args.files.now headed_of)))) in
      names_none files c.args.file target (map reference_of c.args.found.now.items) c.requires.several
      (λ same named. MatchOption-at_none _ _ c.in-None.is c.in_ok-namesakes.ensures.named same
      (moved_names _ _ _ _ same _ _ (sym names) (sym others) (sym c.deref-3.ensures.value) named));
}

pub returns-in-Some : goal.returns-in-Some
returns-in-Some c = record {
  added = λ are of.
      let files = map headed_of c.args.files.now in
      let target = c.args.target.now in
      let columns = c.in-Some.columns.items in
      let names = c.deref.ensures.value ∙ sym (ap (λ (h : HeadedRows). h.names) (file_at_or c.args.files.now c.args.file c.index-files-file.result c.requires.file)) in
      let others = c.deref-2.ensures.value ∙ sym (ap (λ (h : HeadedRows). h.names) (file_at_or c.args.files.now target.file c.index-files-target.result (omega (arith, c.requires.target.within, length-map c.args.files.now headed_of)))) in
      let named = moved_names _ _ _ _ columns _ _ names others c.deref-3.ensures.value
      (MatchOption-at_some _ _ c.in-Some.columns c.in-Some.is c.in_ok-namesakes.ensures.named) in
      on_ok_weaker c.add_source.result
      (names_these files c.args.file columns target (map reference_of c.args.found.now.items) (map reference_of c.add_source.new.found.items) c.requires.several named)
      (c.add_source.ensures.added are of (names_candidate files c.args.file columns target of (omega (arith, c.requires.file, length-map c.args.files.now headed_of))
      (λ same. omega (arith, same, c.if-file-target.false)) c.requires.several named));
}
