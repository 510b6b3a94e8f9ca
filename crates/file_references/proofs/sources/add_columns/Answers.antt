-- What is left to prove of `add_columns`: that a round of its loop keeps the invariant, and its clause `added`, by
-- `SourceLemmas`.
use Rattle.std.proofs.Common.{◌≡◌, ◌<◌, ◌+◌, ◌++◌, ◌∷◌, [], ℕ, List, get_or, length, map, ap, sym, subst, ◌∙◌, arith}
use Rattle.std.proofs.lemmas.List.{length-map}
use Rattle.dep_model.proofs.ListLemmas.{same_default}
use Rattle.file_references.specs.Columns.{file_at}
use Rattle.file_references.specs.Finds.{Adds, RefersFromColumns, reference_of}
use Rattle.file_references.proofs.AddLemmas.{counted, file_at_or, still_references}
use Rattle.file_references.proofs.SourceLemmas.{columns_all, columns_more, columns_same, one_candidate}
use Rattle.headed_rows.specs.Headings.{HeadedRows, headed_of}
use Rattle.file_references.proofs.sources.add_columns.Goals as goal
use Rattle.file_references.proofs.sources.add_columns.Goals.{then-file-target+in_ok-push+in_ok-add_source, then-file-target-via-then-file-target, then-file-target-via-else-file-target+then-column-index, else-file-target+else-column-index}

pub loop-column-preserved : goal.loop-column-preserved
loop-column-preserved c = record {
  adds = λ are of.
      let files = map headed_of c.args.files.now in
      let file = c.args.file in
      let target = c.args.target.now in
      let key = target.columns.items in
      let column = c.loop-column.column in
      let old = map reference_of c.args.found.now.items in
      let now = map reference_of c.loop-column.found.items in
      let width = ap (λ (h : HeadedRows). length h.names) (file_at_or c.args.files.now file c.index-files-file.result c.requires.file) in
      let count = counted c.args.files.now c.args.file c.index-files-file.result in
      let low : column < length (file_at files file).names = omega (arith, c.loop-column-test.true, c.len-column-end.ensures, count, width) in
      let inside : file < length files = omega (arith, c.requires.file, length-map c.args.files.now headed_of) in
      elim c.if-file-target.branch [
        | then-file-target+in_ok-push+in_ok-add_source w ↦
            let is : w.push.new.self.items ≡ column ∷ [] = w.in_ok-push.ensures.items ∙ ap (λ (l : List ℕ). l ++ column ∷ []) w.new-columns.ensures.items in
            let other : file ≡ target.file → column ≡ get_or key 0 0 → ⊥ = elim w.then-file-target.branch [
              | then-file-target-via-then-file-target v ↦ λ same at. omega (arith, same, v.if-file-target.true)
              | then-file-target-via-else-file-target+then-column-index v ↦ λ same at.
                  let read = same_default key 0 v.index.result.now 0 (omega (arith, c.requires.one)) in
                  omega (arith, at, read, v.index.ensures, v.if-column-index.true)
            ] in
            subst (Adds files (RefersFromColumns target file (column + 1)) old) (sym (ap (λ v. map reference_of v.items) w.found-is))
            (columns_more files file column w.push.new.self.items target old now (map reference_of w.add_source.new.found.items) is
            (c.loop-column.invariant.adds are of)
            (w.in_ok-add_source.ensures.added (still_references files (RefersFromColumns target file column) old now are (c.loop-column.invariant.adds are of)) of (one_candidate files file column w.push.new.self.items target of inside low c.requires.one other is)))
        | else-file-target+else-column-index w ↦
            let read = same_default key 0 w.index.result.now 0 (omega (arith, c.requires.one)) in
            subst (Adds files (RefersFromColumns target file (column + 1)) old) (sym (ap (λ v. map reference_of v.items) w.found-is))
            (columns_same files file column target old now c.requires.one (omega (arith, w.if-file-target.false))
            (omega (arith, read, w.index.ensures, w.if-column-index.false)) (c.loop-column.invariant.adds are of))
      ];
}

pub returns : goal.returns
returns c = record {
  added = λ are of.
      let files = map headed_of c.args.files.now in
      let width = ap (λ (h : HeadedRows). length h.names) (file_at_or c.args.files.now c.args.file c.index-files-file.result c.requires.file) in
      let count = counted c.args.files.now c.args.file c.index-files-file.result in
      columns_all files c.args.file c.loop-column.column c.args.target.now (map reference_of c.args.found.now.items) (map reference_of c.loop-column.found.items) c.requires.one
      (omega (arith, c.loop-column-test.false, c.loop-column.auto.column-end, c.len-column-end.ensures, count, width)) (c.loop-column.invariant.adds are of);
}
