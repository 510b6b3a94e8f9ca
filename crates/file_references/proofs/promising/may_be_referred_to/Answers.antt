-- What is left to prove of `may_be_referred_to`: that a round of its loop keeps the invariant, and what it answers, by
-- `PromisingLemmas`.
use Rattle.std.proofs.Common.{◌<◌, [], ap, get_or, length, map, subst, sym, ◌∙◌, arith}
use Rattle.dep_model.proofs.ListLemmas.{same_default}
use Rattle.headed_rows.specs.Headings.{HeadedRows, headed_of}
use Rattle.table_join.specs.Lent.{lent_values}
use Rattle.file_references.specs.Columns.{name_at}
use Rattle.file_references.proofs.AddLemmas.{file_at_or, file_here}
use Rattle.file_references.proofs.PromisingLemmas.{none_itself, none_more}
use Rattle.file_references.proofs.promising.may_be_referred_to.Goals as goal
use Rattle.file_references.proofs.promising.may_be_referred_to.Goals.{else-file-target-via-then-file-target+else-are_named_among, else-file-target-via-else-file-target}

pub loop-file-preserved : goal.loop-file-preserved
loop-file-preserved c =
    let files = map headed_of c.args.files.now in
    let target = c.args.target in
    let column = c.args.column in
    let i = c.loop-file.file in
    let h = get_or c.args.files.now target c.index-files-target.result in
    let here = file_at_or c.args.files.now target c.index-files-target.result c.requires.target in
    let again = file_at_or c.args.files.now target c.index-files-target-2.result c.requires.target in
    let low : column < length h.names.items = subst (λ (h : HeadedRows). column < length h.names) here c.requires.column in
    record {
      none = elim c.else-file-target.branch [
        | else-file-target-via-then-file-target+else-are_named_among w ↦
            let one = file_here c.args.files.now i w.index-files-file.result c.loop-file-test.true w.index-files-file.is in
            none_more files target column i _ _ _ c.bytes-name.result.now (lent_values c.in_ok-values.values.keys) w.are_named_among.result
            (ap (λ (h : HeadedRows). h.names) one) (ap (λ (h : HeadedRows). h.rows) one) (ap (λ (h : HeadedRows). h.rows) again)
            (ap (λ (h : HeadedRows). name_at h.names column) here
            ∙ sym (c.bytes-name.ensures.value ∙ c.index.ensures ∙ same_default h.names.items column c.index.result.now [] low))
            c.in_ok-values.ensures.values w.are_named_among.ensures.among w.if-are_named_among.false c.loop-file.invariant.none
        | else-file-target-via-else-file-target w ↦ none_itself files target column i (omega (arith, w.if-file-target.false)) c.loop-file.invariant.none
      ];
    }

pub returns : goal.returns
returns c = record {
  may = λ file x inside other named may.
      absurd (c.loop-file.invariant.none file x (omega (arith, inside, c.loop-file-test.false)) other named may);
}
