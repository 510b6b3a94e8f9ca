-- What is left to prove of `is_shared`: that a round of its loop keeps the invariant, by `ShareLemmas`.
use Rattle.std.proofs.Common.{◌<◌, [], ap, get_or, length, map, subst, sym, ◌∙◌, arith}
use Rattle.dep_model.proofs.ListLemmas.{same_default}
use Rattle.headed_rows.specs.Headings.{HeadedRows, headed_of}
use Rattle.file_references.specs.Columns.{name_at}
use Rattle.file_references.proofs.AddLemmas.{file_at_or}
use Rattle.file_references.proofs.ShareLemmas.{itself, none_here, none_of}
use Rattle.file_references.proofs.targets.is_shared.Goals as goal
use Rattle.file_references.proofs.targets.is_shared.Goals.{else-file-target-via-then-file-target+else-is_some, else-file-target-via-else-file-target}

pub loop-file-preserved : goal.loop-file-preserved
loop-file-preserved c =
    let files = map headed_of c.args.files.now in
    let i = c.loop-file.file in
    let h = get_or c.args.files.now c.args.target c.index-files-target.result in
    let here = file_at_or c.args.files.now c.args.target c.index-files-target.result c.requires.target in
    let low : c.args.column < length h.names.items =
    subst (λ (h : HeadedRows). c.args.column < length h.names) here c.requires.column in
    record {
      none = elim c.else-file-target.branch [
        | else-file-target-via-then-file-target+else-is_some w ↦
            none_here files c.args.target c.args.column i w.deref.result.now c.bytes-name.result.now
            (ap (λ (h : HeadedRows). h.names) (file_at_or c.args.files.now i w.index-files-file.result c.loop-file-test.true)
            ∙ sym w.deref.ensures.value)
            (ap (λ (h : HeadedRows). name_at h.names c.args.column) here
            ∙ sym (c.bytes-name.ensures.value ∙ c.index.ensures ∙ same_default h.names.items c.args.column c.index.result.now [] low))
            (none_of w.position_among.result (sym w.is_some.ensures ∙ w.if-is_some.false) _ w.position_among.ensures.position)
            c.loop-file.invariant.none
        | else-file-target-via-else-file-target w ↦ itself files c.args.target c.args.column i (omega (arith, w.if-file-target.false)) c.loop-file.invariant.none
      ];
    }
