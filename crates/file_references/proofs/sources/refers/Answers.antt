-- What is left to prove of `refers`: its clause `refers`, by `FollowLemmas` and `SourceLemmas`.
use Rattle.std.proofs.Common.{true≢false, map, refl, ap, sym, ◌∙◌}
use Rattle.std.proofs.lemmas.Result.{IfOk-weaker}
use Rattle.std.specs.Prelude.{◌↔◌, Bool, IsTrue}
use Rattle.file_references.specs.Finds.{reference_of, refers_from}
use Rattle.file_references.specs.References.{IsReference}
use Rattle.file_references.proofs.AddLemmas.{file_at_or}
use Rattle.file_references.proofs.FollowLemmas.{what_follows}
use Rattle.file_references.proofs.SourceLemmas.{all_moved, is_reference, reference_is}
use Rattle.headed_rows.specs.Headings.{HeadedRows, headed_of}
use Rattle.table_join.specs.Lent.{tuples_of}
use Rattle.file_references.proofs.sources.refers.Goals as goal

pub returns-then-not-branch : goal.returns-then-not-branch
returns-then-not-branch c = record {
  refers = λ are of candidate. (
    λ never. absurd (true≢false (sym never)),
    λ is.
        let files = map headed_of c.args.files.now in
        let file = c.args.file in
        let columns = c.args.columns.now in
        let target = c.args.target.now in
        let rows = ap (λ (h : HeadedRows). h.rows) (file_at_or c.args.files.now file c.index-files-file.result c.requires.file) in
        absurd (true≢false (sym (c.in_ok-are_first_among.ensures.first (all_moved _ _ columns columns (tuples_of target.values.keys) rows refl
        (reference_is files file columns target of is))) ∙ c.if-not-branch.true)),
  );
}

pub returns-then-follows : goal.returns-then-follows
returns-then-follows c = record {
  refers = λ are of candidate. (
    λ _. what_follows (map headed_of c.args.files.now) (map reference_of c.args.found.now) _ are candidate (c.follows.ensures.follows c.if-follows.true),
    λ _. refl,
  );
}

pub returns : goal.returns
returns c = record {
  refers = λ are of candidate.
      let files = map headed_of c.args.files.now in
      let file = c.args.file in
      let columns = c.args.columns.now in
      let target = c.args.target.now in
      let values = tuples_of target.values.keys in
      let h = c.index-files-file.result in
      let rows = ap (λ (h : HeadedRows). h.rows) (file_at_or c.args.files.now file h c.requires.file) in
      IfOk-weaker c.all_are.result _ (λ (r : Bool). IsTrue r ↔ IsReference files (refers_from file columns target))
      (λ r all. (
        λ is. is_reference files file columns target of candidate (all_moved _ _ columns columns values (sym rows) refl (all.0 is)),
        λ is. all.1 (all_moved _ _ columns columns values rows refl (reference_is files file columns target of is)),
      )) c.all_are.ensures.all;
}
