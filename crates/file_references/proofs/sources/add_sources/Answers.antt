-- What is left to prove of `add_sources`: that a round of its loop keeps the invariant, and its clause `added`, by
-- `SourceLemmas`.
use Rattle.std.proofs.Common.{◌≡◌, ◌+◌, length, map, ap, sym, subst, arith}
use Rattle.std.proofs.lemmas.List.{length-map}
use Rattle.file_references.specs.Finds.{Adds, RefersFromFirst, reference_of}
use Rattle.file_references.proofs.AddLemmas.{still_references}
use Rattle.file_references.proofs.SourceLemmas.{files_all, files_more}
use Rattle.headed_rows.specs.Headings.{headed_of}
use Rattle.file_references.proofs.sources.add_sources.Goals as goal
use Rattle.file_references.proofs.sources.add_sources.Goals.{then-len-eq1+in_ok-add_columns, else-len-eq1+in_ok-add_namesakes}

pub loop-turn-preserved : goal.loop-turn-preserved
loop-turn-preserved c = record {
  adds = λ are of.
      let files = map headed_of c.args.files.now in
      let file = c.file_in_turn-file.result in
      let turn = c.loop-turn.turn in
      let target = c.args.target.now in
      let old = map reference_of c.args.found.now.items in
      let now = map reference_of c.loop-turn.found.items in
      elim c.if-len-eq1.branch [
        | then-len-eq1+in_ok-add_columns w ↦
            subst (Adds files (RefersFromFirst target (turn + 1)) old) (sym (ap (λ v. map reference_of v.items) w.found-is))
            (files_more files file turn target old now (map reference_of w.add_columns.new.found.items) c.file_in_turn-file.ensures.before
            c.file_in_turn-file.ensures.after (c.loop-turn.invariant.adds are of)
            (w.in_ok-add_columns.ensures.added (still_references files (RefersFromFirst target turn) old now are (c.loop-turn.invariant.adds are of)) of))
        | else-len-eq1+in_ok-add_namesakes w ↦
            subst (Adds files (RefersFromFirst target (turn + 1)) old) (sym (ap (λ v. map reference_of v.items) w.found-is))
            (files_more files file turn target old now (map reference_of w.add_namesakes.new.found.items) c.file_in_turn-file.ensures.before
            c.file_in_turn-file.ensures.after (c.loop-turn.invariant.adds are of)
            (w.in_ok-add_namesakes.ensures.added (still_references files (RefersFromFirst target turn) old now are (c.loop-turn.invariant.adds are of)) of))
      ];
}

pub returns : goal.returns
returns c = record {
  added = λ are of.
      let files = map headed_of c.args.files.now in
      let all : c.loop-turn.turn ≡ length files = omega (arith, c.loop-turn-test.false, c.loop-turn.auto.turn-end, length-map c.args.files.now headed_of) in
      files_all files c.loop-turn.turn c.args.target.now (map reference_of c.args.found.now.items) (map reference_of c.loop-turn.found.items) all
      (c.loop-turn.invariant.adds are of);
}
