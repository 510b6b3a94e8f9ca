-- What is left to prove of `add_source`: its clause `added`, where the reference holds and where it does not.
use Rattle.std.proofs.Common.{true≢false, List, ℕ, map, refl, sym, subst, ◌∙◌}
use Rattle.file_references.specs.Finds.{Adds, AreReferences, IsThis, reference_of, refers_from}
use Rattle.file_references.specs.References.{IsCandidate, IsReference}
use Rattle.file_references.specs.declared.reference.FoundReference.{FoundReference}
use Rattle.file_references.proofs.AddLemmas.{adds_no_one, adds_one, pushed_reference}
use Rattle.headed_rows.specs.Headings.{headed_of}
use Rattle.file_references.proofs.sources.add_source.Goals as goal

pub returns-in_ok-push : goal.returns-in_ok-push
returns-in_ok-push c = record {
  added = λ are of candidate.
      let files = map headed_of c.args.files.now in
      let file = c.args.file in
      let target = c.args.target.now in
      let ref = refers_from file c.args.columns.items target in
      let known = subst (λ (found : List FoundReference). AreReferences files (map reference_of found)) (sym c.deref-2.ensures.value) are in
      let read = subst (λ (columns : List ℕ). IsCandidate files (refers_from file columns target)) (sym c.deref.ensures.value) candidate in
      let is = subst (λ (columns : List ℕ). IsReference files (refers_from file columns target)) c.deref.ensures.value
      ((c.in_ok-refers.ensures.refers known of read).0 c.if-branch.true) in
      subst (Adds files (IsThis ref) (map reference_of c.args.found.now.items))
      (sym (pushed_reference c.args.found.now.items c.push.new.self.items _ file c.args.columns.items target c.in_ok-push.ensures.items
      refl refl refl (c.in_ok-from_slice.ensures.items ∙ c.deref-then-branch.ensures.value)))
      (adds_one files ref (map reference_of c.args.found.now.items) is);
}

pub returns-else-branch : goal.returns-else-branch
returns-else-branch c = record {
  added = λ are of candidate.
      let files = map headed_of c.args.files.now in
      let file = c.args.file in
      let target = c.args.target.now in
      let known = subst (λ (found : List FoundReference). AreReferences files (map reference_of found)) (sym c.deref-2.ensures.value) are in
      let read = subst (λ (columns : List ℕ). IsCandidate files (refers_from file columns target)) (sym c.deref.ensures.value) candidate in
      adds_no_one files (refers_from file c.args.columns.items target) (map reference_of c.args.found.now.items)
      (λ is. true≢false (sym ((c.in_ok-refers.ensures.refers known of read).1
      (subst (λ (columns : List ℕ). IsReference files (refers_from file columns target)) (sym c.deref.ensures.value) is)) ∙ c.if-branch.false));
}
