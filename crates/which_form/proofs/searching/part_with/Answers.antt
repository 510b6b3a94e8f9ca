-- What is left to prove of `part_with`: its clause `closed`, by `closure_begins`.
use Rattle.std.proofs.Common.{◌≡◌, ◌↔◌, ℕ, true, sym, subst, ◌∙◌}
use Rattle.std.proofs.lemmas.Bool.{lt-ltb}
use Rattle.attr_sets.specs.Attributes.{Attributes, only, union}
use Rattle.attr_sets.specs.Sets.{attributes}
use Rattle.attr_sets.proofs.AttributesLemmas.{same_at, union_within}
use Rattle.dep_model.specs.Keys.{InClosure}
use Rattle.dep_model.specs.Theories.{width_of}
use Rattle.fd_closure.proofs.SchemaLemmas.{functional_closure_of_schema}
use Rattle.fd_closure.proofs.WidthLemmas.{closure_begins}
use Rattle.which_form.specs.KeyRanges.{functional_of}
use Rattle.which_form.proofs.searching.part_with.Goals as goal

pub returns : goal.returns
returns c =
    let s = c.args.theory.now in
    let n = width_of s in
    let fs = functional_of s in
    let x = attributes c.args.part.of in
    let known = attributes c.args.part.closed in
    let one = only c.args.attribute in
    let start = attributes c.with.result in
    let closed = attributes c.functional_closure-closed.result in
    let start_is : start ≡ union known one = c.with.ensures.members in
    let of_is : attributes c.with-2.result ≡ union x one = c.with-2.ensures.members in
    let low = union_within n known one (λ a m. lt-ltb a n ((c.requires.closed a).0 m).0) c.requires.within in
    let exact : (a : ℕ) → (closed a ≡ true) ↔ InClosure n fs start a =
    functional_closure_of_schema s c.deps.result.now c.deps.ensures.deps start closed (λ k m. low k (sym (same_at start_is k) ∙ m)) c.functional_closure-closed.ensures.closure in
    let begun = closure_begins n fs x one known c.requires.part c.requires.closed in
    record {
      of = of_is;
      closed = λ a. (
        (λ m. subst (λ (v : Attributes). InClosure n fs v a) (sym of_is) ((begun a).0 (subst (λ (v : Attributes). InClosure n fs v a) start_is ((exact a).0 m)))),
        (λ h. (exact a).1 (subst (λ (v : Attributes). InClosure n fs v a) (sym start_is) ((begun a).1 (subst (λ (v : Attributes). InClosure n fs v a) of_is h)))),
      );
    }
