-- What is left to prove of `shared_beyond`: its clause `shared`, what `closed_at` requires, and that a
-- round of its loop keeps the invariant, by `SharedLemmas`.
use Rattle.std.proofs.Common.{◌≡◌, ℕ, ◌+◌, ◌<◌, true, false, sym, subst, ◌∙◌, inl, inr, arith}
use Rattle.std.proofs.lemmas.Bool.{true≢false, cases_eq, lt-ltb}
use Rattle.std.proofs.lemmas.Bool.Decides.{nat_tests}
use Rattle.attr_sets.specs.Sets.{attributes}
use Rattle.attr_sets.specs.declared.set.AttrSet.{AttrSet}
use Rattle.attr_sets.proofs.AttributesLemmas.{same_at}
use Rattle.dep_model.specs.Theories.{width_of, universe_of, theory_of}
use Rattle.fd_closure.specs.LeftSides.{left_sides}
use Rattle.armstrong_rel.proofs.PartLemmas.{schema_within, left_sides_low}
use Rattle.armstrong_rel.proofs.SharedLemmas.{IsSharedBelow, shared_pass, shared_more, shared_all}
use Rattle.armstrong_rel.proofs.irreducible.shared_beyond.Goals as goal
use Rattle.armstrong_rel.proofs.irreducible.shared_beyond.Goals.{then-contains, else-contains}

pub closed_at-closed-requires-clause-set : goal.closed_at-closed-requires-clause-set
closed_at-closed-requires-clause-set c k m =
    let s = c.args.theory.now in
    let a = c.loop-attribute.attribute in
    let low : a < width_of s = omega (arith, c.loop-attribute-test.true, c.width-attribute-end.ensures.count) in
    elim (cases_eq k a) [
      | inl here ↦ subst (λ (i : ℕ). universe_of s i ≡ true) (sym here) (lt-ltb a (width_of s) low)
      | inr other ↦
          let in_part : attributes c.args.part k ≡ true = grind (arith, nat_tests, same_at c.with-more.ensures.members k, m, other) in
          left_sides_low (width_of s) (theory_of s) (schema_within s) k (c.requires.part k in_part)
    ]

pub loop-attribute-preserved : goal.loop-attribute-preserved
loop-attribute-preserved c =
    let s = c.args.theory.now in
    let n = width_of s in
    let ds = theory_of s in
    let z = attributes c.args.part in
    let a = c.loop-attribute.attribute in
    let before = c.loop-attribute.invariant in
    let used_at = same_at c.requires.used a in
    let in_rest = c.contains.ensures.member ∙ same_at c.difference.ensures.members a in
    elim c.if-contains.branch [
      | then-contains w ↦
          let yes = sym in_rest ∙ w.if-contains.true in
          let used : left_sides ds a ≡ true = grind (arith, used_at, yes) in
          let out : z a ≡ false = grind (arith, used_at, yes) in
          subst (λ (m : AttrSet). IsSharedBelow n ds z (a + 1) (attributes m)) (sym w.shared-is)
          (shared_more n ds z (attributes w.with-more.result) (attributes w.closed_at-closed.result) (attributes c.loop-attribute.shared)
          (attributes w.intersection-shared.result) a used out w.with-more.ensures.members
          w.closed_at-closed.ensures.closure w.intersection-shared.ensures.members before)
      | else-contains w ↦
          let no = sym in_rest ∙ w.if-contains.false in
          subst (λ (m : AttrSet). IsSharedBelow n ds z (a + 1) (attributes m)) (sym w.shared-is)
          (shared_pass n ds z (attributes c.loop-attribute.shared) a
          (λ used out. let both : attributes c.args.used a ≡ true = used_at ∙ used in
          true≢false (sym (grind (arith, both, out, no)) ∙ no)) before)
    ]

pub returns : goal.returns
returns c =
    let s = c.args.theory.now in
    let end : c.loop-attribute.attribute ≡ width_of s = omega (arith, c.loop-attribute-test.false, c.loop-attribute.auto, c.width-attribute-end.ensures.count) in
    record {
      shared = shared_all (width_of s) (theory_of s) (attributes c.args.part) (attributes c.loop-attribute.shared)
          (left_sides_low (width_of s) (theory_of s) (schema_within s))
          (subst (λ (most : ℕ). IsSharedBelow (width_of s) (theory_of s) (attributes c.args.part) most (attributes c.loop-attribute.shared)) end c.loop-attribute.invariant);
    }
