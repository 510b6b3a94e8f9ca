-- What is left to prove of `add_lacking`: its clause `found`, and that the invariant of its loop holds at
-- first and stays, by `FoundLemmas`.
use Rattle.std.proofs.Common.{◌≡◌, ℕ, ◌+◌, true, List, Vec, Global, sym, subst, ap, ◌∙◌, arith}
use Rattle.std.proofs.lemmas.Bool.{true≢false}
use Rattle.attr_sets.specs.Attributes.{Attributes, below, only, union, difference}
use Rattle.attr_sets.specs.Sets.{attributes}
use Rattle.attr_sets.specs.declared.set.AttrSet.{AttrSet}
use Rattle.attr_sets.proofs.AttributesLemmas.{same_at}
use Rattle.dep_model.specs.Theories.{width_of, theory_of}
use Rattle.fd_closure.specs.LeftSides.{left_sides}
use Rattle.armstrong_rel.specs.Parts.{in_no_left_side}
use Rattle.armstrong_rel.specs.Searching.{AreTriedIrreducible}
use Rattle.armstrong_rel.proofs.PartLemmas.{schema_within}
use Rattle.armstrong_rel.proofs.FoundLemmas.{IsTriedBelow, lacking_start, lacking_pass, lacking_push, last_pass, last_push}
use Rattle.dep_model.specs.Dependencies.{Dependency}
use Rattle.armstrong_rel.proofs.irreducible.add_lacking.Goals as goal
use Rattle.armstrong_rel.proofs.irreducible.add_lacking.Goals.{then-contains+in_ok-add_set, else-contains}

pub loop-attribute-init : goal.loop-attribute-init
loop-attribute-init c =
    let s = c.args.theory.now in
    lacking_start (width_of s) (theory_of s) (schema_within s) c.requires.functional (attributes c.args.part) c.requires.part _ c.requires.found

-- the attributes in no left side, and the part with all of them
rest_is : (n : ℕ) (ds : List Dependency) (full used rest : Attributes) (width : ℕ) → full ≡ below width → width ≡ n → used ≡ left_sides ds
    → rest ≡ difference full used → rest ≡ in_no_left_side n ds
rest_is n ds full used rest width all count is made =
    made ∙ ap (λ (x : Attributes). difference x used) (all ∙ ap below count) ∙ ap (difference (below n)) is

pub loop-attribute-preserved : goal.loop-attribute-preserved
loop-attribute-preserved c =
    let s = c.args.theory.now in
    let n = width_of s in
    let ds = theory_of s in
    let z = attributes c.args.part in
    let a = c.loop-attribute.attribute in
    let before = c.loop-attribute.invariant in
    let rest = rest_is n ds (attributes c.full.result) (attributes c.args.used) (attributes c.difference-rest.result) c.width.result
    c.full.ensures.members c.width.ensures.count c.requires.used c.difference-rest.ensures.members in
    let whole = c.union-whole.ensures.members ∙ ap (union z) rest in
    let at = c.contains.ensures.member ∙ same_at c.intersection-lacking_rest.ensures.members a in
    elim c.if-contains.branch [
      | then-contains+in_ok-add_set w ↦
          let yes = sym at ∙ w.if-contains.true in
          let in_lacking : attributes c.args.lacking a ≡ true = grind (arith, yes) in
          let in_rest : attributes c.difference-rest.result a ≡ true = grind (arith, yes) in
          let is = w.without.ensures.members ∙ ap (λ (x : Attributes). difference x (only a)) whole in
          subst (λ (v : Vec AttrSet Global). AreTriedIrreducible n ds (IsTriedBelow n ds z (a + 1)) v.items) (sym w.found-is)
          (lacking_push n ds (schema_within s) c.requires.functional z c.requires.part a c.loop-attribute.found.items w.add_set.new.found.items w.without.result
          c.requires.closed (omega arith) (sym (same_at rest a) ∙ in_rest) ((c.requires.lacking a).0 in_lacking) is
          w.in_ok-add_set.ensures.added w.in_ok-add_set.ensures.full before)
      | else-contains w ↦
          let no = sym at ∙ w.if-contains.false in
          subst (λ (v : Vec AttrSet Global). AreTriedIrreducible n ds (IsTriedBelow n ds z (a + 1)) v.items) (sym w.found-is)
          (lacking_pass n ds (schema_within s) c.requires.functional z c.requires.part a c.loop-attribute.found.items
          (λ unused lacking.
          let in_lacking = (c.requires.lacking a).1 lacking in
          let in_rest = same_at rest a ∙ unused in
          true≢false (sym (grind (arith, in_lacking, in_rest, no)) ∙ no)) before)
    ]

pub returns-in_ok-add_set-2 : goal.returns-in_ok-add_set-2
returns-in_ok-add_set-2 c =
    let s = c.args.theory.now in
    let n = width_of s in
    let ds = theory_of s in
    let z = attributes c.args.part in
    let rest = rest_is n ds (attributes c.full.result) (attributes c.args.used) (attributes c.difference-rest.result) c.width.result
    c.full.ensures.members c.width.ensures.count c.requires.used c.difference-rest.ensures.members in
    let whole = c.union-whole.ensures.members ∙ ap (union z) rest in
    let end : c.loop-attribute.attribute ≡ n = omega (arith, c.loop-attribute-test.false, c.loop-attribute.auto.attribute-end, c.width-attribute-end.ensures.count) in
    let before = subst (λ (most : ℕ). AreTriedIrreducible n ds (IsTriedBelow n ds z most) c.loop-attribute.found.items) end c.loop-attribute.invariant in
    let both = c.intersects.ensures.intersects.0 c.if-intersects.true in
    record {
      found = last_push n ds (schema_within s) c.requires.functional z c.requires.part both.0 c.loop-attribute.found.items c.add_set-then-intersects.new.found.items c.union-whole.result
          c.requires.closed (omega arith) (sym (same_at c.requires.used both.0) ∙ both.2) ((c.requires.lacking both.0).0 both.1) whole
          c.in_ok-add_set-2.ensures.added c.in_ok-add_set-2.ensures.full before;
    }

pub returns-else-intersects : goal.returns-else-intersects
returns-else-intersects c =
    let s = c.args.theory.now in
    let n = width_of s in
    let ds = theory_of s in
    let z = attributes c.args.part in
    let end : c.loop-attribute.attribute ≡ n = omega (arith, c.loop-attribute-test.false, c.loop-attribute.auto.attribute-end, c.width-attribute-end.ensures.count) in
    let before = subst (λ (most : ℕ). AreTriedIrreducible n ds (IsTriedBelow n ds z most) c.loop-attribute.found.items) end c.loop-attribute.invariant in
    record {
      found = last_pass n ds (schema_within s) c.requires.functional z c.requires.part c.loop-attribute.found.items
          (λ b used lacking. true≢false (sym (c.intersects.ensures.intersects.1 (b, (c.requires.lacking b).1 lacking, same_at c.requires.used b ∙ used)) ∙ c.if-intersects.false)) before;
    }
