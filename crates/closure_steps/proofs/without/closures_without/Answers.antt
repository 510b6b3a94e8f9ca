-- What is left to prove of `closures_without`: that its loop begins with nothing, that a round keeps
-- the invariant, and its clause `closures`.
use Rattle.std.proofs.Common.{◌≡◌, ◌↔◌, ℕ, ◌+◌, true, List, refl, sym, ap, subst, ◌∙◌, arith}
use Rattle.std.proofs.lemmas.Bool.{ltb-true, lt-ltb}
use Rattle.std.proofs.lemmas.Bool.Decides.{nat_tests}
use Rattle.std.proofs.lemmas.List.Elements.{All-push}
use Rattle.std.specs.Prelude.{All}
use Rattle.attr_sets.specs.Attributes.{Attributes, IsSubset}
use Rattle.attr_sets.specs.Sets.{attributes}
use Rattle.dep_model.specs.Keys.{InClosure}
use Rattle.dep_model.specs.Theories.{width_of, universe_of, theory_of}
use Rattle.closure_steps.specs.declared.without.Without.{Without}
use Rattle.closure_steps.specs.Without.{IsClosureWithout}
use Rattle.closure_steps.proofs.WithoutLemmas.{AreWithoutBelow, without_push, without_skip, without_done}
use Rattle.closure_steps.proofs.without.closures_without.Goals.{then-contains+in_ok-push, else-contains}
use Rattle.closure_steps.proofs.without.closures_without.Goals as goal

pub loop-attribute-preserved : goal.loop-attribute-preserved
loop-attribute-preserved c =
    let s = c.args.theory.now in
    let n = width_of s in
    let ds = theory_of s in
    let x = attributes c.args.set in
    let m = c.loop-attribute.attribute in
    let before = c.loop-attribute.invariant in
    elim c.if-contains.branch [
      | then-contains+in_ok-push w ↦
          let one : Without = record { attribute = m; closed = w.closure-closed.result } in
          let pushed = ap (λ v. v.items) w.found-is ∙ w.in_ok-push.ensures.items in
          let is : IsClosureWithout n ds x one = record {
            member = sym c.contains.ensures.member ∙ w.if-contains.true;
            closed = subst (λ (y : Attributes). (a : ℕ) → (attributes w.closure-closed.result a ≡ true) ↔ InClosure n ds y a) w.without.ensures.members w.closure-closed.ensures.closure;
          } in
          record {
            earlier = subst (λ (items : List Without). AreWithoutBelow n ds x (m + 1) items) (sym pushed)
                (without_push n ds x m c.loop-attribute.found.items one before.earlier is refl);
            within = subst (λ (items : List Without). All (λ w. IsSubset (attributes w.closed) (universe_of s)) items) (sym pushed)
                (All-push (λ (w : Without). IsSubset (attributes w.closed) (universe_of s)) c.loop-attribute.found.items one before.within
                (λ a m. lt-ltb a n ((w.closure-closed.ensures.closure a).0 m).0));
          }
      | else-contains w ↦
          let same = ap (λ v. v.items) w.found-is in
          record {
            earlier = subst (λ (items : List Without). AreWithoutBelow n ds x (m + 1) items) (sym same)
                (without_skip n ds x m c.loop-attribute.found.items before.earlier (sym c.contains.ensures.member ∙ w.if-contains.false));
            within = subst (λ (items : List Without). All (λ w. IsSubset (attributes w.closed) (universe_of s)) items) (sym same) before.within;
          }
    ]

pub returns-clause-closures : goal.returns-clause-closures
returns-clause-closures c =
    let s = c.args.theory.now in
    without_done (width_of s) (theory_of s) (attributes c.args.set) c.loop-attribute.attribute c.loop-attribute.found.items c.loop-attribute.invariant.earlier
    (λ a member. omega (arith, ltb-true a (width_of s) (c.requires.within a member), c.loop-attribute-test.false, c.width-attribute-end.ensures.count))
