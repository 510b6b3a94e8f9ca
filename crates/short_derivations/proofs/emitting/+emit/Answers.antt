-- What is left to prove of `emit`: that its lines are those of the tree.
use Rattle.std.proofs.Common.{◌≡◌, ◌∙◌, ap, sym, refl, length, ℕ, ◌++◌, [], ◌∷◌}
use Rattle.std.proofs.lemmas.List.{length-map}
use Rattle.std.proofs.lemmas.Result.{IfOk-weaker}
use Rattle.dep_model.specs.Deps.{dependency_of}
use Rattle.derivation.specs.Trees.{leaf, step, pair}
use Rattle.derivation.specs.Derivs.{tree_of, leaf_of, step_of, pair_of}
use Rattle.derivation.proofs.DerivLemmas.{step_tree, pair_tree}
use Rattle.short_derivations.specs.Emitted.{AreEmitted}
use Rattle.short_derivations.specs.Inferences.{by_leaf, by_step, by_pair}
use Rattle.short_derivations.specs.Views.{line_of, lines_of}
use Rattle.short_derivations.proofs.EmittedLemmas.{emitted_before, emitted_leaf, emitted_step, emitted_pair}
use Rattle.short_derivations.proofs.emitting.+emit.Goals as goal

pub returns-in-Some : goal.returns-in-Some
returns-in-Some t c = record {
  emitted = emitted_before c.args.theory.now (tree_of c.args.deriv.now) (lines_of c.args.lines.now.items) c.in-Some.at (dependency_of c.concluded-stated.result)
      c.requires.written c.concluded-stated.ensures.proves (rw c.deref.ensures.value at c.in-Some.ensures.states);
}

pub returns-in-Leaf : goal.returns-in-Leaf
returns-in-Leaf t c =
    let s = c.args.theory.now in
    let old = lines_of c.args.lines.now.items in
    let d = dependency_of c.concluded-stated.result in
    let rule = leaf_of c.in-Leaf.rule in
    let is : tree_of c.args.deriv.now ≡ leaf rule = ap tree_of c.in-Leaf.is in
    let proves = rw is at c.concluded-stated.ensures.proves in
    let new = rw c.deref.ensures.value at (c.in_default.ensures.none refl) in
    let long = length-map c.args.lines.now.items line_of in
    record {
      emitted = rw is (IfOk-weaker c.emit_line.result
          (λ (at : ℕ). (at ≡ length c.args.lines.now.items) × (lines_of c.emit_line.new.lines.items ≡ old ++ record { stated = d; why = by_leaf rule } ∷ []))
          (λ (at : ℕ). AreEmitted s (leaf rule) old at (lines_of c.emit_line.new.lines.items))
          (λ at w. emitted_leaf s rule old (lines_of c.emit_line.new.lines.items) at d c.requires.written new proves (w.0 ∙ sym long) w.1)
          c.emit_line.ensures.added);
    }

pub returns-in_ok-p-in-Step : goal.returns-in_ok-p-in-Step
returns-in_ok-p-in-Step t c =
    let s = c.args.theory.now in
    let old = lines_of c.args.lines.now.items in
    let d = dependency_of c.concluded-stated.result in
    let rule = step_of c.in-Step.rule in
    let from = tree_of c.deref-in-Step.result.now in
    let is : tree_of c.args.deriv.now ≡ step rule from = step_tree c.in-Step.is c.deref-in-Step.ensures in
    let proves = rw is at c.concluded-stated.ensures.proves in
    let direct = rw is at c.requires.direct in
    let new = rw c.deref.ensures.value at (c.in_default.ensures.none refl) in
    let mid = lines_of c.emit.new.lines.items in
    let long = length-map c.emit.new.lines.items line_of in
    let all = lines_of c.emit_line-in-Step.new.lines.items in
    record {
      emitted = rw is (IfOk-weaker c.emit_line-in-Step.result
          (λ (at : ℕ). (at ≡ length c.emit.new.lines.items) × (all ≡ mid ++ record { stated = d; why = by_step rule c.in_ok-p-in-Step.p } ∷ []))
          (λ (at : ℕ). AreEmitted s (step rule from) old at all)
          (λ at w. emitted_step s rule from old mid all c.in_ok-p-in-Step.p at d proves.0 new c.in_ok-p-in-Step.ensures.emitted direct proves.1 proves.2 (w.0 ∙ sym long) w.1)
          c.emit_line-in-Step.ensures.added);
    }

pub returns-in_ok-q-in-Pair : goal.returns-in_ok-q-in-Pair
returns-in_ok-q-in-Pair t c =
    let s = c.args.theory.now in
    let old = lines_of c.args.lines.now.items in
    let d = dependency_of c.concluded-stated.result in
    let rule = pair_of c.in-Pair.rule in
    let first = tree_of c.deref-in-Pair.result.now in
    let second = tree_of c.deref-in-Pair-2.result.now in
    let is : tree_of c.args.deriv.now ≡ pair rule first second = pair_tree c.in-Pair.is c.deref-in-Pair.ensures c.deref-in-Pair-2.ensures in
    let proves = rw is at c.concluded-stated.ensures.proves in
    let direct = rw is at c.requires.direct in
    let new = rw c.deref.ensures.value at (c.in_default.ensures.none refl) in
    let one = lines_of c.emit-in-Pair.new.lines.items in
    let mid = lines_of c.emit-in-Pair-2.new.lines.items in
    let long = length-map c.emit-in-Pair-2.new.lines.items line_of in
    let all = lines_of c.emit_line-in-Pair.new.lines.items in
    record {
      emitted = rw is (IfOk-weaker c.emit_line-in-Pair.result
          (λ (at : ℕ). (at ≡ length c.emit-in-Pair-2.new.lines.items) × (all ≡ mid ++ record { stated = d; why = by_pair rule c.in_ok-p-in-Pair.p c.in_ok-q-in-Pair.q } ∷ []))
          (λ (at : ℕ). AreEmitted s (pair rule first second) old at all)
          (λ at w. emitted_pair s rule first second old one mid all c.in_ok-p-in-Pair.p c.in_ok-q-in-Pair.q at d proves.0 proves.1 new
          c.in_ok-p-in-Pair.ensures.emitted c.in_ok-q-in-Pair.ensures.emitted direct proves.2 proves.3 proves.4 (w.0 ∙ sym long) w.1)
          c.emit_line-in-Pair.ensures.added);
    }
