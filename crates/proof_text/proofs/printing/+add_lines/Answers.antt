-- What is left to prove of `add_lines`: its clause `added` and what `add_node`, `add_lines`,
-- `stated_by_step` and `stated_by_pair` require, by `PrintingLemmas`.
use Rattle.std.proofs.Common.{ap, refl, arith}
use Rattle.std.proofs.lemmas.Result.{on_ok_weaker}
use Rattle.dep_model.specs.Deps.{dependency_of}
use Rattle.derivation.specs.Trees.{nodes}
use Rattle.derivation.specs.Derivs.{tree_of, step_of, pair_of}
use Rattle.derivation.proofs.ConclusionLemmas.{Proves-one}
use Rattle.derivation.proofs.DerivLemmas.{step_tree, pair_tree}
use Rattle.derivation.proofs.WithinLemmas.{tree_of-attributes}
use Rattle.proof_grammar.proofs.PrintedWithin.{step_within}
use Rattle.proof_text.proofs.PrintingLemmas.{stated_within, step_added, pair_added}
use Rattle.schema_model.specs.Schemas.{theory_in}
use Rattle.proof_text.proofs.printing.+add_lines.Goals as goal

pub add_node-requires-clause-stated : goal.add_node-requires-clause-stated
add_node-requires-clause-stated t c =
    stated_within c.args.schema.now c.args.deriv.now (dependency_of c.stated_by_leaf-stated.result)
    (rw (ap tree_of c.in-Leaf.is) c.stated_by_leaf-stated.ensures.stated)

pub add_lines-requires : goal.add_lines-requires
add_lines-requires t c =
    let root = step_tree c.in-Step.is c.deref.ensures in
    let all = ap nodes root in
    let proof = rw root at c.requires.proof in
    (omega (arith, all), ((proof.1.0, proof.1.1), omega (arith, all, c.requires.fits_u32)))

pub stated_by_step-stated-requires : goal.stated_by_step-stated-requires
stated_by_step-stated-requires t c =
    let proof = rw (step_tree c.in-Step.is c.deref.ensures) at c.requires.proof in
    let from = c.in_ok-from-in-Step in
    let one = Proves-one (theory_in c.args.schema.now) (tree_of c.deref.result.now) proof.1.0
    (dependency_of from.from) proof.1.1 from.ensures.proves in
    record { concludes = (proof.0, rw one at proof.1.2) }

pub add_node-requires-in-Step-clause-stated : goal.add_node-requires-in-Step-clause-stated
add_node-requires-in-Step-clause-stated t c =
    let from = c.in_ok-from-in-Step in
    stated_within c.args.schema.now c.args.deriv.now (dependency_of c.stated_by_step-stated.result)
    (rw (step_tree c.in-Step.is c.deref.ensures)
    (dependency_of from.from, from.ensures.proves, c.stated_by_step-stated.ensures.stated))

pub add_node-requires-in-Step-clause-body : goal.add_node-requires-in-Step-clause-body
add_node-requires-in-Step-clause-body t c =
    let own = rw (step_tree c.in-Step.is c.deref.ensures) at (tree_of-attributes c.args.deriv.now) in
    step_within c.args.schema.now (step_of c.in-Step.rule) (dependency_of c.in_ok-from-in-Step.from)
    (dependency_of c.stated_by_step-stated.result) own.0 c.stated_by_step-stated.ensures.stated

pub add_lines-requires-in-Pair : goal.add_lines-requires-in-Pair
add_lines-requires-in-Pair t c =
    let root = pair_tree c.in-Pair.is c.deref-in-Pair.ensures refl in
    let all = ap nodes root in
    let proof = rw root at c.requires.proof in
    (omega (arith, all), ((proof.1.0, proof.1.2), omega (arith, all, c.requires.fits_u32)))

pub add_lines-requires-in-Pair-2 : goal.add_lines-requires-in-Pair-2
add_lines-requires-in-Pair-2 t c =
    let root = pair_tree c.in-Pair.is c.deref-in-Pair.ensures c.deref-in-Pair-2.ensures in
    let all = ap nodes root in
    let proof = rw root at c.requires.proof in
    (omega (arith, all), ((proof.1.1, proof.1.3), omega (arith, all, c.requires.fits_u32, c.in_ok-left-in-Pair.ensures.printed)))

pub stated_by_pair-stated-requires : goal.stated_by_pair-stated-requires
stated_by_pair-stated-requires t c =
    let s = c.args.schema.now in
    let proof = rw (pair_tree c.in-Pair.is c.deref-in-Pair.ensures c.deref-in-Pair-2.ensures) at c.requires.proof in
    let left = c.in_ok-left-in-Pair in
    let right = c.in_ok-right-in-Pair in
    let first = Proves-one (theory_in s) (tree_of c.deref-in-Pair.result.now) proof.1.0
    (dependency_of left.left) proof.1.2 left.ensures.proves in
    let second = Proves-one (theory_in s) (tree_of c.deref-in-Pair-2.result.now) proof.1.1
    (dependency_of right.right) proof.1.3 right.ensures.proves in
    record { concludes = (proof.0, rw (first, second) at proof.1.4) }

pub add_node-requires-in-Pair-clause-stated : goal.add_node-requires-in-Pair-clause-stated
add_node-requires-in-Pair-clause-stated t c =
    let left = c.in_ok-left-in-Pair in
    let right = c.in_ok-right-in-Pair in
    stated_within c.args.schema.now c.args.deriv.now (dependency_of c.stated_by_pair-stated.result)
    (rw (pair_tree c.in-Pair.is c.deref-in-Pair.ensures c.deref-in-Pair-2.ensures) (
      dependency_of left.left,
      dependency_of right.right,
      left.ensures.proves,
      right.ensures.proves,
      c.stated_by_pair-stated.ensures.stated,
    ))

pub returns-in_ok-from-in-Step-clause-added : goal.returns-in_ok-from-in-Step-clause-added
returns-in_ok-from-in-Step-clause-added t c =
    let s = c.args.schema.now in
    let d = dependency_of c.stated_by_step-stated.result in
    let from = c.in_ok-from-in-Step in
    on_ok_weaker c.add_node-in-Step.result
    (λ added. step_added s (tree_of c.args.deriv.now) (step_of c.in-Step.rule)
    (tree_of c.deref.result.now) d c.args.printed.now c.add_lines.new.printed
    c.args.text.now.items c.add_lines.new.text.items c.add_node-in-Step.new.text.items (step_tree c.in-Step.is c.deref.ensures)
    (dependency_of from.from, from.ensures.proves, c.stated_by_step-stated.ensures.stated)
    from.ensures.printed from.ensures.added added) c.add_node-in-Step.ensures.added

pub returns-in_ok-right-in-Pair-clause-added : goal.returns-in_ok-right-in-Pair-clause-added
returns-in_ok-right-in-Pair-clause-added t c =
    let s = c.args.schema.now in
    let d = dependency_of c.stated_by_pair-stated.result in
    let left = c.in_ok-left-in-Pair in
    let right = c.in_ok-right-in-Pair in
    on_ok_weaker c.add_node-in-Pair.result
    (λ added. pair_added s (tree_of c.args.deriv.now) (pair_of c.in-Pair.rule) (tree_of c.deref-in-Pair.result.now)
    (tree_of c.deref-in-Pair-2.result.now) d
    c.args.printed.now c.add_lines-in-Pair.new.printed c.add_lines-in-Pair-2.new.printed
    c.args.text.now.items c.add_lines-in-Pair.new.text.items c.add_lines-in-Pair-2.new.text.items
    c.add_node-in-Pair.new.text.items (pair_tree c.in-Pair.is c.deref-in-Pair.ensures c.deref-in-Pair-2.ensures) (
      dependency_of left.left,
      dependency_of right.right,
      left.ensures.proves,
      right.ensures.proves,
      c.stated_by_pair-stated.ensures.stated,
    )
    left.ensures.printed right.ensures.printed left.ensures.added right.ensures.added added)
    c.add_node-in-Pair.ensures.added
