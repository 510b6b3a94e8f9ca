-- What is left to prove of `needed_chain`: what is required, and that the lines are thrifty.
use Rattle.std.proofs.Common.{◌≤◌, ◌∙◌, ◌*◌, ap, sym, arith, subst, List, length}
use Rattle.attr_sets.specs.Sets.{attributes}
use Rattle.dep_model.specs.Dependencies.{fd}
use Rattle.derivation.specs.Derivs.{tree_of}
use Rattle.derivation.specs.Trees.{nodes}
use Rattle.short_derivations.specs.declared.links.Link.{Link}
use Rattle.short_derivations.specs.Inferences.{Line}
use Rattle.short_derivations.specs.Links.{IsTried}
use Rattle.short_derivations.specs.Views.{lines_of}
use Rattle.short_derivations.proofs.NeededLemmas.{chain_leaves_imply, chain_leaves_count, length_said, tried_linked, thrifty_tried}
use Rattle.short_derivations.proofs.functional.needed_chain.Goals as goal

pub needed_links-requires-clause-implied : goal.needed_links-requires-clause-implied
needed_links-requires-clause-implied c =
    let s = c.args.theory.now in
    let x = attributes c.args.lhs in
    let y = attributes c.args.rhs in
    rw (c.deref.ensures.value, c.in_ok-all.ensures.said) (chain_leaves_imply s x y (tree_of c.args.certificate.now) c.requires.chain)

pub chain-requires-clause-few : goal.chain-requires-clause-few
chain-requires-clause-few c =
    let s = c.args.theory.now in
    let x = attributes c.args.lhs in
    let y = attributes c.args.rhs in
    omega (
      arith,
      ap length c.deref-2.ensures.value,
      ap length c.deref.ensures.value,
      c.in_ok-links.ensures.shorter,
      length_said c.in_ok-all.all.items,
      ap length c.in_ok-all.ensures.said,
      chain_leaves_count s x y (tree_of c.args.certificate.now) c.requires.chain,
      c.requires.few,
    )

pub chain-requires-clause-implied : goal.chain-requires-clause-implied
chain-requires-clause-implied c = rw c.deref-2.ensures.value c.in_ok-links.ensures.implied

pub returns : goal.returns
returns c =
    let s = c.args.theory.now in
    let x = attributes c.args.lhs in
    let y = attributes c.args.rhs in
    let d = fd x y in
    let most = nodes (tree_of c.args.certificate.now) in
    let links : List Link = c.in_ok-links.links.items in
    let small : 3 * length links ≤ most = omega (
      arith,
      ap length c.deref.ensures.value,
      c.in_ok-links.ensures.shorter,
      length_said c.in_ok-all.all.items,
      ap length c.in_ok-all.ensures.said,
      chain_leaves_count s x y (tree_of c.args.certificate.now) c.requires.chain,
    ) in
    let lines : List Line = lines_of c.in_ok-lines.lines.items in
    let linked = rw c.deref-2.ensures.value at c.in_ok-lines.ensures.linked in
    let first : IsTried s links d most lines = tried_linked s links d most lines linked small in
    let second = c.shorter-lines.ensures.tried most (subst (λ (ls : List Link). IsTried s ls d most lines) (sym c.deref-4.ensures.value) first) in
    let third = c.shorter.ensures.tried most (subst (λ (ls : List Link). IsTried s ls d most (lines_of c.shorter-lines.result.items))
    (c.deref-4.ensures.value ∙ sym c.deref-6.ensures.value) second) in
    record {
      thrifty = thrifty_tried s links d most (lines_of c.shorter.result.items)
          (subst (λ (ls : List Link). IsTried s ls d most (lines_of c.shorter.result.items)) c.deref-6.ensures.value third) c.in_ok-links.ensures.needed;
    }
