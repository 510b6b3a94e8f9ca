-- What is left to prove of `holds_any`: its clause `holds` and that the invariant of its loop holds
-- at first and stays.
use Rattle.std.proofs.Common.{get_or, take_all, refl, sym, ◌∙◌, subst, arith}
use Rattle.std.proofs.lemmas.Bool.{false≢true}
use Rattle.std.proofs.lemmas.List.{get_or_default}
use Rattle.std.proofs.lemmas.List.Elements.{All-more}
use Rattle.std.specs.Prelude.{All}
use Rattle.std.proofs.Common.{List}
use Rattle.attr_sets.specs.declared.set.AttrSet.{AttrSet}
use Rattle.attr_sets.specs.Attributes.{IsSubset}
use Rattle.attr_sets.specs.Sets.{attributes}
use Rattle.key_listing.proofs.holding.holds_any.Goals as goal

pub loop-key-init : goal.loop-key-init
loop-key-init c = λ k d l. absurd (omega arith)

pub returns-then-is_subset : goal.returns-then-is_subset
returns-then-is_subset c =
    let none : AttrSet = record { 0 = 0 } in
    let i = c.loop-key.key-index in
    let found = c.args.found.now in
    let k = get_or found i none in
    record { holds = ((λ _. (i, k, c.loop-key-test.true, get_or_default found i k none c.loop-key-test.true, c.is_subset.ensures.subset.0 c.if-is_subset.true)), (λ _. refl)) }

pub loop-key-preserved : goal.loop-key-preserved
loop-key-preserved c =
    let none : AttrSet = record { 0 = 0 } in
    All-more (λ (k : AttrSet). IsSubset (attributes k) (attributes c.args.set) → ⊥) c.args.found.now c.loop-key.key-index none c.loop-key-test.true c.loop-key.invariant
    (λ inside. false≢true (sym c.if-is_subset.false ∙ c.is_subset.ensures.subset.1 inside))

pub returns : goal.returns
returns c =
    let all : All (λ (k : AttrSet). IsSubset (attributes k) (attributes c.args.set) → ⊥) c.args.found.now =
    subst (λ (ks : List AttrSet). All (λ (k : AttrSet). IsSubset (attributes k) (attributes c.args.set) → ⊥) ks) (take_all c.loop-key.key-index c.args.found.now c.loop-key-test.false) c.loop-key.invariant in
    record { holds = ((λ e. absurd (false≢true e)), (λ any. absurd (all any.0 any.1 any.2 (subst (λ (k : AttrSet). IsSubset (attributes k) (attributes c.args.set)) (sym any.3) any.4)))) }
