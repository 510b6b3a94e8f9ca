-- What is left to prove of `held_key`: its clauses `none`, `found` and `within` and that the
-- invariant of its loop holds at first and stays, by `ListLemmas`.
use Rattle.std.proofs.Common.{◌+◌, List, take_all, sym, ◌∙◌, subst}
use Rattle.std.proofs.lemmas.Bool.{false≢true}
use Rattle.std.specs.Prelude.{All, Option}
use Rattle.attr_sets.specs.declared.set.AttrSet.{AttrSet}
use Rattle.attr_sets.specs.Attributes.{IsSubset}
use Rattle.attr_sets.specs.Sets.{attributes}
use Rattle.key_listing.proofs.ListLemmas.{IsHeldSoFar, held_none, held_same, held_more}
use Rattle.key_listing.proofs.holding.held_key.Goals.{then-is_subset, else-is_subset}
use Rattle.key_listing.proofs.holding.held_key.Goals as goal

pub loop-key-init : goal.loop-key-init
loop-key-init c = held_none c.args.found.now (attributes c.args.set)

pub loop-key-preserved : goal.loop-key-preserved
loop-key-preserved c =
    let none : AttrSet = record { 0 = 0 } in
    let found = c.args.found.now in
    let set = attributes c.args.set in
    let i = c.loop-key.key-index in
    elim c.if-is_subset.branch [
      | then-is_subset w ↦ subst (λ (o : Option AttrSet). IsHeldSoFar found set (i + 1) o) (sym w.held-is)
          (held_more found set i c.loop-key.held none w.smaller_of.result c.loop-key-test.true c.loop-key.invariant (c.is_subset.ensures.subset.0 w.if-is_subset.true) w.smaller_of.ensures.either)
      | else-is_subset w ↦ subst (λ (o : Option AttrSet). IsHeldSoFar found set (i + 1) o) (sym w.held-is)
          (held_same found set i c.loop-key.held none c.loop-key-test.true c.loop-key.invariant (λ inside. false≢true (sym w.if-is_subset.false ∙ c.is_subset.ensures.subset.1 inside)))
    ]

pub returns : goal.returns
returns c =
    record {
      none = λ e any.
          let all : All (λ (k : AttrSet). IsSubset (attributes k) (attributes c.args.set) → ⊥) c.args.found.now =
          subst (λ (ks : List AttrSet). All (λ (k : AttrSet). IsSubset (attributes k) (attributes c.args.set) → ⊥) ks) (take_all c.loop-key.key-index c.args.found.now c.loop-key-test.false) (c.loop-key.invariant.none e) in
          all any.0 any.1 any.2 (subst (λ (k : AttrSet). IsSubset (attributes k) (attributes c.args.set)) (sym any.3) any.4);
      found = c.loop-key.invariant.member;
      within = c.loop-key.invariant.within;
    }
