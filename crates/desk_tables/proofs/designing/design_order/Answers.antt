-- What is left to prove of `design_order`: schemes lie within the schema, and positions are those of the order of a
-- design.
use Rattle.std.proofs.Common.{◌≡◌, ◌∙◌, ◌+◌, ◌<◌, ℕ, true, List, length, All, sym, ap, subst}
use Rattle.std.proofs.lemmas.List.{length-map}
use Rattle.std.proofs.lemmas.List.Elements.{All-map}
use Rattle.std.specs.List.{AllZip}
use Rattle.attr_sets.specs.Attributes.{IsSubset}
use Rattle.attr_sets.specs.Sets.{attributes}
use Rattle.attr_sets.specs.declared.set.AttrSet.{AttrSet}
use Rattle.dep_model.proofs.FailureLemmas.{IfOk_both}
use Rattle.dep_model.specs.Theories as theories
use Rattle.dep_model.specs.Theories.{Theory}
use Rattle.design_order.specs.Order.{DeterminesSoMany, grouped_below}
use Rattle.optional_tables.specs.Order.{positions_from}
use Rattle.optional_tables.specs.declared.keyed.KeyedScheme.{KeyedScheme}
use Rattle.schema_model.specs.Schemas.{theory_of, universe_of, width_of}
use Rattle.desk_tables.proofs.DesigningLemmas.{length-zip, positions_low, schemes_zip}
use Rattle.desk_tables.proofs.designing.design_order.Goals as goal

pub counts-requires : goal.counts-requires
counts-requires c = record {
  within = subst (λ (schemes : List AttrSet). All (λ (scheme : AttrSet). IsSubset (attributes scheme) (theories.universe_of c.theory.result)) schemes)
      (sym (c.deref.ensures.value ∙ c.in_ok-schemes_in.ensures.schemes))
      (rw c.theory.ensures.theory
      (All-map (λ (scheme : AttrSet). IsSubset (attributes scheme) (universe_of c.args.schema.now)) (λ (t : KeyedScheme). t.scheme)
      c.args.tables.now c.requires.schemes));
}

pub returns-clause-order : goal.returns-clause-order
returns-clause-order c =
    let counts = c.in_ok-counts.counts.items in
    IfOk_both c.in_order.result c.in_order.ensures.order c.in_order.ensures.order
    (λ order is also. (
      counts,
      schemes_zip (DeterminesSoMany (width_of c.args.schema.now) (theory_of c.args.schema.now)) c.args.tables.now counts
          (subst (λ (schemes : List AttrSet).
          AllZip (λ (scheme : AttrSet). DeterminesSoMany (width_of c.args.schema.now) (theory_of c.args.schema.now) (attributes scheme)) schemes counts)
          (c.deref.ensures.value ∙ c.in_ok-schemes_in.ensures.schemes)
          (subst (λ (t : Theory).
          AllZip (λ (scheme : AttrSet). DeterminesSoMany (theories.width_of t) (theories.theory_of t) (attributes scheme)) c.deref.result.now counts)
          c.theory.ensures.theory c.in_ok-counts.ensures.counts)),
      subst (λ (ns : List ℕ). order.items ≡ grouped_below (width_of c.args.schema.now + 1) (positions_from (λ (m : ℕ). true) 0 ns) ns)
          c.deref-2.ensures.value
          (subst (λ (w : ℕ). order.items
          ≡ grouped_below (w + 1) (positions_from (λ (m : ℕ). true) 0 c.deref-2.result.now) c.deref-2.result.now) c.width.ensures.count is),
    ))

pub returns-clause-within : goal.returns-clause-within
returns-clause-within c =
    let counts = c.in_ok-counts.counts.items in
    let schemes = c.deref.result.now in
    let many : length schemes ≡ length counts = length-zip _ schemes counts c.in_ok-counts.ensures.counts in
    let same : length counts ≡ length c.args.tables.now =
    sym many
    ∙ ap (λ (l : List AttrSet). length l) (c.deref.ensures.value ∙ c.in_ok-schemes_in.ensures.schemes)
    ∙ length-map c.args.tables.now (λ (t : KeyedScheme). t.scheme) in
    IfOk_both c.in_order.result c.in_order.ensures.order c.in_order.ensures.order
    (λ order is also.
    subst (λ (ks : List ℕ). All (λ (k : ℕ). k < length c.args.tables.now) ks)
    (sym (subst (λ (ns : List ℕ). order.items ≡ grouped_below (c.width.result + 1) (positions_from (λ (m : ℕ). true) 0 ns) ns)
    c.deref-2.ensures.value is))
    (subst (λ (m : ℕ). All (λ (k : ℕ). k < m) (grouped_below (c.width.result + 1) (positions_from (λ (m : ℕ). true) 0 counts) counts)) same
    (positions_low (c.width.result + 1) counts)))
