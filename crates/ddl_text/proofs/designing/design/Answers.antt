-- What is left to prove of `design`: its clauses `keys_hold`, `other_keys_hold` and `references_hold`
-- and the invariant of its type, by `DesignLemmas`.
use Rattle.std.proofs.Common.{ℕ, List, sym, subst}
use Rattle.std.specs.Prelude.{All}
use Rattle.attr_sets.specs.declared.set.AttrSet.{AttrSet}
use Rattle.attr_sets.specs.Attributes.{below, IsSubset}
use Rattle.attr_sets.specs.Sets.{attributes}
use Rattle.schema_model.specs.Schemas.{width_of}
use Rattle.ddl_text.proofs.DesignLemmas.{design_earlier, design_keys, design_other_keys, design_references}
use Rattle.ddl_text.proofs.designing.design.Goals as goal

pub invariant_of-result : goal.invariant_of-result
invariant_of-result c = design_earlier c.args.schema.now c.args.names.now c.schemes.result.now c.in_ok-tables.tables.items
    c.in_ok-tables.ensures.design

pub returns-clause-keys_hold : goal.returns-clause-keys_hold
returns-clause-keys_hold c =
    let s = c.args.schema.now in
    let plan = c.args.plan.now in
    let inside = subst (λ (n : ℕ). All (λ (x : AttrSet). IsSubset (attributes x) (below n)) plan.schemes.items)
    c.requires.universe plan.valid.within in
    design_keys s c.args.names.now c.schemes.result.now c.in_ok-tables.tables.items c.in_ok-tables.ensures.design
    (subst (λ (xs : List AttrSet). All (λ (x : AttrSet). IsSubset (attributes x) (below (width_of s))) xs)
    (sym c.schemes.ensures.schemes) inside)

pub returns-clause-other_keys_hold : goal.returns-clause-other_keys_hold
returns-clause-other_keys_hold c = design_other_keys c.args.schema.now c.args.names.now c.schemes.result.now
    c.in_ok-tables.tables.items c.in_ok-tables.ensures.design

pub returns-clause-references_hold : goal.returns-clause-references_hold
returns-clause-references_hold c = design_references c.args.schema.now c.args.names.now c.schemes.result.now
    c.in_ok-tables.tables.items c.in_ok-tables.ensures.design
