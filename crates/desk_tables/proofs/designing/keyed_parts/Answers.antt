-- What is left to prove of `keyed_parts`: schemes lie within the schema, and what is made of them is beside the parts.
use Rattle.std.proofs.Common.{◌∙◌, List, All, sym, ap, subst}
use Rattle.std.proofs.lemmas.List.Elements.{All-map}
use Rattle.attr_sets.specs.Attributes.{Attributes, IsSubset}
use Rattle.attr_sets.specs.Sets.{attributes}
use Rattle.attr_sets.specs.declared.set.AttrSet.{AttrSet}
use Rattle.dep_model.proofs.FailureLemmas.{IfOk_both}
use Rattle.dep_model.specs.Plans.{schemes_of}
use Rattle.schema_model.specs.Schemas.{universe_of}
use Rattle.table_join.specs.Tables.{scheme_of_table, plan_of_tables, tables_of}
use Rattle.desk_tables.proofs.DesigningLemmas.{all_unmapped, keyed_tables, schemes_twice}
use Rattle.desk_tables.proofs.designing.keyed_parts.Goals as goal

pub keyed_schemes-requires : goal.keyed_schemes-requires
keyed_schemes-requires c =
    let schema = c.args.schema.now in
    let tables = tables_of c.args.parts.now in
    let within : All (λ (scheme : Attributes). IsSubset scheme (universe_of schema)) (plan_of_tables tables) =
    All-map (λ (scheme : Attributes). IsSubset scheme (universe_of schema)) scheme_of_table tables
    (λ k d l. (c.requires.tables k d l).within) in
    record {
      within = subst (λ (schemes : List AttrSet). All (λ (scheme : AttrSet). IsSubset (attributes scheme) (universe_of schema)) schemes)
          (sym c.deref.ensures.value)
          (all_unmapped (λ (scheme : Attributes). IsSubset scheme (universe_of schema)) attributes c.in_ok-schemes_of.field-0.items
          (subst (λ (schemes : List Attributes). All (λ (scheme : Attributes). IsSubset scheme (universe_of schema)) schemes)
          (sym c.in_ok-schemes_of.ensures.schemes) within));
    }

pub returns : goal.returns
returns c = record {
  keys = IfOk_both c.keyed_schemes.result c.keyed_schemes.ensures.schemes c.keyed_schemes.ensures.keys
      (λ keyed same keys.
      keyed_tables c.args.schema.now (tables_of c.args.parts.now) keyed.items
      (schemes_twice keyed.items
      ∙ ap schemes_of (same ∙ c.deref.ensures.value)
      ∙ c.in_ok-schemes_of.ensures.schemes)
      keys);
}
