-- What is left to prove of `rejoin`: what its calls require, and what it answers with look-ups and without.
use Rattle.std.proofs.Common.{◌≡◌, ◌<◌, ℕ, List, length, All, sym, ap, ap₂, subst, ◌∙◌}
use Rattle.std.proofs.lemmas.Bool.{true≢false}
use Rattle.std.proofs.lemmas.List.{length-map}
use Rattle.std.specs.List.{AllZip}
use Rattle.attr_sets.specs.Attributes.{IsSubset}
use Rattle.attr_sets.specs.Sets.{attributes}
use Rattle.csv_rows.specs.declared.part.PartialRows.{PartialRows}
use Rattle.optional_tables.specs.Order.{members_at}
use Rattle.optional_tables.specs.declared.keyed.KeyedScheme.{KeyedScheme}
use Rattle.schema_model.specs.Schemas.{nullable_of, universe_of, width_of}
use Rattle.table_join.specs.Tables.{IsTable, table_of_part, tables_of}
use Rattle.desk_tables.specs.Rejoining.{IsKeyedTable}
use Rattle.desk_tables.proofs.DesigningLemmas.{length-zip}
use Rattle.desk_tables.proofs.RejoiningLemmas.{IsOptionalDesign, IsOrderOf, answers_same, has_same, joins_all, keyed_within, looks_up}
use Rattle.desk_tables.proofs.rejoining.rejoin.Goals as goal

pub keyed_parts-requires : goal.keyed_parts-requires
keyed_parts-requires c = record {
  tables = subst (λ (ps : List PartialRows). All (IsTable (width_of c.args.schema.now)) (tables_of ps)) (sym c.deref.ensures.value)
      c.requires.tables;
}

pub design_order-requires : goal.design_order-requires
design_order-requires c =
    let s = c.args.schema.now in
    let keyed = c.in_ok-keyed.keyed.items in
    let keys : AllZip (IsKeyedTable s) (tables_of c.args.parts.items) keyed =
    subst (λ (ps : List PartialRows). AllZip (IsKeyedTable s) (tables_of ps) keyed) c.deref.ensures.value c.in_ok-keyed.ensures.keys in
    record {
      schemes = subst (λ (ks : List KeyedScheme). All (λ (t : KeyedScheme). IsSubset (attributes t.scheme) (universe_of s)) ks)
          (sym c.deref-2.ensures.value) (keyed_within s (tables_of c.args.parts.items) keyed keys c.requires.tables);
    }

pub rejoin_design-requires-clause-tables : goal.rejoin_design-requires-clause-tables
rejoin_design-requires-clause-tables c =
    subst (λ (ps : List PartialRows). All (IsTable (width_of c.args.schema.now)) (tables_of ps)) (sym c.deref-then-has_look_ups.ensures.value)
    c.requires.tables

pub rejoin_design-requires-clause-one_each : goal.rejoin_design-requires-clause-one_each
rejoin_design-requires-clause-one_each c =
    ap (λ (ks : List KeyedScheme). length ks) c.deref-then-has_look_ups-2.ensures.value
    ∙ sym (length-zip (IsKeyedTable c.args.schema.now) (tables_of c.deref.result.now) c.in_ok-keyed.keyed.items c.in_ok-keyed.ensures.keys)
    ∙ length-map c.deref.result.now table_of_part
    ∙ ap (λ (ps : List PartialRows). length ps) (c.deref.ensures.value ∙ sym c.deref-then-has_look_ups.ensures.value)

pub rejoin_design-requires-clause-order : goal.rejoin_design-requires-clause-order
rejoin_design-requires-clause-order c =
    let many : length c.deref-2.result.now ≡ length c.deref-then-has_look_ups.result.now =
    ap (λ (ks : List KeyedScheme). length ks) c.deref-2.ensures.value
    ∙ sym (length-zip (IsKeyedTable c.args.schema.now) (tables_of c.deref.result.now) c.in_ok-keyed.keyed.items c.in_ok-keyed.ensures.keys)
    ∙ length-map c.deref.result.now table_of_part
    ∙ ap (λ (ps : List PartialRows). length ps) (c.deref.ensures.value ∙ sym c.deref-then-has_look_ups.ensures.value) in
    subst (λ (ks : List ℕ). All (λ (k : ℕ). k < length c.deref-then-has_look_ups.result.now) ks)
    (sym c.deref-then-has_look_ups-3.ensures.value)
    (subst (λ (m : ℕ). All (λ (k : ℕ). k < m) c.in_ok-order.order.items) many c.in_ok-order.ensures.within)

pub returns-then-has_look_ups : goal.returns-then-has_look_ups
returns-then-has_look_ups c =
    let s = c.args.schema.now in
    let parts = c.args.parts.items in
    let keyed = c.in_ok-keyed.keyed.items in
    let order = c.in_ok-order.order.items in
    let keys : AllZip (IsKeyedTable s) (tables_of parts) keyed =
    subst (λ (ps : List PartialRows). AllZip (IsKeyedTable s) (tables_of ps) keyed) c.deref.ensures.value c.in_ok-keyed.ensures.keys in
    let ordered = c.in_ok-order.ensures.order in
    let is : IsOrderOf s keyed ordered.0 order =
    subst (λ (ks : List KeyedScheme). IsOrderOf s ks ordered.0 order) c.deref-2.ensures.value (ordered.1, ordered.2) in
    let design : c.deref-5.result.now ≡ members_at keyed order =
    c.deref-5.ensures.value ∙ c.in_ok-design.ensures.members
    ∙ ap₂ (λ (ks : List KeyedScheme) (os : List ℕ). members_at ks os) c.deref-3.ensures.value c.deref-4.ensures.value in
    let has : IsOptionalDesign (nullable_of s) (members_at keyed order) =
    has_same (attributes c.nullable.result) (nullable_of s) c.deref-5.result.now (members_at keyed order) c.nullable.ensures.nullable design
    (c.has_look_ups.ensures.has.0 c.if-has_look_ups.true) in
    record {
      response = looks_up s (tables_of parts) keyed keys ordered.0 order c.rejoin_design.result is has.0 has.1
          (answers_same s c.rejoin_design.result c.deref-then-has_look_ups.result.now parts c.deref-then-has_look_ups-2.result.now keyed
          c.deref-then-has_look_ups-3.result.now order c.deref-then-has_look_ups.ensures.value c.deref-then-has_look_ups-2.ensures.value
          c.deref-then-has_look_ups-3.ensures.value c.rejoin_design.ensures.response);
    }

pub returns-else-has_look_ups : goal.returns-else-has_look_ups
returns-else-has_look_ups c =
    let s = c.args.schema.now in
    let parts = c.args.parts.items in
    let keyed = c.in_ok-keyed.keyed.items in
    let order = c.in_ok-order.order.items in
    let keys : AllZip (IsKeyedTable s) (tables_of parts) keyed =
    subst (λ (ps : List PartialRows). AllZip (IsKeyedTable s) (tables_of ps) keyed) c.deref.ensures.value c.in_ok-keyed.ensures.keys in
    let ordered = c.in_ok-order.ensures.order in
    let is : IsOrderOf s keyed ordered.0 order =
    subst (λ (ks : List KeyedScheme). IsOrderOf s ks ordered.0 order) c.deref-2.ensures.value (ordered.1, ordered.2) in
    let design : c.deref-5.result.now ≡ members_at keyed order =
    c.deref-5.ensures.value ∙ c.in_ok-design.ensures.members
    ∙ ap₂ (λ (ks : List KeyedScheme) (os : List ℕ). members_at ks os) c.deref-3.ensures.value c.deref-4.ensures.value in
    record {
      response = joins_all s (tables_of parts) keyed keys ordered.0 order c.rejoin_all.result is
          (λ has. true≢false (sym (c.has_look_ups.ensures.has.1
          (has_same (nullable_of s) (attributes c.nullable.result) (members_at keyed order) c.deref-5.result.now
          (sym c.nullable.ensures.nullable) (sym design) has)) ∙ c.if-has_look_ups.false))
          c.rejoin_all.ensures.response;
    }
