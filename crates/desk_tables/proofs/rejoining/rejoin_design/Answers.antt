-- What is left to prove of `rejoin_design`: positions are within, and the files it joins and looks up are those of the design.
use Rattle.std.proofs.Common.{◌≡◌, ◌<◌, ℕ, List, length, All, sym, ap, subst, ◌∙◌}
use Rattle.std.proofs.lemmas.List.{length-map}
use Rattle.attr_sets.specs.Attributes.{Attributes}
use Rattle.optional_tables.specs.Order.{always_filled, look_up_order, members_at}
use Rattle.schema_model.specs.Schemas.{nullable_of}
use Rattle.table_join.specs.Tables.{PartialRelation, table_of_part, tables_of}
use Rattle.desk_responses.specs.Responses.{RespondsAs}
use Rattle.desk_tables.specs.Rejoining.{LooksUp}
use Rattle.desk_tables.proofs.DesigningLemmas.{all_members, members_of_members}
use Rattle.desk_tables.proofs.RejoiningLemmas.{low_positions}
use Rattle.desk_tables.proofs.rejoining.rejoin_design.Goals as goal

pub numbers_at-requires : goal.numbers_at-requires
numbers_at-requires c = record {
  within = low_positions c.args.keyed.now c.deref.result.now c.args.order.now c.in_ok-looked_up.looked_up.items c.deref-2.result.now
      (length c.args.parts.now) c.requires.one_each c.requires.order (c.deref.ensures.value ∙ c.in_ok-design.ensures.members)
      c.in_ok-looked_up.ensures.within c.deref-2.ensures.value;
}

pub join_files-requires-clause-looked_up : goal.join_files-requires-clause-looked_up
join_files-requires-clause-looked_up c =
    subst (λ (ks : List ℕ). All (λ (k : ℕ). k < length c.args.parts.now) ks)
    (sym (c.deref-4.ensures.value ∙ c.in_ok-files.ensures.members))
    (all_members (λ (k : ℕ). k < length c.args.parts.now) c.args.order.now c.deref-2.result.now c.requires.order)

pub returns : goal.returns
returns c =
    let s = c.args.schema.now in
    let tables = tables_of c.args.parts.now in
    let keyed = c.args.keyed.now in
    let order = c.args.order.now in
    let low : All (λ (p : ℕ). p < length order) c.deref-2.result.now =
    low_positions keyed c.deref.result.now order c.in_ok-looked_up.looked_up.items c.deref-2.result.now (length c.args.parts.now)
    c.requires.one_each c.requires.order (c.deref.ensures.value ∙ c.in_ok-design.ensures.members) c.in_ok-looked_up.ensures.within
    c.deref-2.ensures.value in
    let within : All (λ (k : ℕ). k < length tables) order =
    subst (λ (m : ℕ). All (λ (k : ℕ). k < m) order) (sym (length-map c.args.parts.now table_of_part)) c.requires.order in
    let filled : c.deref-3.result.now ≡ always_filled (nullable_of s) keyed =
    c.deref-3.ensures.value ∙ c.in_ok-filled.ensures.positions
    ∙ ap (λ (x : Attributes). always_filled x keyed) c.nullable.ensures.nullable in
    let looked : c.deref-2.result.now ≡ look_up_order (nullable_of s) (members_at keyed order) =
    c.deref-2.ensures.value ∙ c.in_ok-looked_up.ensures.order
    ∙ ap (λ (x : Attributes). look_up_order x c.deref.result.now) c.nullable-2.ensures.nullable
    ∙ ap (look_up_order (nullable_of s)) (c.deref.ensures.value ∙ c.in_ok-design.ensures.members) in
    let others = members_at (members_at tables order) (look_up_order (nullable_of s) (members_at keyed order)) in
    let files : members_at tables c.deref-4.result.now ≡ others =
    ap (members_at tables) (c.deref-4.ensures.value ∙ c.in_ok-files.ensures.members)
    ∙ members_of_members tables order c.deref-2.result.now within low
    ∙ ap (members_at (members_at tables order)) looked in
    record {
      response =
          subst (λ (ts : List PartialRelation). RespondsAs (LooksUp s ts others) c.join_files.result) (ap (members_at tables) filled)
          (subst (λ (us : List PartialRelation). RespondsAs (LooksUp s (members_at tables c.deref-3.result.now) us) c.join_files.result) files
          c.join_files.ensures.response);
    }
