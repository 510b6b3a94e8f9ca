-- What is left to prove of `parts_at`: that a round of its loop keeps the invariant.
use Rattle.std.proofs.Common.{◌≡◌, ◌<◌, List, [], ◌∷◌, ◌++◌, length, get_or, sym, ap, ap₂, ◌∙◌, arith}
use Rattle.std.proofs.lemmas.List.{get_or-map, length-map, map-append}
use Rattle.table_join.specs.Tables.{PartialRelation, lent_part, table_of_part, tables_of}
use Rattle.desk_tables.proofs.DesigningLemmas.{members_more}
use Rattle.desk_tables.proofs.designing.parts_at.Goals as goal

pub loop-position-preserved : goal.loop-position-preserved
loop-position-preserved c =
    let parts = c.args.parts.now in
    let positions = c.args.positions.now in
    let i = c.loop-position.position-index in
    let low = c.loop-position-test.true in
    let k = get_or positions i 0 in
    let part = c.index-parts-position.result in
    let within : k < length parts = c.requires.within i 0 low in
    let same : get_or (tables_of parts) k (table_of_part part) ≡ table_of_part part =
    get_or-map table_of_part parts k part (table_of_part part) within ∙ ap table_of_part (sym c.index-parts-position.is) in
    let also : k < length (tables_of parts) = omega (arith, within, length-map parts table_of_part) in
    record {
      members = rw c.in_ok-push.ensures.items
          (map-append lent_part c.loop-position.members.items (_ ∷ [])
          ∙ ap₂ (λ (ts : List PartialRelation) (t : PartialRelation). ts ++ t ∷ []) c.loop-position.invariant.members (sym same)
          ∙ sym (members_more (tables_of parts) positions i 0 (table_of_part part) low also));
    }
