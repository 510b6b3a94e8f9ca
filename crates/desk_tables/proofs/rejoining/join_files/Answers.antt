-- What is left to prove of `join_files`: the parts at positions are tables, and what their join answers.
use Rattle.std.proofs.Common.{◌≡◌, List, All, inl, sym, ap, subst, ◌∙◌}
use Rattle.optional_tables.specs.Order.{members_at}
use Rattle.schema_model.specs.Schemas.{width_of}
use Rattle.table_join.specs.Tables.{IsTable, PartialRelation, tables_of, tables_of_lent}
use Rattle.desk_tables.specs.Rejoining.{AreRowsOf}
use Rattle.desk_tables.proofs.DesigningLemmas.{all_members}
use Rattle.desk_tables.proofs.rejoining.join_files.Goals as goal

pub join_and_look_up-requires-clause-tables : goal.join_and_look_up-requires-clause-tables
join_and_look_up-requires-clause-tables c =
    subst (λ (ts : List PartialRelation). All (IsTable (width_of c.args.schema.now)) ts)
    (sym (ap tables_of_lent c.deref.ensures.value ∙ c.in_ok-joined.ensures.members))
    (all_members (IsTable (width_of c.args.schema.now)) (tables_of c.args.parts.now) c.args.filled.now c.requires.tables)

pub join_and_look_up-requires-clause-others : goal.join_and_look_up-requires-clause-others
join_and_look_up-requires-clause-others c =
    subst (λ (ts : List PartialRelation). All (IsTable (width_of c.args.schema.now)) ts)
    (sym (ap tables_of_lent c.deref-2.ensures.value ∙ c.in_ok-others.ensures.members))
    (all_members (IsTable (width_of c.args.schema.now)) (tables_of c.args.parts.now) c.args.looked_up.now c.requires.tables)

pub returns-in-Ok : goal.returns-in-Ok
returns-in-Ok c =
    let s = c.args.schema.now in
    let tables = members_at (tables_of c.args.parts.now) c.args.filled.now in
    let others = members_at (tables_of c.args.parts.now) c.args.looked_up.now in
    let first : tables_of_lent c.deref.result.now ≡ tables =
    ap tables_of_lent c.deref.ensures.value ∙ c.in_ok-joined.ensures.members in
    let second : tables_of_lent c.deref-2.result.now ≡ others =
    ap tables_of_lent c.deref-2.ensures.value ∙ c.in_ok-others.ensures.members in
    let lent : AreRowsOf s (tables_of_lent c.deref.result.now) (tables_of_lent c.deref-2.result.now) c.in-Ok.rows = record {
      joined = c.in-Ok.ensures.rows;
      once = c.in-Ok.ensures.once_each;
      covered = c.in-Ok.ensures.covered;
    } in
    record {
      response = inl (
        c.in-Ok.rows,
        subst (λ (ts : List PartialRelation). AreRowsOf s ts others c.in-Ok.rows) first
            (subst (λ (us : List PartialRelation). AreRowsOf s (tables_of_lent c.deref.result.now) us c.in-Ok.rows) second lent),
        c.in_ok-response_of-in-Ok.ensures.says,
      );
    }
