-- The values of a row one after the other.
use Rattle.std.proofs.Common.{ℕ, Bool, List, [], ◌++◌, refl, sym, ap, ap₂, ◌∙◌, arith}
use Rattle.std.proofs.lemmas.List.{take_all}
use Rattle.destinations.specs.Sql.{sql_cell, sql_cells}
use Rattle.destinations.proofs.SqlLemmas.{cells_length, cell_at}
use Rattle.sql_syntax.proofs.ListLemmas.{listed_next}
use Rattle.sql_syntax.specs.Names.{comma_list}
use Rattle.destinations.proofs.sql_line.add_values.Goals as goal

pub loop-i-preserved : goal.loop-i-preserved
loop-i-preserved c =
    let flags = c.args.nullable.now in
    let row = c.args.row.now in
    let i = c.loop-i.i in
    let lt = rw c.len-i-end.ensures.count at c.loop-i-test.true in
    let cell = sql_cell c.flag_at.result c.value.result.now in
    listed_next (λ (text : List ℕ). text) (sql_cells flags row) i cell [] _ _ _ _ (omega (arith, lt, cells_length flags row))
    (ap₂ (λ (flag : Bool) (value : List ℕ). sql_cell flag value) c.flag_at.ensures.flag c.value.ensures.value
    ∙ sym (cell_at flags row i lt))
    c.loop-i.invariant refl c.in_ok-add_listed_value.ensures.added

pub returns : goal.returns
returns c =
    let cells = sql_cells c.args.nullable.now c.args.row.now in
    record {
      values = c.loop-i.invariant
          ∙ ap (λ (front : List (List ℕ)). c.args.text.now.items ++ comma_list (λ (cell : List ℕ). cell) front)
          (take_all c.loop-i.i cells
          (omega (arith, cells_length c.args.nullable.now c.args.row.now, c.len-i-end.ensures.count, c.loop-i-test.false)));
    }
