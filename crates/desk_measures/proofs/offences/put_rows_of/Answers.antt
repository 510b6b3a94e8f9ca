-- What is left to prove of `put_rows_of`: its clause `added`.
use Rattle.std.proofs.Common.{List, ℕ, ◌++◌, refl, ap, subst, ◌∙◌}
use Rattle.std.specs.Prelude.{◌==◌}
use Rattle.std.specs.List.{flat_map}
use Rattle.csv_text.specs.Rows.{csv_row}
use Rattle.dep_model.specs.Deps.{dependency_of}
use Rattle.row_measures.specs.Answers.{AreBrokenRows}
use Rattle.row_measures.specs.declared.breach.BrokenRow.{BrokenRow}
use Rattle.desk_measures.specs.Offences.{row_fields}
use Rattle.desk_measures.proofs.offences.put_rows_of.Goals as goal

pub returns : goal.returns
returns c =
    let s = c.args.schema.now in
    let rows = c.args.rows.now in
    let d = dependency_of c.args.dep in
    let old = c.args.text.now.items in
    let broken = c.in_ok-broken.broken.items in
    let lines : List BrokenRow → List ℕ = λ (rs : List BrokenRow).
    flat_map (λ row. csv_row (row_fields s rows c.args.k row)) rs in
    record {
      added = (
        lines broken,
        record {
          broken = broken;
          are = subst (λ (n : ℕ). AreBrokenRows n rows d broken) c.width.ensures.count c.in_ok-broken.ensures.rows;
          none = ap (λ (n : ℕ). n == 0) (c.len.ensures ∙ c.in_ok-broken.broken.ok.0);
          lines = refl;
        },
        c.in_ok-put_row_lines.ensures.added ∙ ap (λ (rs : List BrokenRow). old ++ lines rs) c.deref.ensures.value,
      );
    }
