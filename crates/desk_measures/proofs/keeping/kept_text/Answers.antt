-- What is left to prove of `kept_text`: that its loop begins with the header.
use Rattle.std.proofs.Common.{List, ℕ, ◌++◌, ap, ◌∙◌}
use Rattle.csv_text.specs.Rows.{csv_row}
use Rattle.schema_model.specs.Schemas.{names_of}
use Rattle.dep_model.specs.Tuples.{Tuple}
use Rattle.legality.specs.Parts.{flag_at}
use Rattle.desk_measures.proofs.KeepingLemmas.{no_rows_text}
use Rattle.desk_measures.proofs.keeping.kept_text.Goals as goal

pub loop-row-init : goal.loop-row-init
loop-row-init c =
    let names = names_of c.args.schema.now in
    c.in_ok-add_row.ensures.row
    ∙ ap (λ (t : List ℕ). t ++ csv_row c.push_names.new.fields) c.new-text.ensures.items
    ∙ ap csv_row (c.in_ok-push_names.ensures.names ∙ ap (λ (f : Tuple). f ++ names) c.new-fields.ensures.empty)
    ∙ no_rows_text names (flag_at c.args.kept.now) c.args.rows.now
