-- What is left to prove of `list_below`: its clause `response`.
use Rattle.std.proofs.Common.{List, ℕ, ◌++◌, ap, ◌∙◌}
use Rattle.csv_text.specs.Rows.{csv_row}
use Rattle.desk_responses.specs.ResponseValues.{text_only}
use Rattle.desk_responses.specs.declared.status.Status.{Status}
use Rattle.desk_measures.specs.Findings.{status_of}
use Rattle.desk_measures.proofs.offences.list_below.Goals as goal

pub returns : goal.returns
returns c =
    let clean = c.in_ok-clean.clean in
    let adds = c.in_ok-clean.ensures.added in
    record {
      response = (
        clean,
        adds.0,
        adds.1,
        c.with_text.ensures.says
            ∙ ap (λ (s : Status). text_only s c.put_each.new.text.items) c.status_of.ensures.status
            ∙ ap (text_only (status_of clean)) (adds.2 ∙ ap (λ (t : List ℕ). t ++ adds.0) (c.in_ok-add_row.ensures.row
            ∙ ap (λ (t : List ℕ). t ++ csv_row c.push_names.new.fields) c.new-text.ensures.items
            ∙ ap csv_row c.in_ok-push_names.ensures.names)),
      );
    }
