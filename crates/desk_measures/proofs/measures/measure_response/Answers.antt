-- What is left to prove of `measure_response`: its clause `response`, by `adds_both`.
use Rattle.std.proofs.Common.{List, ℕ, Bool, ap, subst, ◌∙◌}
use Rattle.std.specs.Prelude.{◌&&◌}
use Rattle.schema_model.specs.Schemas.{width_of}
use Rattle.desk_responses.specs.ResponseValues.{text_only}
use Rattle.desk_responses.specs.declared.status.Status.{Status}
use Rattle.desk_measures.specs.Findings.{Adds, FindsBelow, FindsBoth, status_of}
use Rattle.desk_measures.specs.Measures.{IsColumnFound, IsMeasured}
use Rattle.desk_measures.specs.Offences.{OfEachDependency}
use Rattle.desk_measures.proofs.FindingLemmas.{adds_both}
use Rattle.desk_measures.proofs.measures.measure_response.Goals as goal

pub returns : goal.returns
returns c =
    let s = c.args.schema.now in
    let rows = c.args.rows.now in
    let columns = FindsBelow (IsColumnFound s rows) (width_of s) in
    let deps = OfEachDependency s (IsMeasured s rows) in
    let typed = c.in_ok-typed.typed in
    let legal = c.in_ok-legal.legal in
    let adds = subst (λ (t : List ℕ). Adds (FindsBoth columns deps) t c.put_each.new.text.items (typed && legal)) c.new-text.ensures.items
    (adds_both columns deps _ _ _ typed legal c.in_ok-typed.ensures.added c.in_ok-legal.ensures.added) in
    record {
      response = (
        typed && legal,
        adds.0,
        adds.1,
        c.with_text.ensures.says
            ∙ ap (λ (st : Status). text_only st c.put_each.new.text.items) c.status_of.ensures.status
            ∙ ap (λ (b : Bool). text_only (status_of b) c.put_each.new.text.items) c.both.ensures.both
            ∙ ap (text_only (status_of (typed && legal))) adds.2,
      );
    }
