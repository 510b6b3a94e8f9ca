-- What is left to prove of `put_judged`: its clause, by `adds_opened`.
use Rattle.std.proofs.Common.{[], ◌∷◌}
use Rattle.schema_model.specs.Schemas.{universe_of}
use Rattle.desk_designs.specs.NormalForms.{JudgesForm}
use Rattle.desk_reports.specs.Forms.{tested_title}
use Rattle.desk_reports.proofs.PieceLemmas.{adds_opened}
use Rattle.desk_reports.proofs.forms.put_judged.Goals as goal

pub returns : goal.returns
returns c =
    let s = c.args.schema.now in
    let form = c.args.form in
    record {
      added = adds_opened (JudgesForm s form (universe_of s ∷ [])) (tested_title form) c.title_of_tested.result.now c.check_tested-judged.result
          _ _ c.title_of_tested.ensures.title c.check_tested-judged.ensures.response c.in_ok-put_opened.ensures.added;
    }
