-- What is left to prove of `put_plan`: its clause, by what the commands allow.
use Rattle.std.proofs.Common.{ℕ, List, ◌++◌, refl, ap, ◌∙◌}
use Rattle.plans.specs.Plans.{scheme_sets}
use Rattle.desk_responses.specs.ResponseValues.{text_only}
use Rattle.desk_responses.specs.declared.status.Status.TheVariants.{Yes}
use Rattle.desk_designs.specs.SplitReasons.{ExplainsSplit}
use Rattle.desk_designs.proofs.ReasonLemmas.{explains_plan, plain_text}
use Rattle.desk_reports.specs.Tables.{GivesPlan}
use Rattle.desk_reports.proofs.PieceLemmas.{adds_explained}
use Rattle.desk_reports.proofs.PlanLemmas.{gives_plan}
use Rattle.desk_reports.proofs.tables.put_plan.Goals as goal

pub returns : goal.returns
returns c =
    let s = c.args.schema.now in
    let form = c.args.form in
    let found = c.args.found.now in
    let plan = scheme_sets found.plan in
    let reasons = found.reasons.items in
    record {
      added = adds_explained (GivesPlan s form) (ExplainsSplit s form) c.args.title.now c.deref.result.now c.deref-2.result.now _ _
          (text_only Yes (plain_text s plan), gives_plan s form plan c.requires.plan, c.deref.ensures.value ∙ c.in_ok-plain.ensures.text) (
            text_only Yes (reasons ++ plain_text s plan),
            explains_plan s form plan reasons c.requires.plan c.requires.reasons,
            c.deref-2.ensures.value ∙ c.in_ok-explained.ensures.text,
          )
          c.in_ok-put_explained.ensures.added;
    }
