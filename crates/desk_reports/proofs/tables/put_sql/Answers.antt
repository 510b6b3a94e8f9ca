-- What is left to prove of `put_sql`: its clause, by `adds_folded`.
use Rattle.std.proofs.Common.{ℕ, List, [], ◌++◌, ap, ◌∙◌, codes}
use Rattle.attr_sets.specs.declared.set.AttrSet.{AttrSet}
use Rattle.dep_model.specs.Plans.{schemes_of}
use Rattle.html_pages.specs.Commands.{shell_word}
use Rattle.html_pages.specs.Pages.{title_with_words}
use Rattle.plans.specs.Plans.{scheme_sets}
use Rattle.desk_designs.specs.Decompositions.{FormStops, IsPlanInForm}
use Rattle.desk_designs.specs.Designs.{WithoutMissing, WritesForm, WritesTables}
use Rattle.desk_responses.proofs.StepLemmas.{With-found}
use Rattle.desk_responses.specs.Responses.{RespondsAs}
use Rattle.desk_reports.specs.Tables.{ddl_words}
use Rattle.desk_reports.proofs.PieceLemmas.{adds_folded}
use Rattle.desk_reports.proofs.tables.put_sql.Goals as goal

pub returns : goal.returns
returns c =
    let s = c.args.schema.now in
    let form = c.args.form in
    let sets = scheme_sets c.args.found.now.plan in
    let writes : RespondsAs (WritesForm s form) c.write_tables.result =
    With-found (FormStops s form) (IsPlanInForm s form)
    (λ (plan : List AttrSet). WithoutMissing s [] (schemes_of plan) (WritesTables s [] plan)) sets c.write_tables.result
    c.requires.plan (c.write_tables.ensures.response [] sets c.requires.sound) in
    record {
      added = adds_folded (WritesForm s form) (title_with_words (codes "SQL") (ddl_words form ++ shell_word c.args.file.now))
          c.deref.result.now c.write_tables.result _ _
          (c.deref.ensures.value ∙ c.in_ok-title.ensures.text
          ∙ ap (λ (w : List ℕ). title_with_words (codes "SQL") (w ++ shell_word c.args.file.now)) c.words_for_sql.ensures.words)
          writes c.in_ok-put_folded.ensures.added;
    }
