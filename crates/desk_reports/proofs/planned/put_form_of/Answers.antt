-- What is left to prove of `put_form_of`: its clause, by `adds_opened`.
use Rattle.std.proofs.Common.{ℕ, List, ap, ◌∙◌}
use Rattle.plans.specs.Plans.{plan_of}
use Rattle.html_pages.specs.Pages.{title_with_words}
use Rattle.which_form.specs.declared.forms.TestedForm.TheVariants.{Higher}
use Rattle.desk_designs.specs.NormalForms.{JudgesForm}
use Rattle.desk_reports.specs.Forms.{form_title}
use Rattle.desk_reports.specs.Tables.{check_words, two_files}
use Rattle.desk_reports.proofs.PieceLemmas.{adds_opened}
use Rattle.desk_reports.proofs.planned.put_form_of.Goals as goal

pub returns : goal.returns
returns c = record {
  added = adds_opened (JudgesForm c.args.schema.now (Higher c.args.form) (plan_of c.args.plan.now))
      (title_with_words (form_title c.args.form) (two_files (check_words c.args.form) c.args.file.now c.args.plan_file.now)) c.deref.result.now c.check_form.result
      _ _ (c.deref.ensures.value ∙ c.in_ok-title.ensures.text
      ∙ ap (λ (t : List ℕ). title_with_words t (two_files c.words_for_check.result.now c.args.file.now c.args.plan_file.now)) c.title_of_form.ensures.title
      ∙ ap (λ (w : List ℕ). title_with_words (form_title c.args.form) (two_files w c.args.file.now c.args.plan_file.now)) c.words_for_check.ensures.words)
      c.check_form.ensures.response c.in_ok-put_opened.ensures.added;
}
