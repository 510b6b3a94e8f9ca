-- What is left to prove of `put_which_form`: its clause, by `adds_opened`.
use Rattle.std.proofs.Common.{◌++◌, ◌∙◌, codes}
use Rattle.html_pages.specs.Commands.{shell_word}
use Rattle.html_pages.specs.Pages.{title_with_words}
use Rattle.desk_designs.specs.FormsOfSchemes.{ListsFormOfAll}
use Rattle.desk_reports.proofs.PieceLemmas.{adds_opened}
use Rattle.desk_reports.proofs.forms.put_which_form.Goals as goal

pub returns : goal.returns
returns c = record {
  added = adds_opened (ListsFormOfAll c.args.schema.now) (title_with_words (codes "Which form") (codes "form " ++ shell_word c.args.file.now))
      c.deref.result.now c.form_of_tested.result _ _ (c.deref.ensures.value ∙ c.in_ok-title.ensures.text) c.form_of_tested.ensures.response
      c.in_ok-put_opened.ensures.added;
}
