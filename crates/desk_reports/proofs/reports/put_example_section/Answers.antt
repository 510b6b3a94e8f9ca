-- What is left to prove of `put_example_section`: its clause, by `adds_opened`.
use Rattle.std.proofs.Common.{◌++◌, refl, ◌∙◌, codes}
use Rattle.html_pages.specs.Commands.{shell_word}
use Rattle.html_pages.specs.Pages.{title_with_words}
use Rattle.desk_exhibits.specs.Exhibits.{Exhibits}
use Rattle.desk_reports.specs.Pieces.{Opens}
use Rattle.desk_reports.proofs.PieceLemmas.{adds_opened, adds_section}
use Rattle.desk_reports.proofs.reports.put_example_section.Goals as goal

pub returns : goal.returns
returns c =
    let s = c.args.schema.now in
    let title = title_with_words (codes "Rows that obey just what follows") (codes "exhibit " ++ shell_word c.args.file.now) in
    record {
      added = adds_section (codes "Example rows") (codes "Example rows") (Opens title (Exhibits s)) _ _ _ refl c.in_ok-add_heading.ensures.added
          (adds_opened (Exhibits s) title c.deref.result.now c.exhibit_relation.result _ _
          (c.deref.ensures.value ∙ c.in_ok-title.ensures.text) c.exhibit_relation.ensures.response c.in_ok-put_opened.ensures.added);
    }
