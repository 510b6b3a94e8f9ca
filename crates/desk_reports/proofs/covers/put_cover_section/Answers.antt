-- What is left to prove of `put_cover_section`: its clause, of its title.
use Rattle.std.proofs.Common.{ℕ, List, ◌++◌, codes, refl, subst, ◌∙◌}
use Rattle.html_pages.specs.Commands.{shell_word}
use Rattle.html_pages.specs.Pages.{title_with_words}
use Rattle.desk_covers.specs.Covering.{GivesCover}
use Rattle.desk_covers.specs.CoverReasons.{ExplainsCover}
use Rattle.desk_reports.specs.Answers.{Adds}
use Rattle.desk_reports.specs.Pieces.{OpensExplained}
use Rattle.desk_reports.proofs.PieceLemmas.{adds_section}
use Rattle.desk_reports.proofs.covers.put_cover_section.Goals as goal

pub returns : goal.returns
returns c =
    let s = c.args.schema.now in
    let title = title_with_words (codes "What the rules come to") (codes "cover " ++ shell_word c.args.file.now) in
    record {
      added = adds_section (codes "Cover") (codes "Cover") (OpensExplained title (GivesCover s) (ExplainsCover s)) _ _ _ refl
          c.in_ok-add_heading.ensures.added
          (subst (λ (t : List ℕ). Adds (OpensExplained t (GivesCover s) (ExplainsCover s)) c.add_heading.new.text.items c.put_cover.new.text.items)
          (c.deref.ensures.value ∙ c.in_ok-title.ensures.text) c.in_ok-put_cover.ensures.added);
    }
