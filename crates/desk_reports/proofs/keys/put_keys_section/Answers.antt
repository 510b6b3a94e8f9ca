-- What is left to prove of `put_keys_section`: its clause, of its title.
use Rattle.std.proofs.Common.{ℕ, List, ◌++◌, codes, refl, subst, ◌∙◌}
use Rattle.html_pages.specs.Commands.{shell_word}
use Rattle.html_pages.specs.Pages.{title_with_words}
use Rattle.desk_keys.specs.KeyReasons.{ExplainsKeys}
use Rattle.desk_keys.specs.Keys.{ListsKeys}
use Rattle.desk_reports.specs.Answers.{Adds}
use Rattle.desk_reports.specs.Pieces.{OpensExplained}
use Rattle.desk_reports.proofs.PieceLemmas.{adds_section}
use Rattle.desk_reports.proofs.keys.put_keys_section.Goals as goal

pub returns : goal.returns
returns c =
    let s = c.args.schema.now in
    let title = title_with_words (codes "What identifies a row") (codes "keys " ++ shell_word c.args.file.now) in
    record {
      added = adds_section (codes "Keys") (codes "Keys") (OpensExplained title (ListsKeys s) (ExplainsKeys s)) _ _ _ refl
          c.in_ok-add_heading.ensures.added
          (subst (λ (t : List ℕ). Adds (OpensExplained t (ListsKeys s) (ExplainsKeys s)) c.add_heading.new.text.items c.put_found_keys.new.text.items)
          (c.deref.ensures.value ∙ c.in_ok-title.ensures.text) c.in_ok-put_found_keys.ensures.added);
    }
