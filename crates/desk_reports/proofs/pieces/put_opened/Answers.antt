-- What is left to prove of `put_opened`: its clause.
use Rattle.std.proofs.Common.{ap, ◌∙◌, refl}
use Rattle.html_pages.specs.Pages.{open_text}
use Rattle.desk_reports.proofs.pieces.put_opened.Goals as goal

pub returns : goal.returns
returns c = record {
  added = record {
    piece = open_text c.args.title.now c.in_ok-printed.printed.items;
    is = (c.in_ok-printed.printed.items, c.in_ok-printed.ensures.text, refl);
    added = rw c.deref.ensures.value at c.in_ok-add_open_piece.ensures.added;
  };
}
