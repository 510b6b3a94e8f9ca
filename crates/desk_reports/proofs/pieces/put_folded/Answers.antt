-- What is left to prove of `put_folded`: its clause.
use Rattle.std.proofs.Common.{ap, ◌∙◌, refl}
use Rattle.html_pages.specs.Pages.{folded_text}
use Rattle.desk_reports.proofs.pieces.put_folded.Goals as goal

pub returns : goal.returns
returns c = record {
  added = record {
    piece = folded_text c.args.title.now c.in_ok-printed.printed.items;
    is = (c.in_ok-printed.printed.items, c.in_ok-printed.ensures.text, refl);
    added = rw c.deref.ensures.value at c.in_ok-add_folded_piece.ensures.added;
  };
}
