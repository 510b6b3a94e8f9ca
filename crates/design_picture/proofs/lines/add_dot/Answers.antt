-- What is left to prove of `add_dot`: that its pieces are those of `dot_text`.
use Rattle.std.proofs.Common.{ℕ, List, ◌++◌, ap, ◌∙◌, append_assoc}
use Rattle.std.specs.Prelude.{codes}
use Rattle.std.proofs.lemmas.Result.{IfOk-equal}
use Rattle.design_picture.specs.Picture.{dot_text, point_text}
use Rattle.design_picture.proofs.lines.add_dot.Goals as goal

pub returns : goal.returns
unfolding dot_text
returns c =
    let end = codes "\" r=\"3\"/>\n" in
    let point = point_text (codes "<circle cx=\"") c.args.x (codes "\" cy=\"") c.args.y in
    let old = c.args.text.now.items in
    let next = c.add_point.new.text.items in
    record {
      added = IfOk-equal c.add.result c.add.new.text.items (next ++ end) (old ++ (point ++ end)) c.add.ensures.added
          (ap (λ (text : List ℕ). text ++ end) c.in_ok-add_point.ensures.added ∙ append_assoc old point end);
    }
