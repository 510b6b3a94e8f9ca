-- What is left to prove of `add_opening`: that its pieces are those of `opening_text`.
use Rattle.std.proofs.Common.{ℕ, List, ◌++◌, ap, ◌∙◌, append_assoc}
use Rattle.std.specs.Prelude.{codes}
use Rattle.std.proofs.lemmas.Result.{IfOk-equal}
use Rattle.design_picture.specs.Picture.{opening_text, point_text}
use Rattle.design_picture.proofs.drawing.add_opening.Goals as goal

pub returns : goal.returns
unfolding opening_text
returns c =
    let end = codes "\">\n" in
    let first = point_text (codes "<div class=\"p\"><svg xmlns=\"http://www.w3.org/2000/svg\" viewBox=\"0 0 ") c.args.width (codes " ") c.args.height in
    let second = point_text (codes "\" width=\"") c.args.width (codes "\" height=\"") c.args.height in
    let old = c.args.text.now.items in
    let next = c.add_point-2.new.text.items in
    record {
      added = IfOk-equal c.add.result c.add.new.text.items (next ++ end) (old ++ (first ++ second ++ end)) c.add.ensures.added
          (ap (λ (text : List ℕ). text ++ end) (c.in_ok-add_point-2.ensures.added ∙ ap (λ (text : List ℕ). text ++ second) c.in_ok-add_point.ensures.added)
          ∙ ap (λ (text : List ℕ). text ++ end) (append_assoc old first second) ∙ append_assoc old (first ++ second) end);
    }
