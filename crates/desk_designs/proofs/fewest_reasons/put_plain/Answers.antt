-- What is left to prove of `put_plain`: its clause.
use Rattle.std.proofs.Common.{ℕ, List, ◌++◌, codes, ap, ◌∙◌, append_assoc}
use Rattle.desk_texts.specs.Texts.{line}
use Rattle.desk_designs.proofs.fewest_reasons.put_plain.Goals as goal

pub returns : goal.returns
returns c =
    let old = c.args.text.now.items in
    let head = line (codes "# synthesize has fewer") in
    record {
      added = c.in_ok-add-2.ensures.added
          ∙ ap (λ (t : List ℕ). t ++ c.deref.result.now) c.in_ok-add.ensures.added
          ∙ append_assoc old head c.deref.result.now
          ∙ ap (λ (t : List ℕ). old ++ (head ++ t)) (c.deref.ensures.value ∙ c.in_ok-reasons.ensures.text);
    }
