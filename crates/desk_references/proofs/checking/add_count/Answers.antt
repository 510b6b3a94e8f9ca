-- What is left to prove of `add_count`: its clause `added`, for one row.
use Rattle.std.proofs.Common.{◌≡◌, ◌++◌, ℕ, List, codes, sym, ap, ◌∙◌, append_assoc, arith}
use Rattle.std.specs.Fmt.{decimal}
use Rattle.std.proofs.lemmas.Result.{on_ok_weaker}
use Rattle.desk_references.specs.Checks.{count_text}
use Rattle.desk_references.proofs.checking.add_count.Goals as goal

pub returns-then-count-eq1 : goal.returns-then-count-eq1
returns-then-count-eq1 c =
    let old = c.args.text.now.items in
    let first = decimal c.args.first in
    let one : c.args.count ≡ 1 = omega (arith, c.if-count-eq1.true) in
    record {
      added = on_ok_weaker c.add_number.result (λ added.
          added ∙ ap (λ (t : List ℕ). t ++ first) c.in_ok-add.ensures.added
          ∙ append_assoc old (codes "1 row has no match, row ") first
          ∙ ap (λ (n : ℕ). old ++ count_text n c.args.first) (sym one)) c.add_number.ensures.added;
    }
