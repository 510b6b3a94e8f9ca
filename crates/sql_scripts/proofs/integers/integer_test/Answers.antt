-- What is left to prove of `integer_test`: its clause `text`, from its parts.
use Rattle.std.proofs.Common.{◌≡◌, ◌++◌, ℕ, List, subst, ap, ◌∙◌}
use Rattle.std.specs.Prelude.{IfOk, codes}
use Rattle.sql_scripts.proofs.integers.integer_test.Goals as goal

pub returns : goal.returns
returns c =
    let column = c.args.column.now in
    let cast = codes "CAST(" ++ column ++ codes " AS BIGINT)" in
    record {
      text = subst (λ (t : List ℕ). IfOk c.parted-4.result (λ text. text.items ≡ t))
          (ap (λ (t : List ℕ). t ++ codes " <> " ++ c.deref-3.result.now)
          (c.deref-2.ensures.value ∙ c.in_ok-cast_back.ensures.text
          ∙ ap (λ (t : List ℕ). codes "CAST(" ++ t ++ codes " AS TEXT)") (c.deref.ensures.value ∙ c.in_ok-cast.ensures.text))
          ∙ ap (λ (t : List ℕ). codes "CAST(" ++ cast ++ codes " AS TEXT)" ++ codes " <> " ++ t) (c.deref-3.ensures.value ∙ c.in_ok-as_text.ensures.text))
          c.parted-4.ensures.text;
    }
