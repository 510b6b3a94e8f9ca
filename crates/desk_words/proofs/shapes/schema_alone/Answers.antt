-- What is left to prove of `schema_alone`: its clause `form`, by the length of the list, whatever is asked.
use Rattle.std.proofs.Common.{◌≡◌, ◌<◌, ◌≤◌, ℕ, List, [], ◌∷◌, Some, length, get_or, ap, ◌∙◌, arith}
use Rattle.desk_words.specs.Commands.{schema_question}
use Rattle.desk_words.specs.Forms.{SchemaQuestion, over_schema, of_schema, schema_alone}
use Rattle.desk_words.proofs.shapes.schema_alone.Goals as goal

one : (q : SchemaQuestion) (xs : List (List ℕ)) (x : List ℕ) → 1 ≤ length xs → length xs < 2 → x ≡ get_or xs 0 x → Some (over_schema x (of_schema q)) ≡ schema_alone q xs
unfolding schema_alone
one q [] x some few is = absurd (omega arith)
one q (y ∷ []) x some few is = ap (λ (schema : List ℕ). Some (over_schema schema (of_schema q))) is
one q (y ∷ z ∷ xs) x some few is = absurd (omega arith)

pub returns-in-len1 : goal.returns-in-len1
returns-in-len1 c = record {
  form = c.over.ensures.form
      ∙ one (schema_question c.args.question) c.args.words.now c.schema-item.result c.in-len1.len_at_least c.in-len1.len_below c.schema-item.is;
}
