-- What is left to prove of `add_comment`: its clause `added`.
use Rattle.std.proofs.Common.{ℕ, List, ◌++◌, ◌∙◌, ap, append_assoc}
use Rattle.std.specs.Prelude.{codes}
use Rattle.attr_sets.specs.Sets.{attributes}
use Rattle.schema_printer.specs.Printing.{set_text}
use Rattle.schema_printer.specs.Spelling.{printed_names_of}
use Rattle.schema_printer.proofs.PrintLemmas.{added_after}
use Rattle.sql_schemas.specs.Keys.{is_primary}
use Rattle.sql_schemas.specs.Texts.{comment_front}
use Rattle.sql_schemas.proofs.table.add_comment.Goals as goal

pub returns : goal.returns
returns c =
    let old = c.args.text.now.items in
    let front = comment_front (is_primary c.args.key.now.kind) in
    let set = set_text (printed_names_of c.args.schema.now) (attributes c.args.key.now.columns) in
    let first =
    c.in_ok-add_set.ensures.added
    ∙ ap (λ (t : List ℕ). t ++ set) (c.in_ok-add.ensures.added ∙ ap (λ (f : List ℕ). old ++ f) (c.comment_front.ensures.front ∙ ap comment_front c.is_primary.ensures.exact))
    ∙ append_assoc old front set in
    record { added = added_after _ old (front ++ set) _ (codes ": missing values are not compared") _ first c.add-2.ensures.added }
