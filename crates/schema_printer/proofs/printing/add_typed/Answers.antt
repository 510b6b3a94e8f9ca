-- What is left to prove of `add_typed`: its clause `added`, by `PrintLemmas` and `SpellingLemmas`.
use Rattle.std.proofs.Common.{◌≡◌, ◌++◌, ◌∷◌, [], ap, sym, ◌∙◌}
use Rattle.std.specs.Prelude.{slice_index_or}
use Rattle.schema_model.specs.declared.column_type.ColumnType.TheVariants.{Text}
use Rattle.schema_model.specs.Schemas.{types_of}
use Rattle.schema_printer.specs.Printing.{type_word}
use Rattle.schema_printer.specs.Spelling.{spelling, printed_names_of}
use Rattle.schema_printer.proofs.PrintLemmas.{added_as, added_after}
use Rattle.schema_printer.proofs.SpellingLemmas.{printed_is, type_is}
use Rattle.schema_printer.proofs.printing.add_typed.Goals as goal

pub returns : goal.returns
returns c =
    let s = c.args.schema.now in
    let k = c.args.attribute in
    let old = c.args.text.now.items in
    let name = spelling c.naming.result c.name.result.now in
    let name_is : name ≡ slice_index_or (printed_names_of s) k [] =
    ap (λ n. spelling n c.name.result.now) c.naming.ensures.naming ∙ sym (printed_is s k _ c.name.ensures.name) in
    let word_is : type_word c.column-column.result ≡ type_word (slice_index_or (types_of s) k Text) =
    ap type_word (sym (type_is s k _ c.column-column.ensures.column)) in
    let last = added_after _ c.add_type_word.new.text.items (32 ∷ []) c.add.new.text.items name _ c.in_ok-add.ensures.added c.add_name.ensures.added in
    let whole = added_after _ old (type_word c.column-column.result) c.add_type_word.new.text.items (32 ∷ name) _ c.in_ok-add_type_word.ensures.added last in
    record {
      added = added_as _ old _ _ _ (ap (λ w. w ++ 32 ∷ name) word_is ∙ ap (λ n. type_word (slice_index_or (types_of s) k Text) ++ 32 ∷ n) name_is) whole;
    }
