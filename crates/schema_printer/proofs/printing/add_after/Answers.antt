-- What is left to prove of `add_after`: what it answers, case by case, by `PrintLemmas` and
-- `SpellingLemmas`.
use Rattle.std.proofs.Common.{◌≡◌, ◌++◌, ◌∷◌, ◌-◌, [], true, false, ap, sym, ◌∙◌}
use Rattle.std.specs.Prelude.{slice_index_or, if◌then◌else◌}
use Rattle.schema_model.specs.declared.column_type.ColumnType.TheVariants.{Text}
use Rattle.schema_model.specs.Schemas.{types_of}
use Rattle.schema_printer.specs.Printing.{type_word, same_column}
use Rattle.schema_printer.specs.Spelling.{spelling, printed_names_of}
use Rattle.schema_printer.proofs.PrintLemmas.{added_as, added_after}
use Rattle.schema_printer.proofs.SpellingLemmas.{printed_is, type_is}
use Rattle.schema_printer.proofs.printing.add_after.Goals as goal

pub returns-in_ok-add : goal.returns-in_ok-add
returns-in_ok-add c =
    let s = c.args.schema.now in
    let k = c.args.attribute in
    let old = c.args.text.now.items in
    let name = spelling c.naming.result c.name.result.now in
    let word = slice_index_or (printed_names_of s) k [] in
    let line = 10 ∷ (type_word (slice_index_or (types_of s) k Text) ++ 32 ∷ word) in
    let name_is : name ≡ word =
    ap (λ n. spelling n c.name.result.now) c.naming.ensures.naming ∙ sym (printed_is s k _ c.name.ensures.name) in
    let same : true ≡ same_column (slice_index_or (types_of s) (k - 1) Text) (slice_index_or (types_of s) k Text) =
    sym c.if-is_same_type.true ∙ c.is_same_type.ensures.exact
    ∙ ap (λ t. same_column t c.column-column.result) (sym (type_is s (k - 1) _ c.column-last.ensures.column))
    ∙ ap (λ t. same_column (slice_index_or (types_of s) (k - 1) Text) t) (sym (type_is s k _ c.column-column.ensures.column)) in
    record {
      added = added_as _ old _ _ _ (ap (λ n. 32 ∷ n) name_is ∙ ap (λ b. if b then 32 ∷ word else line) same)
          (added_after _ old (32 ∷ []) c.add.new.text.items name _ c.in_ok-add.ensures.added c.add_name.ensures.added);
    }

pub returns-in_ok-add-2 : goal.returns-in_ok-add-2
returns-in_ok-add-2 c =
    let s = c.args.schema.now in
    let k = c.args.attribute in
    let old = c.args.text.now.items in
    let word = slice_index_or (printed_names_of s) k [] in
    let line = type_word (slice_index_or (types_of s) k Text) ++ 32 ∷ word in
    let other : false ≡ same_column (slice_index_or (types_of s) (k - 1) Text) (slice_index_or (types_of s) k Text) =
    sym c.if-is_same_type.false ∙ c.is_same_type.ensures.exact
    ∙ ap (λ t. same_column t c.column-column.result) (sym (type_is s (k - 1) _ c.column-last.ensures.column))
    ∙ ap (λ t. same_column (slice_index_or (types_of s) (k - 1) Text) t) (sym (type_is s k _ c.column-column.ensures.column)) in
    record {
      added = added_as _ old _ _ _ (ap (λ b. if b then 32 ∷ word else 10 ∷ line) other)
          (added_after _ old (10 ∷ []) c.add-else-is_same_type.new.text.items line _ c.in_ok-add-2.ensures.added c.add_typed.ensures.added);
    }
