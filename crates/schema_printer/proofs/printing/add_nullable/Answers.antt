-- What is left to prove of `add_nullable`: what it answers, case by case, by `PrintLemmas` and
-- `SpellingLemmas`.
use Rattle.std.proofs.Common.{◌++◌, ◌∙◌, ◌≡◌, ap, sym, subst, append-nil, [], length}
use Rattle.std.proofs.lemmas.Bool.{false≢true}
use Rattle.attr_sets.specs.Attributes.{IsEmpty, IsSubset, below}
use Rattle.attr_sets.specs.Sets.{attributes}
use Rattle.schema_printer.specs.Printing.{members_from}
use Rattle.schema_printer.specs.Spelling.{printed_names_of}
use Rattle.schema_printer.proofs.PrintLemmas.{nullable_nothing, nullable_printed, empty_from_members, added_as}
use Rattle.schema_printer.proofs.SpellingLemmas.{length_printed}
use Rattle.schema_printer.proofs.printing.add_nullable.Goals as goal

pub returns-then-is_empty : goal.returns-then-is_empty
returns-then-is_empty c =
    let old = c.args.text.now.items in
    let empty : IsEmpty (attributes c.args.nullable) = c.is_empty.ensures.empty.0 c.if-is_empty.true in
    record {
      added = sym (append-nil old) ∙ ap (λ t. old ++ t) (sym (nullable_nothing (attributes c.args.nullable) (printed_names_of c.args.schema.now) empty));
    }

pub returns-else-is_empty : goal.returns-else-is_empty
returns-else-is_empty c =
    let s = c.args.schema.now in
    let set = attributes c.args.nullable in
    let names = printed_names_of s in
    let within : IsSubset set (below (length names)) = subst (λ n. IsSubset set (below n)) (sym (length_printed s)) c.requires.within in
    let any_written : members_from set 0 names ≡ [] → ⊥ = λ none.
    false≢true (sym c.if-is_empty.false ∙ c.is_empty.ensures.empty.1 (empty_from_members set names within none)) in
    record {
      added = added_as _ c.args.text.now.items _ _ _ (nullable_printed set names any_written) c.add_nullable_line.ensures.added;
    }
