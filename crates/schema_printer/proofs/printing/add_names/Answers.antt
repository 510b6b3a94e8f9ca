-- What is left to prove of `add_names`: its clause `added` and that a round of its loop keeps the
-- invariant, by `PrintLemmas` and `SpellingLemmas`.
use Rattle.std.proofs.lemmas.List.{drop_all}
use Rattle.std.proofs.Common.{◌≤◌, length, arith, append-nil, sym, ◌∙◌, ap, Some, append_assoc, ◌++◌, ◌∷◌, []}
use Rattle.schema_printer.specs.Spelling.{spelling, printed_names_of}
use Rattle.schema_printer.proofs.PrintLemmas.{drop-item}
use Rattle.schema_printer.proofs.SpellingLemmas.{printed_name, length_printed}
use Rattle.schema_printer.proofs.printing.add_names.Goals as goal

pub loop-attribute-preserved : goal.loop-attribute-preserved
loop-attribute-preserved c =
    let word = spelling c.naming.result c.name.result.now in
    let rest = drop-item (printed_names_of c.args.schema.now) c.loop-attribute.attribute word
    (printed_name c.args.schema.now c.loop-attribute.attribute _ c.name.ensures.name
    ∙ ap (λ n. Some (spelling n c.name.result.now)) (sym c.naming.ensures.naming)) in
    let added = c.in_ok-add_name.ensures.added ∙ ap (λ t. t ++ word) c.in_ok-add.ensures.added
    ∙ append_assoc _ (32 ∷ []) word in
    rw added (rw append_assoc (rw rest at c.loop-attribute.invariant))

pub returns : goal.returns
returns c =
    let names = printed_names_of c.args.schema.now in
    let past : length names ≤ c.loop-attribute.attribute =
    omega (arith, c.loop-attribute-test.false, c.width-attribute-end.ensures.count, length_printed c.args.schema.now) in
    let none = drop_all c.loop-attribute.attribute names past in
    record { added = sym (append-nil c.loop-attribute.text.items) ∙ (rw none at c.loop-attribute.invariant) }
