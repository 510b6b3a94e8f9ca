-- What is left to prove of `print_part`: what `add_nullable` requires, and its clause `text`.
use Rattle.std.proofs.Common.{◌≡◌, ◌++◌, ℕ, List, [], ap, ◌∙◌, arith}
use Rattle.attr_sets.specs.Attributes.{Attributes, intersection}
use Rattle.attr_sets.specs.Sets.{attributes}
use Rattle.attr_sets.proofs.AttributesLemmas.{same_at}
use Rattle.dep_model.specs.Deps.{dependencies_of}
use Rattle.schema_model.specs.Schemas.{nullable_of}
use Rattle.schema_printer.specs.Printing.{lines_text, members_from, nullable_lines}
use Rattle.schema_printer.specs.Spelling.{printed_names_of}
use Rattle.schema_printer.specs.Parts.{part_declared_text, part_heading, rules_text}
use Rattle.schema_printer.proofs.PartLemmas.{part_declaring}
use Rattle.schema_printer.proofs.part_printing.print_part.Goals as goal

pub add_nullable-requires : goal.add_nullable-requires
add_nullable-requires c = record { within = λ k m. c.requires.within k (grind (arith, same_at c.intersection.ensures.members k, m)) }

pub returns : goal.returns
returns c =
    let s = c.args.schema.now in
    let x = attributes c.args.set in
    let names = printed_names_of s in
    let nullable_text : Attributes → List ℕ = λ (y : Attributes). lines_text (nullable_lines (members_from y 0 names)) in
    let declared = c.in_ok-text.ensures.text
    ∙ part_declaring s c.in_ok-part.part x c.in_ok-part.ensures.naming c.in_ok-part.ensures.names c.in_ok-part.ensures.columns c.in_ok-part.ensures.nullable in
    let nullable : attributes c.intersection.result ≡ intersection (nullable_of s) x =
    c.intersection.ensures.members ∙ ap (λ (y : Attributes). intersection y x) c.nullable.ensures.nullable in
    let heading : c.add_nullable.new.text.items ≡ part_heading s x =
    c.in_ok-add_nullable.ensures.added
    ∙ ap (λ (t : List ℕ). t ++ nullable_text (attributes c.intersection.result)) declared
    ∙ ap (λ (y : Attributes). part_declared_text s x ++ nullable_text y) nullable in
    record {
      text = c.in_ok-add_deps.ensures.added ∙ ap (λ (t : List ℕ). t ++ rules_text s (dependencies_of c.args.deps.now)) heading;
    }
