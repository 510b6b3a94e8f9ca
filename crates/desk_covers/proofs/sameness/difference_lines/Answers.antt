-- What is left to prove of `difference_lines`: that the schemas say the same where it gives none, by
-- `say_the_same`, and what it gives else, by `differences_differ`.
use Rattle.std.proofs.Common.{◌≡◌, ◌++◌, ℕ, List, sym, ap, ◌∙◌, append_assoc}
use Rattle.std.specs.Prelude.{codes}
use Rattle.std.proofs.lemmas.Bool.{false≢true}
use Rattle.desk_covers.specs.Sameness.{different_text, differences_text}
use Rattle.desk_texts.specs.Texts.{line}
use Rattle.desk_covers.proofs.SamenessLemmas.{say_the_same, differences_differ}
use Rattle.desk_covers.proofs.sameness.difference_lines.Goals as goal

pub returns-then-are_empty-clause-same : goal.returns-then-are_empty-clause-same
returns-then-are_empty-clause-same c =
    let none = c.are_empty.ensures.none.0 c.if-are_empty.true in
    let there = c.in_ok-of_schema.ensures.none.0 (sym c.deref.ensures.value ∙ none.0) in
    let back = c.in_ok-of_other.ensures.none.0 (sym c.deref-2.ensures.value ∙ none.1) in
    λ _. say_the_same c.args.schema.now c.args.other.now c.requires.names there back

pub returns-clause-differ : goal.returns-clause-differ
returns-clause-differ c =
    let of_schema = c.in_ok-of_schema.of_schema.items in
    let of_other = c.in_ok-of_other.of_other.items in
    let there = λ (numbers : List ℕ). differences_text c.args.schema.now c.args.file.now c.args.other_file.now numbers in
    let back = λ (numbers : List ℕ). differences_text c.args.other.now c.args.other_file.now c.args.file.now numbers in
    let first = c.deref-3.result.now in
    let second = c.deref-4.result.now in
    let head = line (codes "different") in
    let text : c.put_differences-2.new.text.items ≡ different_text c.args.schema.now c.args.other.now c.args.file.now c.args.other_file.now of_schema of_other =
    c.in_ok-put_differences-2.ensures.added
    ∙ ap (λ (t : List ℕ). t ++ back second) (c.in_ok-put_differences.ensures.added ∙ ap (λ (t : List ℕ). t ++ there first) c.in_ok-text.ensures.line)
    ∙ append_assoc head (there first) (back second)
    ∙ ap (λ (numbers : List ℕ). head ++ (there numbers ++ back second)) c.deref-3.ensures.value
    ∙ ap (λ (numbers : List ℕ). head ++ (there of_schema ++ back numbers)) c.deref-4.ensures.value in
    record {
      of_schema = of_schema;
      of_other = of_other;
      differ = differences_differ c.args.schema.now c.args.other.now of_schema of_other c.requires.names c.in_ok-of_schema.ensures.differences c.in_ok-of_other.ensures.differences
          c.in_ok-of_schema.ensures.none c.in_ok-of_other.ensures.none
          (λ none. false≢true (sym c.if-are_empty.false ∙ c.are_empty.ensures.none.1 (c.deref.ensures.value ∙ none.0, c.deref-2.ensures.value ∙ none.1)));
      reads = text;
    }
