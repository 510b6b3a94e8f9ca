-- What is left to prove of `print_no_superkey`: its text, piece by piece.
use Rattle.std.proofs.Common.{◌≡◌, ◌++◌, ◌∷◌, [], ℕ, List, ap, ◌∙◌, append_assoc}
use Rattle.std.specs.Prelude.{codes}
use Rattle.attr_sets.specs.Sets.{attributes}
use Rattle.schema_printer.specs.Printing.{set_text}
use Rattle.schema_printer.specs.Spelling.{printed_names_of}
use Rattle.desk_keys.proofs.key_checks.print_no_superkey.Goals as goal

pub returns : goal.returns
returns c =
    let names = printed_names_of c.args.schema.now in
    let set = set_text names (attributes c.args.set) in
    let why = codes " is no key: it does not determine " in
    let missing = set_text names (attributes c.args.missing) in
    let feed : List ℕ = 10 ∷ [] in
    let shown = codes "shown by" in
    let rows = c.deref.result.now in
    let first = ((set ++ why) ++ missing) ++ feed in
    let head : c.add-2.new.text.items ≡ first =
    c.in_ok-add-2.ensures.added
    ∙ ap (λ (t : List ℕ). t ++ feed) (c.in_ok-add_set-2.ensures.added
    ∙ ap (λ (t : List ℕ). t ++ missing) (c.in_ok-add.ensures.added
    ∙ ap (λ (t : List ℕ). t ++ why) (c.in_ok-add_set.ensures.added
    ∙ ap (λ (t : List ℕ). t ++ set) c.new-text.ensures.items))) in
    let all : c.add-5.new.text.items ≡ ((first ++ shown) ++ feed) ++ rows =
    c.in_ok-add-5.ensures.added
    ∙ ap (λ (t : List ℕ). t ++ rows) (c.in_ok-add-4.ensures.added
    ∙ ap (λ (t : List ℕ). t ++ feed) (c.in_ok-add-3.ensures.added
    ∙ ap (λ (t : List ℕ). t ++ shown) head)) in
    record {
      text = all
          ∙ ap (λ (t : List ℕ). t ++ rows) (append_assoc first shown feed)
          ∙ ap (λ (t : List ℕ). (first ++ (shown ++ feed)) ++ t) (c.deref.ensures.value ∙ c.in_ok-print_two_rows.ensures.text);
    }
