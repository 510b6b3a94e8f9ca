-- An attribute that a schema does not have has no printed name.
use Rattle.std.proofs.Common.{◌≡◌, ◌≤◌, ◌++◌, ◌∙◌, ℕ, List, [], length, sym, ap, arith}
use Rattle.std.proofs.lemmas.List.{append-nil, get_or_past}
use Rattle.schema_model.specs.Schemas.{width_of}
use Rattle.schema_model.specs.Schemas.{Schema}
use Rattle.schema_printer.specs.Spelling.{printed_names_of}
use Rattle.schema_printer.proofs.SpellingLemmas.{length_printed}
use Rattle.desk_responses.specs.Lines.{attribute_name}

pub no_name : (s : Schema) (k : ℕ) (text : List ℕ) → width_of s ≤ k → text ≡ text ++ attribute_name (printed_names_of s) k
no_name s k text beyond =
    let past : length (printed_names_of s) ≤ k = omega (arith, length_printed s, beyond) in
    sym (append-nil text) ∙ ap (λ t. text ++ t) (sym (get_or_past (printed_names_of s) k [] past))
