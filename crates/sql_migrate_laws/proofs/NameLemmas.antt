-- The names of attributes, as they stand in statements.
use Rattle.std.proofs.Common.{◌≡◌, ℕ, List, [], ◌∷◌, map, refl, ap, ◌∙◌}
use Rattle.attr_sets.specs.Attributes.{Attributes}
use Rattle.schema_model.specs.Schemas.{Schema}
use Rattle.schema_model.specs.Schemas.{names_of}
use Rattle.schema_printer.specs.Printing.{members_from}
use Rattle.schema_printer.proofs.MemberLemmas.{members_named}
use Rattle.sql_syntax.specs.Syntax.{attribute}
use Rattle.sql_evaluation.specs.Values.{bytes_of}
use Rattle.sql_check_laws.proofs.ValuesLemmas.{names_on}
use Rattle.sql_syntax.specs.Names.{attribute_names}

plain : (names : List (List ℕ)) → map bytes_of (map attribute names) ≡ names
plain [] = refl
plain (name ∷ names) = ap (λ (rest : List (List ℕ)). name ∷ rest) (plain names)

pub attribute_names-are : (s : Schema) (x : Attributes) → map bytes_of (attribute_names s x) ≡ names_on s x
attribute_names-are s x = plain (members_from x 0 (names_of s)) ∙ members_named x (names_of s)
