-- The one text in which a derivation is printed: for `print_derivation` and `explain implies`.
use Rattle.std.specs.Prelude.{ℕ, ◌+◌, ◌<◌, List, [], ◌∷◌, ◌++◌, codes, decimal}
use Rattle.std.specs.List.{flat_map}
use Rattle.attr_sets.specs.Attributes.{Attributes}
use Rattle.schema_model.specs.Schemas.{Schema}
use Rattle.dep_model.specs.Dependencies.{IsWithin}
use Rattle.derivation.specs.declared.measures.TheConstants.{MOST_NODES}
use Rattle.schema_printer.specs.Printing.{dependency_text}
use Rattle.schema_printer.specs.Spelling.{printed_names_of}
use Rattle.proof_grammar.specs.Lines.{by_step, by_pair}
use Rattle.proof_grammar.specs.Printing.{leaf_body, body_text, IsBodyWithin}
use Rattle.derivation_rules.specs.FurtherRules.{Further}
use Rattle.derivation_rules.specs.FurtherRules as further
use Rattle.derivation_grammar.specs.Lines.{DerivationBody, by_rule, by_decomposition, by_further, DerivationLine}
use Rattle.short_derivations.specs.Inferences as why
use Rattle.short_derivations.specs.Inferences.{Line}

-- ---- the lines of a derivation, as they are read
-- premises and dependencies of the schema are counted from 1
abbrev pub body_of : why.Why → DerivationBody
body_of (why.by_leaf rule) = by_rule (leaf_body rule)
body_of (why.by_step rule p) = by_rule (by_step rule (p + 1))
body_of (why.by_pair rule p q) = by_rule (by_pair rule (p + 1) (q + 1))
body_of (why.by_decomposition p) = by_decomposition (p + 1)
body_of (why.by_further rule p q) = by_further rule (p + 1) (q + 1)

-- a line with its number
abbrev pub numbered : ℕ → Line → DerivationLine
numbered n l = record { number = n; stated = l.stated; body = body_of l.why }

-- lines numbered after this many others
abbrev pub numbered_after : ℕ → List Line → List DerivationLine
numbered_after n [] = []
numbered_after n (l ∷ ls) = numbered (n + 1) l ∷ numbered_after (n + 1) ls

-- ---- their text
-- the word of a further rule
unfoldable pub further_word : Further → List ℕ
further_word further.union = codes "union "
further_word further.pseudotransitivity = codes "pseudotransitivity "
further_word further.intersection = codes "intersection "
further_word further.difference = codes "difference "
further_word further.mpseudotransitivity = codes "mpseudotransitivity "

-- what is printed of a rule with its premises and sets
unfoldable pub derivation_body_text : List (List ℕ) → DerivationBody → List ℕ
derivation_body_text names (by_rule b) = body_text names b
derivation_body_text names (by_decomposition p) = codes "decomposition " ++ decimal p
derivation_body_text names (by_further rule p q) = further_word rule ++ decimal p ++ codes " " ++ decimal q

-- a line as it is printed
unfoldable pub derivation_line_text : List (List ℕ) → DerivationLine → List ℕ
derivation_line_text names l =
    decimal l.number ++ codes ": " ++ dependency_text names l.stated ++ codes " : "
    ++ derivation_body_text names l.body ++ codes "\n"

-- the text of a derivation
abbrev pub derivation_text : Schema → List Line → List ℕ
derivation_text s lines = flat_map (derivation_line_text (printed_names_of s)) (numbered_after 0 lines)

-- ---- what can be printed
-- the sets of a rule lie within a set
abbrev pub IsDerivationBodyWithin : Attributes → DerivationBody → Type 0
IsDerivationBodyWithin universe (by_rule b) = IsBodyWithin universe b
IsDerivationBodyWithin universe _ = Unit {0}

-- the lines of its premises are within the limit on lines
abbrev pub NumbersFit : why.Why → Type 0
NumbersFit (why.by_leaf rule) = Unit {0}
NumbersFit (why.by_step rule p) = p < MOST_NODES
NumbersFit (why.by_pair rule p q) = (p < MOST_NODES) × (q < MOST_NODES)
NumbersFit (why.by_decomposition p) = p < MOST_NODES
NumbersFit (why.by_further rule p q) = (p < MOST_NODES) × (q < MOST_NODES)

-- all sets of a line lie within a set, and all numbers fit
pub record IsLineWithin (universe : Attributes) (l : Line) : Type 0 where
  pub stated : IsWithin universe l.stated
  pub body : IsDerivationBodyWithin universe (body_of l.why)
  pub numbers : NumbersFit l.why
