-- What the lines of a certificate must be, so that they mean the same when they are printed: for
-- the laws of proof_grammar. `Desk` does not cite it.
use Rattle.std.specs.Prelude.{◌<◌, ℕ, ◌^◌, List, [], ◌∷◌, length}
use Rattle.attr_sets.specs.Attributes.{below}
use Rattle.dep_model.specs.Dependencies.{IsWithin}
use Rattle.proof_grammar.specs.Lines.{Body, by_given, by_reflexivity, by_mreflexivity, by_step, by_pair, Line}
use Rattle.proof_grammar.specs.Printing.{IsBodyWithin}

-- each number of a body has at most 9 digits
abbrev pub DigitsFit : Body → Type 0
DigitsFit (by_given k) = k < 10 ^ 9
DigitsFit by_reflexivity = Unit {0}
DigitsFit by_mreflexivity = Unit {0}
DigitsFit (by_step rule p) = p < 10 ^ 9
DigitsFit (by_pair rule p q) = (p < 10 ^ 9) × (q < 10 ^ 9)

-- the sets are of declared attributes, and the numbers have at most 9 digits
pub record IsPrintableLine (names : List (List ℕ)) (l : Line) : Type 0 where
  pub stated : IsWithin (below (length names)) l.stated
  pub body : IsBodyWithin (below (length names)) l.body
  pub number : l.number < 10 ^ 9
  pub digits_fit : DigitsFit l.body

abbrev pub ArePrintableLines : List (List ℕ) → List Line → Type 0
ArePrintableLines names [] = Unit {0}
ArePrintableLines names (l ∷ ls) = IsPrintableLine names l × ArePrintableLines names ls
