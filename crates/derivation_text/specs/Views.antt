-- What the values of the reader stand for, in the words of the grammar: for derivation_text. `Desk` does
-- not cite it.
use Rattle.std.specs.Prelude.{List, map}
use Rattle.dep_model.specs.Deps.{dependency_of}
use Rattle.proof_text.specs.Views.{body_of}
use Rattle.derivation_rules.specs.Views.{further_of}
use Rattle.derivation_grammar.specs.Lines.{DerivationBody, by_rule, by_decomposition, by_further, DerivationLine}
use Rattle.derivation_text.specs.declared.line.DerivationBody as bodies
use Rattle.derivation_text.specs.declared.line.DerivationLine as lines

abbrev pub body_of_line : bodies.DerivationBody → DerivationBody
body_of_line (bodies.TheVariants.Rule b) = by_rule (body_of b)
body_of_line (bodies.TheVariants.Decomposition p) = by_decomposition p
body_of_line (bodies.TheVariants.Further r p q) = by_further (further_of r) p q

abbrev pub derivation_line_of : lines.DerivationLine → DerivationLine
derivation_line_of l =
    record { number = l.number; stated = dependency_of l.stated; body = body_of_line l.body }

abbrev pub derivation_lines_of : List lines.DerivationLine → List DerivationLine
derivation_lines_of items = map derivation_line_of items
