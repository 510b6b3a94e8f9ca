-- The further rule that a value of the code stands for: for every contract in which one stands.
use Rattle.derivation_rules.specs.declared.rule.FurtherRule.{FurtherRule}
use Rattle.derivation_rules.specs.declared.rule.FurtherRule.TheVariants as code
use Rattle.derivation_rules.specs.FurtherRules.{Further}
use Rattle.derivation_rules.specs.FurtherRules as rule

abbrev pub further_of : FurtherRule → Further
further_of code.Union = rule.union
further_of code.Pseudotransitivity = rule.pseudotransitivity
further_of code.Intersection = rule.intersection
further_of code.Difference = rule.difference
further_of code.MPseudotransitivity = rule.mpseudotransitivity
