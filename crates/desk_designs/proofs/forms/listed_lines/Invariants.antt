-- What the loop of `listed_lines` keeps: the text is that of the schemes so far.
use Rattle.std.proofs.Common.{take}
use Rattle.desk_designs.specs.FormsOfSchemes.{ArePlanTexts}
use Rattle.desk_designs.specs.TestedSchemes.{schemes_tested}
use Rattle.desk_designs.proofs.forms.listed_lines.Given as goal

abbrev pub invariant-loop-tested : goal.invariant-loop-tested
invariant-loop-tested l = ArePlanTexts l.schema (schemes_tested (take l.tested-index l.found)) l.text.items
