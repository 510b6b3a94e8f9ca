-- What the loop of `missing_values` keeps, in terms of `scalar_text`.
use Rattle.std.proofs.Common.{◌≡◌, replicate}
use Rattle.sql_syntax.specs.Names.{comma_list}
use Rattle.sql_syntax.specs.Syntax.{missing_value}
use Rattle.sql_syntax.specs.Printing.{scalar_text}
use Rattle.sql_scripts.proofs.migrating.missing_values.Given as goal

-- the values so far
abbrev pub invariant-loop-attribute : goal.invariant-loop-attribute
invariant-loop-attribute l = l.text.items ≡ comma_list scalar_text (replicate l.attribute missing_value)
