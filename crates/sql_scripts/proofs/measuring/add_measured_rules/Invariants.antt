-- What the loop of `add_measured_rules` keeps, in terms of `lines_of`, `theory_of` and `measured_rule_text`.
use Rattle.std.proofs.Common.{◌≡◌, ◌++◌, take}
use Rattle.std.specs.List.{flat_map, zip}
use Rattle.schema_model.specs.Schemas.{lines_of, theory_of}
use Rattle.sql_scripts.specs.Measuring.{measured_rule_text}
use Rattle.sql_scripts.proofs.measuring.add_measured_rules.Given as goal

-- the rules so far
abbrev pub invariant-loop-k : goal.invariant-loop-k
invariant-loop-k l = l.text.items
    ≡ l.fn.text.items ++ flat_map (λ rule. measured_rule_text l.schema l.table rule.0 rule.1)
    (take l.k (zip (lines_of l.schema) (theory_of l.schema)))
