-- What the loop of `judge_schemes` keeps, in terms of `PassesForm`.
use Rattle.std.proofs.Common.{take}
use Rattle.std.specs.Prelude.{All}
use Rattle.attr_sets.specs.Sets.{attributes}
use Rattle.desk_designs.specs.NormalForms.{PassesForm}
use Rattle.desk_designs.proofs.form.judge_schemes.Given as goal

-- the schemes so far pass
abbrev pub invariant-loop-i : goal.invariant-loop-i
invariant-loop-i l = record { passed : All (λ scheme. PassesForm l.schema l.form (attributes scheme)) (take l.i l.schemes) }
