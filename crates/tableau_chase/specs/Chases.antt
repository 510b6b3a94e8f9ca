-- What holds of the rows that `chase` gives where a plan is lossy: for its clauses. `Desk` does not
-- cite it.
use Rattle.std.specs.Prelude.{⊤}
use Rattle.dep_model.specs.Tuples.{Relation}
use Rattle.tableau_chase.specs.declared.outcome.Chased.{Chased}
use Rattle.tableau_chase.specs.declared.outcome.Chased.TheVariants.{Lossless, Lossy}

-- P holds of the rows, if the answer is that the plan is lossy
abbrev pub IfLossy : (Relation → Type 0) → Chased → Type 0
IfLossy P Lossless = ⊤
IfLossy P (Lossy rows) = P rows.items
