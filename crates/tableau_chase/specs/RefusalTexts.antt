-- The words of the refusal of a chase: for its `Display`, and for the line that refuses a plan.
use Rattle.std.specs.Prelude.{ℕ, List, codes}
use Rattle.tableau_chase.specs.declared.outcome.ChaseRefusal.{ChaseRefusal}
use Rattle.tableau_chase.specs.declared.outcome.ChaseRefusal.TheVariants.{TooManyRows}

-- a refusal in words
abbrev pub chase_refusal_text : ChaseRefusal → List ℕ
chase_refusal_text TooManyRows = codes "too many tableau rows"
