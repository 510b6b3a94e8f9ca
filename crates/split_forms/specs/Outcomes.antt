-- What becomes of a scheme that is tried: for the functions below `split`. `Desk` does not cite it.
use Rattle.std.specs.Prelude.{ℕ, List, All}
use Rattle.attr_sets.specs.Attributes.{Attributes}
use Rattle.attr_sets.specs.Sets.{attributes}
use Rattle.dep_model.specs.Dependencies.{Dependency}
use Rattle.dep_model.specs.declared.form.Form.{Form}
use Rattle.split_forms.specs.declared.outcome.Outcome.{Outcome}
use Rattle.split_forms.specs.declared.outcome.Outcome.TheVariants.{Whole, Cut, Stuck}
use Rattle.split_forms.specs.declared.trying.Tried.{Tried}
use Rattle.split_forms.specs.Splitting.{StaysWhole, IsCutBy, IsStuckScheme}

-- what becomes of a scheme
abbrev pub IsOutcome : ℕ → List Dependency → Form → Attributes → Outcome → Type 0
IsOutcome n ds form scheme Whole = StaysWhole n ds form scheme
IsOutcome n ds form scheme (Cut breach) = IsCutBy n ds form scheme (attributes breach.lhs) (attributes breach.rhs)
IsOutcome n ds form scheme Stuck = IsStuckScheme n ds form scheme

-- schemes that were tried stand beside what became of them
abbrev pub AreTried : ℕ → List Dependency → Form → List Tried → Type 0
AreTried n ds form tried = All (λ one. IsOutcome n ds form (attributes one.scheme) one.outcome) tried
