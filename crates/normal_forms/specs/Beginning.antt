-- Sets with which closures begin: for the searches of normal_forms. `Desk` does not cite it.
use Rattle.std.specs.Prelude.{Bool}
use Rattle.attr_sets.specs.Attributes.{Attributes, IsSubset}
use Rattle.attr_sets.specs.Sets.{attributes}
use Rattle.dep_model.specs.Dependencies.{fd}
use Rattle.dep_model.specs.Implication.{Implies}
use Rattle.dep_model.specs.Theories.{width_of, universe_of}
use Rattle.dep_model.specs.Theories.{Theory}
use Rattle.normal_forms.specs.Passing.{theory_by}
use Rattle.normal_forms.specs.declared.beginning.KnownPart.{KnownPart}

-- a set determines, by the functional dependencies or by all, what is known to be determined by it
pub record IsKnownPart (functional : Bool) (s : Theory) (part : KnownPart) : Type 0 where
  pub within : IsSubset (attributes part.closed) (universe_of s)
  pub determined : Implies (width_of s) (theory_by functional s)
      (fd (attributes part.set) (attributes part.closed))

-- a closure may begin with a set in place of x: it holds x, and x determines it
pub record IsBegun (functional : Bool) (s : Theory) (x begun : Attributes) : Type 0 where
  pub within : IsSubset begun (universe_of s)
  pub holds : IsSubset x begun
  pub determined : Implies (width_of s) (theory_by functional s) (fd x begun)
