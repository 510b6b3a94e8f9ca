-- What the values of the code stand for, in the words of the definitions: for derivation_mistakes.
use Rattle.std.specs.Prelude.{◌↔◌, IsTrue, List, map, Option, option_map, Result}
use Rattle.dep_model.specs.declared.dep.Dep.{Dep}
use Rattle.dep_model.specs.Dependencies.{Dependency}
use Rattle.dep_model.specs.Deps.{dependency_of, IsDepWithin}
use Rattle.schema_model.specs.Schemas.{Schema, universe_of, ImpliedBy}
use Rattle.derivation.specs.declared.fault.FaultKind.{FaultKind}
use Rattle.derivation.specs.Derivs.{outcome_of}
use Rattle.derivation_text.specs.Views.{derivation_line_of}
use Rattle.derivation_mistakes.specs.declared.mistake.Mistake as mistakes
use Rattle.derivation_mistakes.specs.declared.mistake.MistakenLine as lines
use Rattle.derivation_mistakes.specs.Mistakes.{Mistake, does_not_apply, gives, MistakenLine}

abbrev pub maybe_outcome : Option (Result Dep FaultKind) → Option (Result Dependency FaultKind)
maybe_outcome o = option_map outcome_of o

abbrev pub mistake_of : mistakes.Mistake → Mistake
mistake_of (mistakes.TheVariants.DoesNotApply why) = does_not_apply why
mistake_of (mistakes.TheVariants.Gives d) = gives (dependency_of d)

abbrev pub mistaken_line_of : lines.MistakenLine → MistakenLine
mistaken_line_of w = record {
  line = derivation_line_of w.line;
  mistake = mistake_of w.mistake;
  follows = w.follows;
}

abbrev pub mistaken_lines_of : List lines.MistakenLine → List MistakenLine
mistaken_lines_of items = map mistaken_line_of items

-- the dependency that a rule gives can be printed
abbrev pub IsMistakeWithin : Schema → mistakes.Mistake → Type 0
IsMistakeWithin s (mistakes.TheVariants.DoesNotApply why) = Unit {0}
IsMistakeWithin s (mistakes.TheVariants.Gives d) = IsDepWithin (universe_of s) d

-- a wrong line names dependencies within the universe, and says whether what it states follows
pub record IsMistakenLineOf (s : Schema) (w : lines.MistakenLine) : Type 0 where
  pub stated : IsDepWithin (universe_of s) w.line.stated
  pub mistake : IsMistakeWithin s w.mistake
  pub follows : IsTrue w.follows ↔ ImpliedBy s (dependency_of w.line.stated)
