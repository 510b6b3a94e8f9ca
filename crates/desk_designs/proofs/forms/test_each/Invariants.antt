-- What the loop of `test_each` keeps: the schemes so far with their forms.
use Rattle.std.proofs.Common.{◌≡◌, take}
use Rattle.std.specs.Prelude.{All}
use Rattle.dep_model.specs.Plans.{schemes_of}
use Rattle.desk_designs.specs.TestedSchemes.{IsTestedScheme, schemes_tested}
use Rattle.desk_designs.proofs.forms.test_each.Given as goal

abbrev pub invariant-loop-scheme : goal.invariant-loop-scheme
invariant-loop-scheme l = record {
  tested : All (IsTestedScheme l.schema) l.found.items;
  list : schemes_tested l.found.items ≡ schemes_of (take l.scheme-index l.schemes);
}
