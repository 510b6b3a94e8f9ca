-- What the loop of `all_of` keeps, in terms of `schemes_of`.
use Rattle.std.proofs.Common.{◌≡◌, take}
use Rattle.std.specs.List.{list_any}
use Rattle.attr_sets.specs.Sets.{attributes}
use Rattle.dep_model.specs.Plans.{schemes_of}
use Rattle.plan_reader.proofs.covering.all_of.Given as goal

abbrev pub invariant-loop-scheme : goal.invariant-loop-scheme
invariant-loop-scheme l = attributes l.all ≡ (λ k. list_any (λ scheme. scheme k) (schemes_of (take l.scheme-index l.schemes)))
