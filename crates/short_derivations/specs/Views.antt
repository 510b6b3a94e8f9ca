-- The lines that values of the code stand for: for every contract in which one stands.
use Rattle.std.specs.Prelude.{List, map}
use Rattle.dep_model.specs.Deps.{dependency_of}
use Rattle.derivation.specs.Derivs.{leaf_of, step_of, pair_of}
use Rattle.derivation_rules.specs.Views.{further_of}
use Rattle.short_derivations.specs.declared.inference.Inference.{Inference}
use Rattle.short_derivations.specs.declared.inference.Reason.{Reason}
use Rattle.short_derivations.specs.declared.inference.Reason.TheVariants as code
use Rattle.short_derivations.specs.Inferences.{Why, by_leaf, by_step, by_pair, by_decomposition, by_further, Line}

abbrev pub why_of : Reason → Why
why_of (code.Leaf rule) = by_leaf (leaf_of rule)
why_of (code.Step rule p) = by_step (step_of rule) p
why_of (code.Pair rule p q) = by_pair (pair_of rule) p q
why_of (code.Decomposition p) = by_decomposition p
why_of (code.Further rule p q) = by_further (further_of rule) p q

abbrev pub line_of : Inference → Line
line_of i = record { stated = dependency_of i.stated; why = why_of i.reason }

abbrev pub lines_of : List Inference → List Line
lines_of is = map line_of is
