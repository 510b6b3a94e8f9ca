-- What the loop of `put_following` keeps, in terms of `left_out`.
use Rattle.std.proofs.Common.{◌≡◌, ◌++◌, take}
use Rattle.std.specs.List.{flat_map}
use Rattle.dep_model.specs.Deps.{dependencies_of}
use Rattle.schema_printer.specs.Spelling.{printed_names_of}
use Rattle.fewest_tables.specs.MergedPlans.{left_out}
use Rattle.desk_designs.specs.FewestReasons.{following_text}
use Rattle.desk_designs.proofs.fewest_reasons.put_following.Given as goal

abbrev pub invariant-loop-dep : goal.invariant-loop-dep
invariant-loop-dep l =
    l.text.items ≡ l.fn.text.items ++ flat_map (following_text (printed_names_of l.schema))
    (left_out (dependencies_of l.kept) (dependencies_of (take l.dep-index l.cover)))
