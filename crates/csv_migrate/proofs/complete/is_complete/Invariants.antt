-- What the loop of `is_complete` keeps: no value of the key so far is missing.
use Rattle.std.proofs.Common.{◌≡◌, true}
use Rattle.std.specs.List.{list_all}
use Rattle.attr_sets.specs.Sets.{attributes}
use Rattle.dep_model.specs.Projections.{members_below}
use Rattle.csv_migrate.proofs.CompleteLemmas.{is_there}
use Rattle.csv_migrate.proofs.complete.is_complete.Given as goal

abbrev pub invariant-loop-attribute : goal.invariant-loop-attribute
invariant-loop-attribute l = record {
  so_far : list_all (is_there (attributes l.nullable) l.rows l.row) (members_below l.attribute (attributes l.key)) ≡ true;
}
