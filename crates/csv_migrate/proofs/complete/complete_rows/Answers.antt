-- What is left to prove of `complete_rows`: that all rows are complete where no value of the key may be missing.
use Rattle.std.proofs.Common.{sym}
use Rattle.std.proofs.lemmas.Bool.{not-false}
use Rattle.attr_sets.specs.Sets.{attributes, is_disjoint}
use Rattle.attr_sets.proofs.AttributesLemmas.{attributes_below, is_disjoint-true}
use Rattle.lookup_laws.proofs.MissingLemmas.{disjoint_misses_none, empty_is_missing, filter_whole}
use Rattle.optional_tables.specs.LookUps.{empty_values}
use Rattle.row_store.specs.Rows.{row_at}
use Rattle.csv_migrate.proofs.CompleteLemmas.{is_complete_at}
use Rattle.csv_migrate.proofs.complete.complete_rows.Goals as goal

pub returns-then-not-intersects : goal.returns-then-not-intersects
returns-then-not-intersects c =
    let nullable = attributes c.args.nullable in
    let key = attributes c.args.key in
    let apart = is_disjoint-true key nullable (attributes_below c.args.key)
    (not-false (is_disjoint key nullable) (sym c.if-not-intersects.ensures.test)) in
    record {
      complete =
          sym (filter_whole (is_complete_at (empty_values nullable) key c.args.rows.now) c.args.numbers.items
          (λ i. disjoint_misses_none nullable (empty_values nullable) key (row_at c.args.rows.now i) (empty_is_missing nullable) apart));
    }
