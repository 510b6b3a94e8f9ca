-- The laws `irreducible_exactly_where`, clause by clause.
use Rattle.armstrong_rel.proofs.ClosedLemmas.{functional_closures, irreducible_no_intersection, no_intersection_irreducible}
use Rattle.armstrong_rel.proofs.PartLemmas.{irreducible_by_parts}
use Rattle.armstrong_rel.proofs.laws.irreducible_exactly_where.Goals as goal

pub returns : goal.returns
returns c = record {
  no_intersection = λ n ds c m within same closed is. (
    irreducible_no_intersection n ds (functional_closures n ds within same) c m is,
    no_intersection_irreducible n ds c m closed is,
  );
  filled_part = irreducible_by_parts;
}
