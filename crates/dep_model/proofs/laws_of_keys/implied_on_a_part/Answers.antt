-- The laws `implied_on_a_part`, clause by clause.
use Rattle.dep_model.proofs.PartLemmas.{fd_on_part, mvd_on_part, parts_same}
use Rattle.dep_model.proofs.laws_of_keys.implied_on_a_part.Goals as goal

pub returns : goal.returns
returns c = record {
  functional = fd_on_part;
  multivalued = mvd_on_part;
  disjoint = parts_same;
}
