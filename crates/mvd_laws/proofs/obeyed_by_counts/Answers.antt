-- The laws `obeyed_by_counts`, clause by clause.
use Rattle.mvd_laws.proofs.SizeLemmas.{fd_by_counts, mvd_by_counts}
use Rattle.mvd_laws.proofs.obeyed_by_counts.Goals as goal

pub returns : goal.returns
returns c = record {
  functional = fd_by_counts;
  multivalued = mvd_by_counts;
}
