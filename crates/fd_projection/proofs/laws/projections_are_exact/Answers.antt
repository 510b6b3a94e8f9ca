-- The laws `projections_are_exact`, clause by clause.
use Rattle.fd_projection.proofs.ProjectionLemmas.{projection_covers}
use Rattle.fd_projection.proofs.MinimalLemmas.{left_given}
use Rattle.fd_projection.proofs.laws.projections_are_exact.Goals as goal

pub returns : goal.returns
returns c = record {
  cover = λ n ds set rules within_limit within set_in is. projection_covers n ds set rules within_limit within set_in is;
  given = left_given;
}
