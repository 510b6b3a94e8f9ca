-- The law `printed_projections_mean_their_part`, by `projection_means`.
use Rattle.implication_laws.proofs.ProjectLaws.{projection_means}
use Rattle.implication_laws.proofs.projecting.printed_projections_mean_their_part.Goals as goal

pub returns : goal.returns
returns c = record { law = projection_means }
