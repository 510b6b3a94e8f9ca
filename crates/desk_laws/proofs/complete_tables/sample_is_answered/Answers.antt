-- The law `sample_is_answered`, by `sample_answered`.
use Rattle.desk_laws.proofs.TableLaws.{sample_answered}
use Rattle.desk_laws.proofs.complete_tables.sample_is_answered.Goals as goal

pub returns : goal.returns
returns c = record { law = sample_answered }
