-- The law `files_are_rejoined`, by `way_back`.
use Rattle.desk_laws.proofs.WayBackLaws.{way_back}
use Rattle.desk_laws.proofs.way_back.files_are_rejoined.Goals as goal

pub returns : goal.returns
returns c = record { law = way_back }
