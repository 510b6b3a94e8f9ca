-- The law `printed_parts_are_read_back`, by `part_means`.
use Rattle.printing_laws.proofs.PrintedParts.{part_means}
use Rattle.printing_laws.proofs.printed_parts_are_read_back.Goals as goal

pub returns : goal.returns
returns c = record { law = λ file s x ds means low some within few. part_means file s x ds means low some within few }
