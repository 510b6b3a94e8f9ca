-- The law `filled_are_the_others`, by `members_of_positions`.
use Rattle.std.proofs.Common.{not}
use Rattle.optional_tables.specs.Homes.{is_optional}
use Rattle.optional_tables.proofs.PositionLemmas.{members_of_positions}
use Rattle.optional_tables.proofs.laws.filled_are_the_others.Goals as goal

pub returns : goal.returns
returns c = record { law = λ nullable tables. members_of_positions (λ table. not (is_optional nullable table)) tables }
