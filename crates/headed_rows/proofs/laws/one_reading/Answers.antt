-- What is left to prove of `one_reading`: its clauses `rows`, `refusal` and `never_both`, by `UniqueHeaded`.
use Rattle.headed_rows.proofs.UniqueHeaded.{headed_same, refused_same, never_both}
use Rattle.headed_rows.proofs.laws.one_reading.Goals as goal

pub returns : goal.returns
returns c = record { rows = headed_same; refusal = refused_same; never_both = never_both }
