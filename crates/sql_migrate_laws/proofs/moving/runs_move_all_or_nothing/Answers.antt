-- The laws `runs_move_all_or_nothing`, clause by clause.
use Rattle.sql_migrate_laws.proofs.MovedLemmas.{all_moved}
use Rattle.sql_migrate_laws.proofs.RunLemmas.{nothing_kept}
use Rattle.sql_migrate_laws.proofs.moving.runs_move_all_or_nothing.Goals as goal

pub returns : goal.returns
returns c = record {
  moved = λ fails cast s name cell r designs start last holds e. (all_moved fails cast s name cell r designs start last holds e).moved;
  no_other_columns = λ fails cast s name cell r designs start last holds e. (all_moved fails cast s name cell r designs start last holds e).whole;
  others_left = λ fails cast s name cell r designs start last holds e. (all_moved fails cast s name cell r designs start last holds e).leaves;
  nothing_kept = nothing_kept;
}
