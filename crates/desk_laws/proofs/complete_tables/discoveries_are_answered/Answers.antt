-- The laws `discoveries_are_answered`, clause by clause.
use Rattle.desk_laws.proofs.FileLaws.{discover_answered, discover_keys_answered, discover_small_answered, discover_near_answered, discover_all_answered}
use Rattle.desk_laws.proofs.complete_tables.discoveries_are_answered.Goals as goal

pub returns : goal.returns
returns c = record {
  rules = discover_answered;
  small_rules = discover_small_answered;
  keys = discover_keys_answered;
  near = discover_near_answered;
  all = discover_all_answered;
}
