-- The laws `requests_are_answered`, clause by clause.
use Rattle.desk_laws.proofs.CompleteLaws.{implies_answered, proof_answered, rows_answered, join_answered, cover_answered, canonical_answered, keys_answered, synthesize_answered, help_answered, long_help_answered, short_help_answered, version_answered}
use Rattle.desk_laws.proofs.complete.requests_are_answered.Goals as goal

pub returns : goal.returns
returns c = record {
  implies = implies_answered;
  check_proof = proof_answered;
  check_rows = rows_answered;
  check_join = join_answered;
  cover = cover_answered;
  canonical_cover = canonical_answered;
  keys = keys_answered;
  synthesize = synthesize_answered;
  help = help_answered;
  long_help = long_help_answered;
  dash_h = short_help_answered;
  version = version_answered;
}
