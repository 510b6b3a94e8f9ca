-- The laws `one_error`, clause by clause.
use Rattle.removal_laws.proofs.ErrorLemmas.{same_error, none_where_obeyed, error_smaller}
use Rattle.removal_laws.proofs.one_error.Goals as goal

pub returns : goal.returns
returns c = record {
  unique = same_error;
  none = none_where_obeyed;
  smaller = error_smaller;
}
