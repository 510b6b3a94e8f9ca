-- The laws `two_tuples_obey`, clause by clause.
use Rattle.dep_model.proofs.TwoTupleLemmas.{two_tuples-agree}
use Rattle.dep_model.proofs.TwoRowLemmas.{fd_two-to, fd_two-from, mvd_two-to, mvd_two-from}
use Rattle.dep_model.proofs.laws.two_tuples_obey.Goals as goal

pub returns : goal.returns
returns c = record {
  agree = λ n a. two_tuples-agree n a;
  functional = λ n a x y t u e x_in y_in. (fd_two-to n a x y t u e x_in y_in, fd_two-from n a x y t u e x_in y_in);
  multivalued = λ n a x y t u e x_in y_in. (mvd_two-to n a x y t u e x_in y_in, mvd_two-from n a x y t u e x_in y_in);
}
