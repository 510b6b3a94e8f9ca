-- The laws `made_up_rows_hold_numerals`, clause by clause.
use Rattle.typed_rows.proofs.HeldNumerals.{tableau_holds, tableau_over, exhibit_holds}
use Rattle.armstrong_rel.proofs.TupleLemmas.{tuples_over}
use Rattle.typed_rows.proofs.made_up_laws.made_up_rows_hold_numerals.Goals as goal

pub returns : goal.returns
returns c = record {
  tableau = λ n ds plan s few reached. tableau_holds n ds plan s few reached;
  tableau_over = λ n ds plan s reached. tableau_over n ds plan s reached;
  exhibit = λ n sets few. exhibit_holds n sets few;
  exhibit_over = λ n sets. tuples_over n sets;
}
