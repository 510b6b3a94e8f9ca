-- The laws `closed_sets_hold_their_closures`, clause by clause.
use Rattle.fd_closure.proofs.ClosedSets.{closed-to, closed-from, lead_from_superkey}
use Rattle.fd_closure.proofs.WidthLemmas.{closure_begins}
use Rattle.fd_closure.proofs.laws.closed_sets_hold_their_closures.Goals as goal

pub returns : goal.returns
returns c = record {
  closed = λ n ds c within same c_in. (λ is_closed. closed-from n ds c within same c_in is_closed, λ closed. closed-to n ds c within same closed);
  lead_out = lead_from_superkey;
  parts = closure_begins;
}
