-- The laws `finished_lists_are_reached`, clause by clause.
use Rattle.fd_closure.proofs.WidthLemmas.{few_never_wide}
use Rattle.split_forms.proofs.SplitLemmas.{finished_not_stuck, finished_within_limit, stuck_within_limit}
use Rattle.split_forms.proofs.laws.finished_lists_are_reached.Goals as goal

pub returns : goal.returns
returns c = record {
  few_left_sides = λ n ds form limit scheme few wide. few_never_wide ds scheme few wide.stuck.stuck.wide;
  never_stuck =
      λ n ds form limit schemes scheme not_empty split. finished_not_stuck n ds form not_empty split schemes limit scheme;
  longest = λ n ds form limit schemes not_empty split. finished_within_limit n ds form not_empty split schemes limit;
  stuck_longest = λ n ds form limit scheme not_empty split. stuck_within_limit n ds form not_empty split limit scheme;
}
