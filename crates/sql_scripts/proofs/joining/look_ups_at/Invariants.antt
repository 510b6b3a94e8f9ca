-- What the loop of `look_ups_at` keeps: the tables so far.
use Rattle.std.proofs.Common.{◌≡◌, take}
use Rattle.optional_tables.specs.Order.{members_at}
use Rattle.sql_scripts.proofs.JoiningLemmas.{look_up_links}
use Rattle.sql_scripts.proofs.joining.look_ups_at.Given as goal

abbrev pub invariant-loop-k : goal.invariant-loop-k
invariant-loop-k l = l.text.items ≡ look_up_links l.schema (members_at l.designs (take l.k-index l.positions))
