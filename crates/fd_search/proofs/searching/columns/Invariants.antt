-- What the loop of `columns` keeps: `columns`.
use Rattle.std.proofs.Common.{◌≡◌}
use Rattle.std.specs.List.{range_with_len}
use Rattle.fd_search.proofs.searching.columns.Given as goal

-- the columns so far
abbrev pub invariant-loop-column : goal.invariant-loop-column
invariant-loop-column l = record { columns : l.columns.items ≡ range_with_len 0 l.column }
