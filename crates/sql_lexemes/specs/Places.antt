-- Lines and columns: for the places of refusals.
use Rattle.std.specs.Prelude.{ℕ, ◌+◌, ◌==◌, List, fold, if◌then◌else◌}

-- the line after these bytes, from 1
abbrev pub line_after : List ℕ → ℕ
line_after front = fold (λ line b. if b == 10 then line + 1 else line) 1 front

-- the column after these bytes, from 1
abbrev pub column_after : List ℕ → ℕ
column_after front = fold (λ column b. if b == 10 then 1 else column + 1) 1 front
