-- What the loop of `keyed_schemes` keeps: `schemes` and `keys`.
use Rattle.std.proofs.Common.{◌≡◌, map, take}
use Rattle.std.specs.Prelude.{All}
use Rattle.desk_tables.specs.Tidiness.{HasPrimaryKey}
use Rattle.desk_tables.proofs.keyed.keyed_schemes.Given as goal

-- the schemes so far, each with its primary key
abbrev pub invariant-loop-scheme : goal.invariant-loop-scheme
invariant-loop-scheme l = record {
  schemes : map (λ table. table.scheme) l.keyed.items ≡ take l.scheme-index l.schemes;
  keys : All (HasPrimaryKey l.schema) l.keyed.items;
}
