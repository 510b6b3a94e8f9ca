-- What the loop of `list_keys_of_schemes` keeps: `Told`, and where the lines stand that are known.
use Rattle.std.proofs.Common.{take}
use Rattle.std.specs.Prelude.{All}
use Rattle.desk_keys.specs.KeyedLines.{StandIn}
use Rattle.desk_keys.proofs.KeyLemmas.{Told}
use Rattle.desk_keys.proofs.scheme_keys.list_keys_of_schemes.Given as goal

-- the schemes so far were listed with their keys
abbrev pub invariant-loop-scheme : goal.invariant-loop-scheme
invariant-loop-scheme l = record {
  told : Told l.schema (take l.scheme-index l.schemes) l.text.items;
  known : All (StandIn l.schema l.text.items) l.known.items;
}
