-- What the loop of `functional_links` keeps: `All`.
use Rattle.std.specs.Prelude.{All}
use Rattle.short_derivations.specs.Links.{IsLinkOf}
use Rattle.short_derivations.proofs.determining.functional_links.Given as goal

abbrev pub invariant-loop-k : goal.invariant-loop-k
invariant-loop-k l = All (IsLinkOf l.theory) l.links.items
