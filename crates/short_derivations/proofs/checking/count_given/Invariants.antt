-- What the loop of `count_given` keeps: how many there are so far, and that links say them.
use Rattle.std.proofs.Common.{◌≡◌, ◌≤◌, length, take}
use Rattle.std.specs.Prelude.{All, Contains}
use Rattle.short_derivations.specs.Inferences.{givens_of}
use Rattle.short_derivations.specs.Links.{said_by}
use Rattle.short_derivations.specs.Views.{lines_of}
use Rattle.short_derivations.proofs.checking.count_given.Given as goal

abbrev pub invariant-loop-line : goal.invariant-loop-line
invariant-loop-line l = record {
  count : l.count ≡ length (givens_of (lines_of (take l.line-index l.lines)));
  from : All (Contains (said_by l.links)) (givens_of (lines_of (take l.line-index l.lines)));
  few : l.count ≤ l.line-index;
}
