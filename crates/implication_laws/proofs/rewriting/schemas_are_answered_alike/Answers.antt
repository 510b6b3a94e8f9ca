-- The laws `schemas_are_answered_alike`, clause by clause.
use Rattle.implication_laws.proofs.AlikeLaws.{alike, reordered}
use Rattle.implication_laws.proofs.CoverLaws.{cover_alike}
use Rattle.implication_laws.proofs.rewriting.schemas_are_answered_alike.Goals as goal

pub returns : goal.returns
returns c = record {
  same_relations = alike;
  line_order = reordered;
  cover = cover_alike;
}
