-- The laws `exhibits_show_their_schema`, clause by clause.
use Rattle.implication_laws.proofs.ExhibitLaws.{exhibit_legal, exhibit_decides, rules_alike}
use Rattle.implication_laws.proofs.exhibiting.exhibits_show_their_schema.Goals as goal

pub returns : goal.returns
returns c = record {
  legal = exhibit_legal;
  goals = exhibit_decides;
  rules = rules_alike;
}
