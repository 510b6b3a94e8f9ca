-- What is left to prove of `test_loss`: its clauses, of the schemes of the plan.
use Rattle.std.proofs.Common.{List, sym, subst}
use Rattle.std.specs.Prelude.{IfOk, IfErr}
use Rattle.attr_sets.specs.declared.set.AttrSet.{AttrSet}
use Rattle.dep_model.specs.Plans.{schemes_of}
use Rattle.dep_model.specs.Projections.{Covers}
use Rattle.schema_model.specs.Schemas.{width_of}
use Rattle.desk_designs.specs.Joins.{IsShownLossless, LossStops}
use Rattle.desk_responses.specs.Responses.{ExitsAs}
use Rattle.desk_designs.proofs.join.test_loss.Goals as goal

pub test_schemes-requires-clause-covers : goal.test_schemes-requires-clause-covers
test_schemes-requires-clause-covers c =
    subst (λ (schemes : List AttrSet). Covers (width_of c.args.schema.now) (schemes_of schemes)) (sym c.schemes.ensures.schemes) c.requires.covers

pub returns : goal.returns
returns c = record {
  ok = subst (λ (schemes : List AttrSet). IfOk c.test_schemes.result (λ _. IsShownLossless c.args.schema.now (schemes_of schemes)))
      c.schemes.ensures.schemes c.test_schemes.ensures.ok;
  exit = subst (λ (schemes : List AttrSet). IfErr c.test_schemes.result (ExitsAs (LossStops c.args.schema.now (schemes_of schemes))))
      c.schemes.ensures.schemes c.test_schemes.ensures.exit;
}
