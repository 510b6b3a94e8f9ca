-- What is left to prove of `check_keeps`: its clause `response`.
use Rattle.std.proofs.Common.{List, subst}
use Rattle.attr_sets.specs.declared.set.AttrSet.{AttrSet}
use Rattle.dep_model.specs.Plans.{schemes_of}
use Rattle.desk_designs.specs.Keeping.{JudgesKeeping}
use Rattle.desk_responses.specs.Responses.{response_value}
use Rattle.desk_designs.proofs.keeping.check_keeps.Goals as goal

pub returns : goal.returns
returns c = record {
  response = subst (λ (schemes : List AttrSet). JudgesKeeping c.args.schema.now (schemes_of schemes) (response_value c.in_ok-judge_keeping.field-0))
      c.schemes.ensures.schemes c.in_ok-judge_keeping.ensures.response;
}
