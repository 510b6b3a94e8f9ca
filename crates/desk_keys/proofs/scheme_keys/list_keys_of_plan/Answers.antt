-- What is left to prove of `list_keys_of_plan`: its clause `response`.
use Rattle.std.proofs.Common.{List, subst}
use Rattle.attr_sets.specs.declared.set.AttrSet.{AttrSet}
use Rattle.dep_model.specs.Plans.{schemes_of}
use Rattle.desk_keys.specs.Keys.{ListsKeysOfPlan}
use Rattle.desk_responses.specs.Responses.{RespondsAs}
use Rattle.desk_keys.proofs.scheme_keys.list_keys_of_plan.Goals as goal

pub returns : goal.returns
returns c = record {
  response = subst (λ (schemes : List AttrSet). RespondsAs (ListsKeysOfPlan c.args.schema.now (schemes_of schemes)) c.list_keys_of_schemes.result)
      c.schemes.ensures.schemes c.list_keys_of_schemes.ensures.response;
}
