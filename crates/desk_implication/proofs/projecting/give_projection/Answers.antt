-- What is left to prove of `give_projection`: its clause `response`, where the set was read.
use Rattle.attr_sets.specs.Sets.{attributes}
use Rattle.desk_responses.proofs.StepLemmas.{With-found}
use Rattle.desk_arguments.specs.Goals.{SetStops, IsSetText}
use Rattle.desk_implication.specs.Projections.{ProjectsSet}
use Rattle.desk_implication.proofs.projecting.give_projection.Goals as goal

pub returns : goal.returns
returns c =
    let s = c.args.schema.now in
    let set = c.args.set.now in
    record {
      response = With-found (SetStops s set) (IsSetText s set) (ProjectsSet s) (attributes c.in-Ok.within) c.project_set.result c.in-Ok.ensures.ok c.project_set.ensures.response;
    }
