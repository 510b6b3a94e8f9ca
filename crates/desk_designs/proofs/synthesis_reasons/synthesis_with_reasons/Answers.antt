-- What is left to prove of `synthesis_with_reasons`: what `plan_of_steps` and `print_reasons` require, and its clauses.
use Rattle.std.proofs.Common.{◌∙◌}
use Rattle.dep_model.specs.Deps.{dependencies_of}
use Rattle.schema_model.specs.Schemas.{nullable_of}
use Rattle.desk_designs.proofs.synthesis_reasons.synthesis_with_reasons.Goals as goal

pub plan_of_steps-requires : goal.plan_of_steps-requires
plan_of_steps-requires c = record {
  steps = rw (c.theory.ensures.theory) (nullable_of c.args.schema.now, c.requires.steps);
  minimal = rw (c.theory.ensures.theory) c.requires.minimal;
  within = rw (c.theory.ensures.theory) c.requires.within;
}

pub print_reasons-requires : goal.print_reasons-requires
print_reasons-requires c = record { kept = c.schemes.ensures.schemes ∙ c.in_ok-plan.ensures.kept; lefts = c.requires.lefts }

pub returns : goal.returns
returns c =
    let s = c.args.schema.now in
    let steps = c.args.steps.now in
    record {
      third = record {
        grouped = (rw (c.theory.ensures.theory) at c.in_ok-plan.ensures.grouped) (nullable_of s) c.requires.steps;
        lossless = rw (c.theory.ensures.theory) at c.in_ok-plan.ensures.lossless;
        third = rw (c.theory.ensures.theory) at c.in_ok-plan.ensures.third;
        keeps = rw (c.theory.ensures.theory) at c.in_ok-plan.ensures.keeps;
      };
      universe = rw (c.theory.ensures.theory) at c.in_ok-plan.ensures.universe;
      reasons = record {
        cover = dependencies_of steps.cover.items;
        all = steps.schemes.items;
        steps = c.requires.steps;
        reads = c.in_ok-reasons.ensures.text;
      };
    }
