-- What is left to prove of `explained_third_form`: what the steps require, and what the plan requires of them.
use Rattle.desk_designs.proofs.synthesis_reasons.explained_third_form.Goals as goal

pub steps_of_whole_cover-requires : goal.steps_of_whole_cover-requires
steps_of_whole_cover-requires c = record {
  fixed = rw (c.theory.ensures.theory) c.requires.fixed;
  minimal = rw (c.theory.ensures.theory) c.requires.minimal;
  within = rw (c.theory.ensures.theory) c.requires.within;
}

pub synthesis_with_reasons-requires : goal.synthesis_with_reasons-requires
synthesis_with_reasons-requires c = record {
  steps = rw (c.theory.ensures.theory, c.nullable.ensures.nullable) at c.in_ok-steps.ensures.steps;
  lefts = c.in_ok-steps.ensures.lefts;
  minimal = rw (c.theory.ensures.theory) at c.in_ok-steps.ensures.minimal;
  within = rw (c.theory.ensures.theory) at c.in_ok-steps.ensures.within;
}
