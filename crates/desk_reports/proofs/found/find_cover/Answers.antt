-- What is left to prove of `find_cover`: its clause, of the schema's own theory.
use Rattle.desk_reports.proofs.found.find_cover.Goals as goal

pub returns : goal.returns
returns c = record {
  found = record {
    steps = rw (c.theory.ensures.theory) at c.in_ok-cover.ensures.steps;
    fixed = rw (c.theory.ensures.theory) at c.in_ok-cover.ensures.fixed;
    minimal = rw (c.theory.ensures.theory) at c.in_ok-cover.ensures.minimal;
    whole_cover = rw (c.theory.ensures.theory) at c.in_ok-cover.ensures.whole_cover;
    within = rw (c.theory.ensures.theory) at c.in_ok-cover.ensures.within;
  };
}
