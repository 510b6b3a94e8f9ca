-- What is left to prove of `lead_to`: that the invariant of its loop stays.
use Rattle.std.proofs.Common.{Vec, Global, sym, subst}
use Rattle.std.specs.Prelude.{All}
use Rattle.candidate_search.specs.Levels.{IsLevel}
use Rattle.candidate_search.specs.declared.levels.Level.{Level}
use Rattle.candidate_search.proofs.levels.lead_to.Goals as goal
use Rattle.candidate_search.proofs.levels.lead_to.Goals.{then-contains+in_ok-deepen, else-contains}

pub loop-step-preserved : goal.loop-step-preserved
loop-step-preserved c = elim c.if-contains.branch [
  | then-contains+in_ok-deepen w ↦ record {
    levels = λ r tabled are. subst (λ (v : Vec Level Global). All (IsLevel r) v.items) (sym w.levels-is)
        (w.in_ok-deepen.ensures.levels r tabled (c.loop-step.invariant.levels r tabled are));
  }
  | else-contains w ↦ record {
    levels = λ r tabled are. subst (λ (v : Vec Level Global). All (IsLevel r) v.items) (sym w.levels-is)
        (c.loop-step.invariant.levels r tabled are);
  }
]
