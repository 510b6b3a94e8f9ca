-- What is left to prove of `are_known_apart`: what it answers where a set is kept, by `apart_more`.
use Rattle.std.proofs.Common.{subst}
use Rattle.std.specs.Prelude.{Option}
use Rattle.attr_sets.specs.Sets.{attributes}
use Rattle.attr_sets.specs.declared.set.AttrSet.{AttrSet}
use Rattle.tableau_chase.specs.Equating.{IsKeptApart}
use Rattle.tableau_chase.proofs.ApartLemmas.{apart_more}
use Rattle.tableau_chase.proofs.functional_closing.are_known_apart.Goals as goal

pub returns-in-Some : goal.returns-in-Some
returns-in-Some c = record {
  apart = λ yes t kept.
      apart_more (attributes c.in-Some.set) (attributes c.args.on) t (c.is_subset.ensures.subset.0 yes)
      (subst (λ (o : Option AttrSet). IsKeptApart o t) c.in-Some.is kept);
}
