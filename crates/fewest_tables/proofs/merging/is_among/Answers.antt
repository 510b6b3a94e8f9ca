-- What is left to prove of `is_among`: its clause.
use Rattle.std.proofs.Common.{sym, ◌∙◌}
use Rattle.dep_model.specs.Dependencies.{Dependency}
use Rattle.dep_model.specs.Deps.{dependency_of}
use Rattle.fewest_tables.specs.MergedPlans.{has_same_sides}
use Rattle.fewest_tables.proofs.FirstLemmas.{any_map_is}
use Rattle.fewest_tables.proofs.merging.is_among.Goals as goal

pub returns : goal.returns
returns c = record {
  among = c.is_one_of.ensures.same
      ∙ sym (any_map_is dependency_of (λ (e : Dependency). has_same_sides e (dependency_of c.args.dep)) c.args.deps.now);
}
