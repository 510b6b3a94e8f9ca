-- The law `a_strict_engine_is_fair`: it casts integers, by `casts_integers`, and what it refuses is broken, by
-- `refused_exactly`.
use Rattle.migration_laws.specs.Casting.{cast_of_integers}
use Rattle.migration_laws.proofs.BreakLemmas.{refused_exactly}
use Rattle.migration_laws.proofs.CastLemmas.{casts_integers}
use Rattle.migration_laws.proofs.engines.a_strict_engine_is_fair.Goals as goal

pub returns : goal.returns
returns c = record {
  law = λ script. record {
    casts = casts_integers;
    refuses = λ x state next refused is. (refused_exactly cast_of_integers script x state next is).0 refused;
  };
  exact = refused_exactly;
}
