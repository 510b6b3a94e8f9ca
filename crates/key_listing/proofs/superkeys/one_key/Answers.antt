-- What is left to prove of `one_key`: its clause `greedy`, since the test of `narrowed` says what is a superkey.
use Rattle.std.proofs.Common.{rules}
use Rattle.attr_sets.specs.Sets.{attributes}
use Rattle.attr_sets.specs.declared.narrowing.Direction.TheVariants.{Descending}
use Rattle.attr_sets.proofs.NarrowingLemmas.{narrowed-by}
use Rattle.dep_model.specs.Keys.{IsSuperkey}
use Rattle.dep_model.specs.Theories.{width_of, theory_of}
use Rattle.key_listing.proofs.superkeys.one_key.Goals as goal

pub returns : goal.returns
returns c =
    let scheme = attributes c.args.scheme in
    record {
      greedy = narrowed-by Descending _ (IsSuperkey (width_of c.args.theory.now) (theory_of c.args.theory.now) scheme) scheme scheme
          (attributes c.narrowed.result) c.narrowed.ensures.narrowed (λ set fits inside says said. search rules);
    }
