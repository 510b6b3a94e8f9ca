-- What is left to prove of `functional_key`: its clause `greedy`, since the test of `narrowed` says what is a superkey.
use Rattle.std.proofs.Common.{rules}
use Rattle.attr_sets.specs.Sets.{attributes}
use Rattle.attr_sets.specs.declared.narrowing.Direction.TheVariants.{Descending}
use Rattle.attr_sets.proofs.NarrowingLemmas.{narrowed-by}
use Rattle.dep_model.specs.Dependencies.{functional_part}
use Rattle.dep_model.specs.Deps.{dependencies_of}
use Rattle.dep_model.specs.Keys.{IsSuperkey}
use Rattle.dep_model.proofs.KeyLemmas.{superkey-from, fd_on-to}
use Rattle.fd_closure.specs.Following.{SaysWhetherFollows}
use Rattle.fd_closure.proofs.greedy_key.functional_key.Goals as goal

pub returns : goal.returns
returns c = record {
  greedy = λ n within low.
      let ds = functional_part (dependencies_of c.args.deps.now) in
      let scheme = attributes c.args.scheme in
      narrowed-by Descending _ (IsSuperkey n ds scheme) scheme scheme (attributes c.narrowed.result) c.narrowed.ensures.narrowed
      (λ set fits inside says said.
      let decides : SaysWhetherFollows c.args.deps.now (attributes set) (attributes c.args.scheme) says = search rules in
      let implied = decides.over n within (λ k m. low k (inside k m)) low in (
        (λ yes. superkey-from n ds scheme (attributes set) inside (implied.0 yes)),
        (λ superkey. implied.1 (fd_on-to n ds scheme (attributes set) scheme superkey)),
      ));
}
