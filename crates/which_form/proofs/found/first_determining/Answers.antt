-- What is left to prove of `first_determining`: its clause, since the test of `narrowed` says what determines one.
use Rattle.std.proofs.Common.{rules}
use Rattle.attr_sets.specs.Sets.{attributes}
use Rattle.attr_sets.specs.declared.narrowing.Direction.TheVariants.{Descending}
use Rattle.attr_sets.proofs.NarrowingLemmas.{narrowed-by}
use Rattle.dep_model.specs.Dependencies.{functional_part}
use Rattle.dep_model.specs.Deps.{dependencies_of}
use Rattle.which_form.specs.KeySearches.{DeterminesSome, SaysWhetherDetermines}
use Rattle.which_form.proofs.found.first_determining.Goals as goal

pub returns : goal.returns
returns c = record {
  narrowed = λ n within low.
      let ds = functional_part (dependencies_of c.args.deps.now) in
      let wanted = attributes c.args.wanted in
      let set = attributes c.args.set in
      narrowed-by Descending _ (DeterminesSome n ds wanted) set set (attributes c.narrowed.result) c.narrowed.ensures.narrowed
      (λ part fits inside says said.
      let decides : SaysWhetherDetermines c.args.deps.now (attributes part) wanted says = search rules in
      decides.over n within (λ k m. low k (inside k m)));
}
