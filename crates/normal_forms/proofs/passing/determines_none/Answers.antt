-- What is left to prove of `determines_none`: what it answers, case by case, by `PassLemmas`.
use Rattle.attr_sets.specs.Sets.{attributes}
use Rattle.dep_model.specs.Theories.{width_of}
use Rattle.normal_forms.specs.Passing.{theory_by}
use Rattle.normal_forms.proofs.PassLemmas.{superkey_between, none_determined}
use Rattle.normal_forms.proofs.passing.determines_none.Goals as goal

pub returns-then-is_subset : goal.returns-then-is_subset
returns-then-is_subset c =
    let s = c.args.theory.now in
    record {
      none = λ _ x between b.
          superkey_between (width_of s) (theory_by c.args.functional s) (attributes c.args.scheme) (attributes c.args.least) (attributes c.args.most) c.requires.scheme c.requires.most
          (attributes c.closed_set.result) c.requires.least c.closed_set.ensures.closure (c.is_subset.ensures.subset.0 c.if-is_subset.true) x between b.0;
    }

pub returns-then-is_subset-2 : goal.returns-then-is_subset-2
returns-then-is_subset-2 c =
    let s = c.args.theory.now in
    record {
      none = λ independent x between b.
          none_determined (width_of s) (theory_by c.args.functional s) (attributes c.args.scheme) (attributes c.args.least) (attributes c.args.most) c.requires.scheme c.requires.most
          (attributes c.closed_set-2.result) (attributes c.intersection-found.result) c.closed_set-2.ensures.closure c.intersection-found.ensures.members (c.is_subset-2.ensures.subset.0 c.if-is_subset-2.true)
          (c.is_independent.ensures.independent independent) x between b;
    }
