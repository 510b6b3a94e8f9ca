-- What is left to prove of `parts_none`: what it answers, case by case, by `PassLemmas`.
use Rattle.attr_sets.specs.Sets.{attributes}
use Rattle.dep_model.specs.Theories.{width_of, theory_of}
use Rattle.normal_forms.proofs.PassLemmas.{superkey_between, no_two_parts}
use Rattle.normal_forms.proofs.parting.parts_none.Goals as goal

pub returns-then-is_subset : goal.returns-then-is_subset
returns-then-is_subset c =
    let s = c.args.theory.now in
    record {
      none = λ _ x between b.
          superkey_between (width_of s) (theory_of s) (attributes c.args.scheme) (attributes c.args.least) (attributes c.args.most) c.requires.scheme c.requires.most (attributes c.closure.result)
          c.requires.least c.closure.ensures.closure (c.is_subset.ensures.subset.0 c.if-is_subset.true) x between b.0;
    }

pub returns-then-has_no_parts_about : goal.returns-then-has_no_parts_about
returns-then-has_no_parts_about c =
    let s = c.args.theory.now in
    record {
      none = λ whole x between b.
          no_two_parts (width_of s) (theory_of s) (attributes c.args.scheme) (attributes c.args.least) (attributes c.args.most) c.requires.most (c.has_no_parts_about.ensures.none c.if-has_no_parts_about.true)
          (c.is_whole_without_two.ensures.whole whole) x between b.1;
    }
