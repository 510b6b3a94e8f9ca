-- What is left to prove of `passed_third`: what it answers, case by case, by `passes_none`.
use Rattle.attr_sets.specs.Sets.{attributes}
use Rattle.dep_model.specs.Dependencies.{functional_part}
use Rattle.dep_model.specs.Theories.{width_of, theory_of}
use Rattle.dep_model.specs.declared.form.Form.TheVariants.{Bcnf}
use Rattle.normal_forms.specs.Breaking.{Breaks}
use Rattle.normal_forms.proofs.PassLemmas.{passes_none}
use Rattle.normal_forms.proofs.third.passed_third.Goals as goal

pub determines_none-passes-requires-clause-most : goal.determines_none-passes-requires-clause-most
determines_none-passes-requires-clause-most c k m = c.requires.within_scheme k (c.filled-most.ensures.within k m)

pub returns-then-few : goal.returns-then-few
returns-then-few c =
    let s = c.args.theory.now in
    record {
      holds = λ k m. m;
      within = c.requires.set;
      passed = passes_none (Breaks (width_of s) (functional_part (theory_of s)) Bcnf (attributes c.args.scheme)) (attributes c.args.whole) (attributes c.args.set);
    }

pub returns-then-passes : goal.returns-then-passes
returns-then-passes c = record {
  holds = c.filled-most.ensures.holds;
  within = c.filled-most.ensures.within;
  passed = λ x x_in after not_later b. c.determines_none-passes.ensures.none c.if-passes.true x (c.filled-most.ensures.between x x_in after not_later) b;
}

pub returns-else-passes : goal.returns-else-passes
returns-else-passes c =
    let s = c.args.theory.now in
    record {
      holds = λ k m. m;
      within = c.requires.set;
      passed = passes_none (Breaks (width_of s) (functional_part (theory_of s)) Bcnf (attributes c.args.scheme)) (attributes c.args.whole) (attributes c.args.set);
    }
