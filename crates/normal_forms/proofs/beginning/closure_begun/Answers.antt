-- What is left to prove of `closure_begun`: its clause `closure`, by `closure_of_begun`.
use Rattle.attr_sets.specs.Sets.{attributes}
use Rattle.dep_model.specs.Theories.{width_of}
use Rattle.normal_forms.specs.Passing.{theory_by}
use Rattle.normal_forms.proofs.BeginLemmas.{closure_of_begun}
use Rattle.normal_forms.proofs.beginning.closure_begun.Goals as goal

pub closed_set-requires : goal.closed_set-requires
closed_set-requires c = record { lhs = (c.begun.ensures.begun c.args.functional c.args.theory.now c.requires.part c.requires.set).within }

pub returns : goal.returns
returns c =
    let s = c.args.theory.now in
    let by = c.args.functional in
    let begun = c.begun.ensures.begun by s c.requires.part c.requires.set in
    record {
      closure = closure_of_begun (width_of s) (theory_by by s) (attributes c.args.set) (attributes c.begun.result) (attributes c.closed_set.result) begun.holds begun.determined c.closed_set.ensures.closure;
    }
