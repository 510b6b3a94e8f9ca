-- What is left to prove of `first_violation`: its clauses `none`, `chosen` and `in_left_sides`, by `FormLemmas` and
-- `ViolationLemmas`.
use Rattle.std.proofs.Common.{refl}
use Rattle.std.proofs.lemmas.Bool.{true≢false}
use Rattle.attr_sets.specs.Sets.{attributes}
use Rattle.dep_model.specs.Theories.{width_of, theory_of}
use Rattle.normal_forms.proofs.ViolationLemmas.{not_in_form}
use Rattle.normal_forms.proofs.FormLemmas.{form_from, chosen_from}
use Rattle.normal_forms.proofs.testing.first_violation.Goals as goal

pub returns-in-None-clause-none : goal.returns-in-None-clause-none
returns-in-None-clause-none c =
    let s = c.args.theory.now in (
      (λ _. form_from (width_of s) (theory_of s) c.args.form (attributes c.args.scheme) (attributes c.searched_attributes-whole.result) c.requires.form c.requires.scheme c.searched_attributes-whole.ensures.enough
          (c.in-None.ensures.none refl)),
      (λ _. refl),
    )

pub returns-in-Some-clause-none : goal.returns-in-Some-clause-none
returns-in-Some-clause-none c =
    let s = c.args.theory.now in (
      (λ e. absurd (true≢false e)),
      (λ formed. absurd (not_in_form (width_of s) (theory_of s) c.args.form (attributes c.args.scheme) (attributes c.in-Some.lhs) (attributes c.right_side-rhs.result) c.requires.scheme c.right_side-rhs.ensures.violates formed)),
    )

pub returns-in-Some-clause-chosen : goal.returns-in-Some-clause-chosen
returns-in-Some-clause-chosen c =
    let s = c.args.theory.now in
    chosen_from (width_of s) (theory_of s) c.args.form (attributes c.args.scheme) (attributes c.searched_attributes-whole.result) (attributes c.in-Some.lhs) (attributes c.right_side-rhs.result)
    c.requires.form c.requires.scheme c.searched_attributes-whole.ensures.enough c.in-Some.ensures.first c.right_side-rhs.ensures.violates

pub returns-in-Some-clause-in_left_sides : goal.returns-in-Some-clause-in_left_sides
returns-in-Some-clause-in_left_sides c k m = c.searched_attributes-whole.ensures.sides k (c.in-Some.ensures.first.within k m)
