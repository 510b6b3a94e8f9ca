-- What is left to prove of `fourth_beside`: what it answers, case by case, by `FourthLemmas`.
use Rattle.std.proofs.Common.{subst}
use Rattle.std.specs.Prelude.{Option, IfSome}
use Rattle.attr_sets.specs.Sets.{attributes}
use Rattle.dep_model.specs.Theories.{width_of, theory_of, deps_of}
use Rattle.dep_model.specs.declared.form.Form.TheVariants.{Bcnf, Fourth}
use Rattle.normal_forms.specs.Chosen.{IsChosenViolation}
use Rattle.normal_forms.specs.declared.forms.Breach.{Breach}
use Rattle.normal_forms.proofs.ViolationLemmas.{not_in_form}
use Rattle.which_form.specs.declared.forms.TestedForm.TheVariants.{Higher}
use Rattle.which_form.proofs.FourthLemmas.{bcnf_fourth, chosen_fourth}
use Rattle.which_form.proofs.VerdictLemmas.{in_form_verdict}
use Rattle.which_form.proofs.fourth.fourth_beside.Goals as goal
use Rattle.which_form.proofs.fourth.fourth_beside.Goals.{In-Some}

-- the violation that is known
chosen : (c : In-Some) → IsChosenViolation (width_of c.args.theory.now) (theory_of c.args.theory.now) Bcnf (attributes c.args.scheme)
    (attributes c.in-Some.breach.lhs) (attributes c.in-Some.breach.rhs)
chosen c =
    let s = c.args.theory.now in
    subst (λ (found : Option Breach). IfSome found (λ breach. IsChosenViolation (width_of s) (theory_of s) Bcnf (attributes c.args.scheme) (attributes breach.lhs) (attributes breach.rhs)))
    c.in-Some.is c.requires.bcnf.named

pub first_part-rhs-requires : goal.first_part-rhs-requires
first_part-rhs-requires c = record {
  scheme = c.requires.scheme;
  lhs = (chosen (goal.at.first_part-rhs-requires c).In-Some).within;
}

pub returns-in-Some : goal.returns-in-Some
returns-in-Some c =
    let s = c.args.theory.now in
    let n = width_of s in
    let scheme = attributes c.args.scheme in
    let known = chosen (goal.at.returns-in-Some c).In-Some in
    let found = chosen_fourth n (deps_of s) scheme s.valid.within_limit s.valid.deps_within c.requires.functional c.requires.scheme
    (attributes c.in-Some.breach.lhs) (attributes c.in-Some.breach.rhs) (attributes c.first_part-rhs.result) known c.first_part-rhs.ensures.first c.first_part-rhs.ensures.part in
    record {
      verdict = record {
        none = ((λ e. cc), (λ fourth. absurd (not_in_form n (theory_of s) Fourth scheme (attributes c.in-Some.breach.lhs) (attributes c.first_part-rhs.result) c.requires.scheme found.violates fourth)));
        named = found;
      };
    }

pub returns-in-None : goal.returns-in-None
returns-in-None c =
    let s = c.args.theory.now in
    let n = width_of s in
    let scheme = attributes c.args.scheme in
    record {
      verdict = in_form_verdict n (theory_of s) scheme (Higher Fourth)
          (bcnf_fourth n (deps_of s) scheme s.valid.within_limit s.valid.deps_within c.requires.functional c.requires.scheme (c.requires.bcnf.none.0 (cc)));
    }
