-- What is left to prove of `right_side`: what it answers in the cases `Fourth` and `Third`, by
-- `BreakLemmas`.
use Rattle.std.proofs.Common.{sym, subst, ◌∙◌}
use Rattle.std.proofs.lemmas.Bool.{true≢false}
use Rattle.attr_sets.specs.Sets.{attributes}
use Rattle.dep_model.specs.Theories.{width_of, theory_of, deps_of}
use Rattle.dep_model.specs.declared.form.Form.{Form}
use Rattle.dep_model.specs.declared.form.Form.TheVariants.{Bcnf, Fourth}
use Rattle.normal_forms.specs.Violations.{ViolatesBcnf, ViolatesFourth, Violates}
use Rattle.normal_forms.specs.Breaking.{Breaks}
use Rattle.normal_forms.proofs.BreakLemmas.{bcnf_violated, fourth_violated, right_side_at, is_bcnf}
use Rattle.normal_forms.proofs.breaking.right_side.Goals as goal

pub returns-in-Fourth : goal.returns-in-Fourth
returns-in-Fourth c =
    let s = c.args.theory.now in
    let n = width_of s in
    let ds = theory_of s in
    let scheme = attributes c.args.scheme in
    let x = attributes c.args.lhs in
    let y = attributes c.first_part.result in
    let b : Breaks n ds Fourth scheme x = subst (λ (f : Form). Breaks n ds f scheme x) c.in-Fourth.is c.requires.breaks in
    let part = c.first_part.ensures.part (λ nothing. true≢false (sym b.1.not_empty.1 ∙ nothing b.1.not_empty.0)) in
    let violated : ViolatesFourth n ds scheme x y = fourth_violated n (deps_of s) scheme x y s.valid.within_limit s.valid.deps_within c.requires.scheme b part c.first_part.ensures.first in
    record { violates = subst (λ (f : Form). Violates n ds f scheme x y) (sym c.in-Fourth.is) violated }

pub returns-in-Third : goal.returns-in-Third
returns-in-Third c =
    let s = c.args.theory.now in
    let n = width_of s in
    let ds = theory_of s in
    let scheme = attributes c.args.scheme in
    let x = attributes c.args.lhs in
    let y = attributes c.difference.result in
    let is = is_bcnf c.args.form c.requires.form c.in-Third.is in
    let b : Breaks n ds Bcnf scheme x = subst (λ (f : Form). Breaks n ds f scheme x) is c.requires.breaks in
    let right = right_side_at n ds scheme x (attributes c.closure.result) (attributes c.intersection.result) y c.requires.scheme c.requires.lhs c.closure.ensures.closure c.intersection.ensures.members c.difference.ensures.members in
    let violated : ViolatesBcnf n ds scheme x y = bcnf_violated n ds scheme x y b right in
    record { violates = subst (λ (f : Form). Violates n ds f scheme x y) (sym is) violated }
