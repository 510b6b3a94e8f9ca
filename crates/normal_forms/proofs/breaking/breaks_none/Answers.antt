-- What is left to prove of `breaks_none`: what it answers, case by case, by `functional_breaks`.
use Rattle.std.proofs.Common.{List, sym, subst}
use Rattle.std.specs.Prelude.{IsTrue}
use Rattle.attr_sets.specs.Attributes.{Attributes, below}
use Rattle.attr_sets.specs.Sets.{attributes}
use Rattle.dep_model.specs.Dependencies.{Dependency, IsWithin}
use Rattle.dep_model.specs.Theories.{width_of, theory_of, deps_of}
use Rattle.dep_model.proofs.DepLemmas.{dependencies_all-from}
use Rattle.dep_model.specs.declared.form.Form.{Form}
use Rattle.dep_model.specs.declared.form.Form.TheVariants.{Bcnf}
use Rattle.normal_forms.specs.Breaking.{Breaks}
use Rattle.normal_forms.specs.Passing.{LiesBetween}
use Rattle.normal_forms.proofs.BreakLemmas.{functional_breaks, is_bcnf}
use Rattle.normal_forms.proofs.breaking.breaks_none.Goals as goal

pub returns-then-functional : goal.returns-then-functional
returns-then-functional c =
    let s = c.args.theory.now in
    let n = width_of s in
    let scheme = attributes c.args.scheme in
    let same = c.requires.functional c.if-functional.true in
    record {
      none = λ e x between b. c.determines_none.ensures.none e x between
          (subst (λ (ds : List Dependency). Breaks n ds Bcnf scheme x) (sym same)
          ((functional_breaks n (theory_of s) c.args.form scheme x c.requires.form (dependencies_all-from (IsWithin (below n)) (deps_of s) s.valid.deps_within) same c.requires.scheme).1 b));
    }

pub returns-in-Fourth : goal.returns-in-Fourth
returns-in-Fourth c =
    let s = c.args.theory.now in
    record {
      none = subst (λ (f : Form). IsTrue c.parts_none.result → (x : Attributes) → LiesBetween (attributes c.args.least) (attributes c.args.most) x → Breaks (width_of s) (theory_of s) f (attributes c.args.scheme) x → ⊥)
          (sym c.in-Fourth.is) c.parts_none.ensures.none;
    }

pub returns-in-Third : goal.returns-in-Third
returns-in-Third c =
    let s = c.args.theory.now in
    record {
      none = subst (λ (f : Form). IsTrue c.determines_none-in-Third.result → (x : Attributes) → LiesBetween (attributes c.args.least) (attributes c.args.most) x → Breaks (width_of s) (theory_of s) f (attributes c.args.scheme) x → ⊥)
          (sym (is_bcnf c.args.form c.requires.form c.in-Third.is)) c.determines_none-in-Third.ensures.none;
    }
