-- What is left to prove of `breaks`: what it answers, case by case, by `BreakLemmas`.
use Rattle.std.proofs.Common.{◌≡◌, ℕ, ◌↔◌, Bool, true, false, not, List, sym, subst, ◌∙◌}
use Rattle.std.proofs.lemmas.Bool.{false≢true}
use Rattle.std.specs.Prelude.{IsTrue}
use Rattle.attr_sets.specs.Attributes.{Attributes, below, IsSubset}
use Rattle.attr_sets.specs.Sets.{attributes}
use Rattle.dep_model.specs.Dependencies.{Dependency, fd, IsWithin}
use Rattle.dep_model.specs.Implication.{Implies}
use Rattle.dep_model.specs.Keys.{InClosure}
use Rattle.dep_model.specs.Theories.{width_of, theory_of, deps_of}
use Rattle.dep_model.specs.Theories.{Theory}
use Rattle.dep_model.proofs.DepLemmas.{dependencies_all-from}
use Rattle.dep_model.proofs.KeyLemmas.{superkey-from}
use Rattle.dep_model.proofs.RuleLemmas.{fd_weaker_obeyed}
use Rattle.dep_model.specs.declared.form.Form.{Form}
use Rattle.dep_model.specs.declared.form.Form.TheVariants.{Fourth}
use Rattle.normal_forms.specs.Breaking.{Breaks}
use Rattle.normal_forms.specs.Passing.{theory_by}
use Rattle.normal_forms.proofs.BreakLemmas.{IsTrue-not, superkey_closed, closed_superkey, breaks_two, functional_breaks, is_bcnf}
use Rattle.normal_forms.proofs.breaking.breaks.Goals as goal

-- a closure by the dependencies that a search goes by
exact_by : (s : Theory) (functional known : Bool) (x closed : Attributes) → functional ≡ known
    → ((a : ℕ) → (closed a ≡ true) ↔ InClosure (width_of s) (theory_by functional s) x a)
    → (a : ℕ) → (closed a ≡ true) ↔ InClosure (width_of s) (theory_by known s) x a
exact_by s functional known x closed same exact =
    subst (λ (by : Bool). (a : ℕ) → (closed a ≡ true) ↔ InClosure (width_of s) (theory_by by s) x a) same exact

pub returns-then-functional : goal.returns-then-functional
returns-then-functional c =
    let s = c.args.theory.now in
    let n = width_of s in
    let x = attributes c.args.lhs in
    let scheme = attributes c.args.scheme in
    let closed = attributes c.closure_begun.result in
    let same = c.requires.functional c.if-functional.true in
    let by_part = exact_by s c.args.functional true x closed c.if-functional.true c.closure_begun.ensures.closure in
    let exact = subst (λ (ds : List Dependency). (a : ℕ) → (closed a ≡ true) ↔ InClosure n ds x a) same by_part in
    let fact = c.determines_some.ensures.breaks n (theory_of s) c.requires.scheme exact in
    let both = functional_breaks n (theory_of s) c.args.form scheme x c.requires.form (dependencies_all-from (IsWithin (below n)) (deps_of s) s.valid.deps_within) same c.requires.scheme in
    record { breaks = ((λ e. both.0 (fact.0 e)), (λ b. fact.1 (both.1 b))) }

pub returns-then-is_subset : goal.returns-then-is_subset
returns-then-is_subset c =
    let s = c.args.theory.now in
    let n = width_of s in
    let ds = theory_of s in
    let by = c.args.functional in
    let x = attributes c.args.lhs in
    let scheme = attributes c.args.scheme in
    let start = attributes c.begun.result in
    let known = c.begun.ensures.begun by s c.requires.part (λ k m. c.requires.scheme k (c.requires.lhs k m)) in
    let determined = subst (λ (b : Bool). Implies n (theory_by b s) (fd x start)) c.if-functional.false known.determined in
    let whole = c.is_subset.ensures.subset.0 c.if-is_subset.true in
    let superkey = superkey-from n ds scheme x c.requires.lhs (λ r legal. fd_weaker_obeyed x start x scheme r (λ k m. m) whole (determined r legal)) in
    record { breaks = ((λ e. absurd (false≢true e)), (λ b. absurd (b.0 superkey))) }

pub returns-then-not-has_two_parts : goal.returns-then-not-has_two_parts
returns-then-not-has_two_parts c =
    let s = c.args.theory.now in
    record {
      breaks = (
        (λ e. absurd (false≢true e)),
        (λ b. absurd (false≢true (sym c.if-not-has_two_parts.true ∙ c.has_two_parts.ensures.parts.1
            (breaks_two (width_of s) (theory_of s) c.args.form (attributes c.args.scheme) (attributes c.args.lhs) c.requires.form c.requires.scheme b)))),
      );
    }

pub returns-in-Fourth : goal.returns-in-Fourth
returns-in-Fourth c =
    let s = c.args.theory.now in
    let n = width_of s in
    let ds = theory_of s in
    let x = attributes c.args.lhs in
    let scheme = attributes c.args.scheme in
    let closed = attributes c.closure_begun-found.result in
    let exact = exact_by s c.args.functional false x closed c.if-functional.false c.closure_begun-found.ensures.closure in
    let fact : IsTrue (not c.is_subset-in-Fourth.result) ↔ Breaks n ds Fourth scheme x = IsTrue-not c.is_subset-in-Fourth.result (IsSubset scheme closed) (Breaks n ds Fourth scheme x) c.is_subset-in-Fourth.ensures.subset
    (λ all b. b.0 (closed_superkey n ds scheme x closed c.requires.lhs exact all))
    (λ not_empty. ((λ superkey. not_empty (superkey_closed n ds scheme x closed c.requires.scheme exact superkey)), c.has_two_parts.ensures.parts.0 c.if-not-has_two_parts.false)) in
    record { breaks = subst (λ (f : Form). IsTrue (not c.is_subset-in-Fourth.result) ↔ Breaks n ds f scheme x) (sym c.in-Fourth.is) fact }

pub returns-in-Third : goal.returns-in-Third
returns-in-Third c =
    let s = c.args.theory.now in
    let n = width_of s in
    let ds = theory_of s in
    let x = attributes c.args.lhs in
    let scheme = attributes c.args.scheme in
    let exact = exact_by s c.args.functional false x (attributes c.closure_begun-found.result) c.if-functional.false c.closure_begun-found.ensures.closure in
    let fact = c.determines_some-in-Third.ensures.breaks n ds c.requires.scheme exact in
    record { breaks = subst (λ (f : Form). IsTrue c.determines_some-in-Third.result ↔ Breaks n ds f scheme x) (sym (is_bcnf c.args.form c.requires.form c.in-Third.is)) fact }
