-- What is left to prove of `is_too_wide`: its clause `too_wide`, by `some_multivalued` and
-- `none_multivalued`.
use Rattle.std.proofs.Common.{◌≡◌, ◌↔◌, sym, ap, ◌∙◌, subst}
use Rattle.std.proofs.lemmas.Bool.{false≢true}
use Rattle.std.specs.Prelude.{List, IsTrue}
use Rattle.attr_sets.specs.Attributes.{Attributes, below}
use Rattle.attr_sets.specs.Sets.{attributes}
use Rattle.dep_model.specs.declared.dep.Dep.{Dep}
use Rattle.dep_model.specs.Dependencies.{functional_part}
use Rattle.dep_model.specs.Deps.{dependencies_of}
use Rattle.dep_model.specs.Theories.{theory_of}
use Rattle.fd_closure.specs.LeftSides.{IsWideScheme}
use Rattle.key_listing.proofs.FoundLemmas.{some_multivalued, none_multivalued}
use Rattle.key_listing.proofs.listing.is_too_wide.Goals as goal

pub returns-then-is_functional : goal.returns-then-is_functional
returns-then-is_functional c =
    let ds = theory_of c.args.theory.now in
    let same : functional_part ds ≡ ds =
    subst (λ (es : List Dep). functional_part (dependencies_of es) ≡ dependencies_of es) c.deps.ensures.deps (c.is_functional.ensures.functional.0 c.if-is_functional.true) in
    record { too_wide = ((λ e. absurd (false≢true e)), (λ wide. absurd (none_multivalued ds same wide.0))) }

pub returns : goal.returns
returns c =
    let s = c.args.theory.now in
    let ds = theory_of s in
    let not_empty = some_multivalued ds (λ same. false≢true (sym c.if-is_functional.false ∙ c.is_functional.ensures.functional.1
    (subst (λ (es : List Dep). functional_part (dependencies_of es) ≡ dependencies_of es) (sym c.deps.ensures.deps) same))) in
    let wide = subst (λ (es : List Dep). IsTrue c.is_wide_scheme.result ↔ IsWideScheme (dependencies_of es) (attributes c.full.result)) c.deps-2.ensures.deps c.is_wide_scheme.ensures.wide in
    let exact = subst (λ (x : Attributes). IsTrue c.is_wide_scheme.result ↔ IsWideScheme ds x) (c.full.ensures.members ∙ ap below c.width.ensures.count) wide in
    record { too_wide = ((λ e. (not_empty, exact.0 e)), (λ h. exact.1 h.1)) }
