-- What is left to prove of `discover_all`: what it requires of what it calls, and its clauses `rules` and `cover`, by
-- `FindingLemmas` and the law of reduced dependencies.
use Rattle.std.proofs.Common.{◌≡◌, ◌≤◌, ◌++◌, ◌⊎◌, ℕ, List, length, take, drop, ap, sym, subst, ◌∙◌, arith}
use Rattle.std.proofs.lemmas.List.{length-append}
use Rattle.std.proofs.lemmas.List.Elements.{All-append}
use Rattle.std.proofs.lemmas.Result.{IfOk-weaker}
use Rattle.std.specs.Prelude.{All}
use Rattle.attr_sets.specs.Attributes.{below}
use Rattle.dep_model.specs.Deps.{IsDepWithin, dependencies_of}
use Rattle.dep_model.specs.declared.dep.Dep.{Dep}
use Rattle.min_cover.specs.Covers.{IsThinned}
use Rattle.mvd_laws.specs.Reduced.{AreAllReduced}
use Rattle.mvd_laws.specs.Covers.{IsCoverOfAll}
use Rattle.mvd_laws.proofs.ListLemmas.{covers_all}
use Rattle.mvd_discovery.specs.Finding.{AreAllRules}
use Rattle.mvd_discovery.proofs.FindingLemmas.{minimal_obeyed, reduced_within, thinned_parts}
use Rattle.mvd_discovery.proofs.finding.discover_all.Goals as goal

pub nonredundant_from-requires-clause-from : goal.nonredundant_from-requires-clause-from
nonredundant_from-requires-clause-from c =
    let reduced : AreAllReduced c.args.width c.args.rows.now (dependencies_of c.in_ok-reduced.reduced.items) =
    subst (λ (n : ℕ). AreAllReduced n c.args.rows.now (dependencies_of c.in_ok-reduced.reduced.items)) c.in_ok-counts.ensures.width
    (c.in_ok-reduced.ensures.reduced c.args.rows.now c.in_ok-counts.ensures.counts) in
    let both : c.add_all.new.found.items ≡ c.in_ok-found.found.items ++ c.in_ok-reduced.reduced.items =
    c.in_ok-add_all.ensures.added ∙ ap (λ (ds : List Dep). c.in_ok-found.found.items ++ ds) c.deref.ensures.value in
    let from_is : c.len-from.result ≡ length c.in_ok-found.found.items = omega (arith, c.len-from.ensures, c.in_ok-found.found.ok.0) in
    omega (arith, from_is, ap length (both), length-append c.in_ok-found.found.items c.in_ok-reduced.reduced.items)

pub nonredundant_from-requires-clause-within : goal.nonredundant_from-requires-clause-within
nonredundant_from-requires-clause-within c =
    let reduced : AreAllReduced c.args.width c.args.rows.now (dependencies_of c.in_ok-reduced.reduced.items) =
    subst (λ (n : ℕ). AreAllReduced n c.args.rows.now (dependencies_of c.in_ok-reduced.reduced.items)) c.in_ok-counts.ensures.width
    (c.in_ok-reduced.ensures.reduced c.args.rows.now c.in_ok-counts.ensures.counts) in
    let both : c.add_all.new.found.items ≡ c.in_ok-found.found.items ++ c.in_ok-reduced.reduced.items =
    c.in_ok-add_all.ensures.added ∙ ap (λ (ds : List Dep). c.in_ok-found.found.items ++ ds) c.deref.ensures.value in
    let from_is : c.len-from.result ≡ length c.in_ok-found.found.items = omega (arith, c.len-from.ensures, c.in_ok-found.found.ok.0) in
    subst (λ (ds : List Dep). All (IsDepWithin (below c.args.width)) ds) (sym (both))
    (All-append (IsDepWithin (below c.args.width)) c.in_ok-found.found.items c.in_ok-reduced.reduced.items c.in_ok-found.ensures.within
    (reduced_within c.args.width c.args.rows.now c.in_ok-reduced.reduced.items reduced))

pub returns-clause-rules : goal.returns-clause-rules
returns-clause-rules c =
    let reduced : AreAllReduced c.args.width c.args.rows.now (dependencies_of c.in_ok-reduced.reduced.items) =
    subst (λ (n : ℕ). AreAllReduced n c.args.rows.now (dependencies_of c.in_ok-reduced.reduced.items)) c.in_ok-counts.ensures.width
    (c.in_ok-reduced.ensures.reduced c.args.rows.now c.in_ok-counts.ensures.counts) in
    let both : c.add_all.new.found.items ≡ c.in_ok-found.found.items ++ c.in_ok-reduced.reduced.items =
    c.in_ok-add_all.ensures.added ∙ ap (λ (ds : List Dep). c.in_ok-found.found.items ++ ds) c.deref.ensures.value in
    let from_is : c.len-from.result ≡ length c.in_ok-found.found.items = omega (arith, c.len-from.ensures, c.in_ok-found.found.ok.0) in
    IfOk-weaker c.nonredundant_from.result _ (λ kept. AreAllRules c.args.width c.args.rows.now (dependencies_of kept.items))
    (λ kept is. record {
      functional = dependencies_of c.in_ok-found.found.items;
      minimal = c.in_ok-found.ensures.minimal;
      multivalued = dependencies_of c.in_ok-reduced.reduced.items;
      reduced = reduced;
      thinned = thinned_parts c.args.width _ _ _ _ (dependencies_of kept.items) both from_is is;
    })
    c.nonredundant_from.ensures.thinned

pub returns-clause-cover : goal.returns-clause-cover
returns-clause-cover c =
    let reduced : AreAllReduced c.args.width c.args.rows.now (dependencies_of c.in_ok-reduced.reduced.items) =
    subst (λ (n : ℕ). AreAllReduced n c.args.rows.now (dependencies_of c.in_ok-reduced.reduced.items)) c.in_ok-counts.ensures.width
    (c.in_ok-reduced.ensures.reduced c.args.rows.now c.in_ok-counts.ensures.counts) in
    let both : c.add_all.new.found.items ≡ c.in_ok-found.found.items ++ c.in_ok-reduced.reduced.items =
    c.in_ok-add_all.ensures.added ∙ ap (λ (ds : List Dep). c.in_ok-found.found.items ++ ds) c.deref.ensures.value in
    let from_is : c.len-from.result ≡ length c.in_ok-found.found.items = omega (arith, c.len-from.ensures, c.in_ok-found.found.ok.0) in
    IfOk-weaker c.nonredundant_from.result _ (λ kept. IsCoverOfAll c.args.width c.args.rows.now (dependencies_of kept.items))
    (λ kept is. covers_all c.args.width c.args.rows.now (dependencies_of c.in_ok-found.found.items) (dependencies_of c.in_ok-reduced.reduced.items)
    (dependencies_of kept.items) c.requires.over (minimal_obeyed c.args.width c.args.rows.now (dependencies_of c.in_ok-found.found.items) c.in_ok-found.ensures.minimal)
    c.in_ok-found.ensures.implied reduced (thinned_parts c.args.width _ _ _ _ (dependencies_of kept.items) both from_is is))
    c.nonredundant_from.ensures.thinned
