-- What is left to prove of `diagnostics`: its clauses, by `gather_done` and `names_attribute`.
use Rattle.std.proofs.Common.{◌≤◌, List, length, ap, arith}
use Rattle.std.proofs.lemmas.List.{length-map}
use Rattle.std.proofs.lemmas.List.Elements.{Contains-get_or}
use Rattle.dep_model.specs.declared.dep.Dep.{Dep}
use Rattle.dep_model.specs.Deps.{dependency_of}
use Rattle.dep_model.specs.Theories.{deps_of, width_of, theory_of}
use Rattle.cover_accounts.proofs.GatheringLemmas.{schema_within, schema_narrow, names_attribute, gather_done}
use Rattle.cover_accounts.proofs.checking.diagnostics.Goals as goal

pub returns-clause-attributes : goal.returns-clause-attributes
returns-clause-attributes c = λ i one low.
    let s = c.args.theory.now in
    names_attribute c.args.form (width_of s) (theory_of s) _ (schema_narrow s) (schema_within s)
    (c.loop-k.invariant.each _ (Contains-get_or c.loop-k.found.items i one low))

pub returns-clause-diagnostics : goal.returns-clause-diagnostics
returns-clause-diagnostics c =
    let s = c.args.theory.now in
    let size = length-map (deps_of s) dependency_of in
    let past : length (theory_of s) ≤ c.loop-k.k =
    omega (arith, c.loop-k-test.false, size, ap (λ (ds : List Dep). length ds) c.deps-k-end.ensures.deps) in
    gather_done c.args.form (width_of s) (theory_of s) c.loop-k.k c.loop-k.found.items past c.loop-k.invariant
