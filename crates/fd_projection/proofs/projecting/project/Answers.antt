-- What is left to prove of `project`: its clauses `cover` and `within`, and what `nonredundant_from`
-- requires, by `ProjectionLemmas`.
use Rattle.std.proofs.Common.{◌≤◌, List, [], length, sym, subst, ◌∙◌, arith}
use Rattle.std.proofs.lemmas.List.{length-map}
use Rattle.std.proofs.lemmas.List.Elements.{All-weaker}
use Rattle.std.specs.Prelude.{All}
use Rattle.attr_sets.specs.Attributes.{below, IsSubset}
use Rattle.attr_sets.specs.Sets.{attributes}
use Rattle.dep_model.specs.declared.dep.Dep.{Dep}
use Rattle.dep_model.specs.Dependencies.{IsWithin}
use Rattle.dep_model.specs.Deps.{dependency_of, dependencies_of}
use Rattle.dep_model.specs.Theories.{width_of, theory_of, deps_of}
use Rattle.dep_model.proofs.DepLemmas.{dependencies_all-to}
use Rattle.min_cover.specs.Covers.{IsThinned}
use Rattle.fd_projection.specs.declared.refusal.TheConstants.{MOST_LISTED}
use Rattle.fd_projection.specs.Projections.{IsMinimalFd, IsProjection, IsCoverWithin}
use Rattle.fd_projection.proofs.ProjectionLemmas.{minimal_within_set, projection_covers}
use Rattle.fd_projection.proofs.projecting.project.Goals as goal
use Rattle.fd_projection.proofs.projecting.project.Goals.{In_ok-nonredundant_from}

pub nonredundant_from-requires-clause-within : goal.nonredundant_from-requires-clause-within
nonredundant_from-requires-clause-within c =
    let s = c.args.theory.now in
    let n = width_of s in
    let set = attributes c.args.set in
    let W = IsWithin (below n) in
    rw c.width.ensures.count (dependencies_all-to W c.in_ok-found.found.items
    (All-weaker (IsMinimalFd n (theory_of s) set) W
    (λ d minimal. let inside = minimal_within_set n (theory_of s) set d minimal in ((λ k m. c.requires.set k (inside.0 k m)), (λ k m. c.requires.set k (inside.1 k m))))
    (dependencies_of c.in_ok-found.found.items) c.in_ok-found.ensures.found.each))

-- what is answered is the projection, and covers the set
covers : (c : In_ok-nonredundant_from) → IsCoverWithin (width_of c.args.theory.now) (theory_of c.args.theory.now) (attributes c.args.set) (dependencies_of c.in_ok-nonredundant_from.field-0.items)
covers c =
    let s = c.args.theory.now in
    let n = width_of s in
    let set = attributes c.args.set in
    let found = c.in_ok-found.found.items in
    let few : length (dependencies_of found) ≤ MOST_LISTED = omega (arith, length-map found dependency_of, c.if-len-gt-MOST_LISTED.false, c.len.ensures, c.in_ok-found.found.ok.0) in
    let thinned : IsThinned n [] (dependencies_of found) (dependencies_of c.in_ok-nonredundant_from.field-0.items) = rw c.width.ensures.count at c.in_ok-nonredundant_from.ensures.thinned in
    let projection : IsProjection n (theory_of s) set (dependencies_of c.in_ok-nonredundant_from.field-0.items) = record {
      found = dependencies_of found;
      minimal = record {
        each = c.in_ok-found.ensures.found.each;
        all = c.in_ok-found.ensures.found.all few;
        ascending = c.in_ok-found.ensures.found.ascending;
      };
      within_limit = few;
      thinned = thinned;
    } in
    projection_covers n (deps_of s) set (dependencies_of c.in_ok-nonredundant_from.field-0.items) s.valid.within_limit s.valid.deps_within c.requires.set projection

pub returns-clause-cover : goal.returns-clause-cover
returns-clause-cover c = covers (goal.at.returns-clause-cover c).In_ok-nonredundant_from

pub returns-clause-within : goal.returns-clause-within
returns-clause-within c =
    dependencies_all-to (IsWithin (attributes c.args.set)) c.in_ok-nonredundant_from.field-0.items (covers (goal.at.returns-clause-within c).In_ok-nonredundant_from).within
