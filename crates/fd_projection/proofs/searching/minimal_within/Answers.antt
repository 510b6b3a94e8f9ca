-- What is left to prove of `minimal_within`: its clause `found`, what `closed_by_parts` requires, and
-- that a round of its loop keeps the invariant, by `FoundLemmas`.
use Rattle.std.proofs.Common.{◌≡◌, ◌<◌, ◌↔◌, ℕ, true, List, length, sym, subst, ◌∙◌, arith}
use Rattle.std.proofs.lemmas.List.{length-map}
use Rattle.std.proofs.lemmas.List.Elements.{All-push}
use Rattle.std.specs.Prelude.{All, Some}
use Rattle.attr_sets.specs.Attributes.{Attributes, IsSubset}
use Rattle.attr_sets.specs.Sets.{attributes}
use Rattle.attr_sets.proofs.AttributesLemmas.{same_at}
use Rattle.dep_model.specs.declared.dep.Dep.{Dep}
use Rattle.dep_model.specs.Dependencies.{Dependency, left_of}
use Rattle.dep_model.specs.Deps.{dependency_of, dependencies_of}
use Rattle.dep_model.specs.Theories.{width_of, theory_of, deps_of}
use Rattle.dep_model.proofs.DepLemmas.{dependencies_all-to}
use Rattle.fd_closure.specs.LeftSides.{InLeftSide}
use Rattle.fd_closure.proofs.LeftSideLemmas.{left_sides_each}
use Rattle.fd_closure.specs.declared.known.KnownClosure.{KnownClosure}
use Rattle.fd_projection.specs.declared.refusal.TheConstants.{MOST_LISTED}
use Rattle.fd_closure.specs.Closures.{IsKnownClosure}
use Rattle.fd_projection.specs.Projections.{IsMinimalWithin}
use Rattle.fd_projection.proofs.MinimalLemmas.{left_within}
use Rattle.fd_projection.proofs.FoundLemmas.{IsWalked, walk_at, walk_on, walk_end, walk_cut}
use Rattle.fd_projection.proofs.searching.minimal_within.Goals as goal
use Rattle.fd_projection.proofs.searching.minimal_within.Goals.{In-Some, After-intersection-whole}

-- the walk, at the left side at hand
at_hand : (c : In-Some) → IsWalked (width_of c.args.theory.now) (theory_of c.args.theory.now) (attributes c.args.set) (attributes c.intersection-whole.result) (Some c.in-Some.lhs) (dependencies_of c.loop-next.found.items)
at_hand c =
    let s = c.args.theory.now in
    walk_at (width_of s) (theory_of s) (attributes c.args.set) (attributes c.intersection-whole.result) c.in-Some.lhs c.loop-next.next (dependencies_of c.loop-next.found.items) c.in-Some.is c.loop-next.invariant.walked

-- minimal left sides lie within the whole
lefts_in : (c : After-intersection-whole) → (v : Attributes) (b : ℕ) → IsMinimalWithin (width_of c.args.theory.now) (theory_of c.args.theory.now) (attributes c.args.set) v b
    → IsSubset v (attributes c.intersection-whole.result)
lefts_in c v b minimal =
    let s = c.args.theory.now in
    let lefts = attributes c.left_attributes.result in
    let members = subst (λ (es : List Dep). (a : ℕ) → (lefts a ≡ true) ↔ InLeftSide (dependencies_of es) a) c.deps.ensures.deps c.left_attributes.ensures.members in
    let each = dependencies_all-to (λ (d : Dependency). IsSubset (left_of d) lefts) (deps_of s) (left_sides_each (theory_of s) lefts (λ a h. (members a).1 h)) in
    left_within (width_of s) (deps_of s) (attributes c.args.set) lefts (attributes c.intersection-whole.result) v b s.valid.within_limit s.valid.deps_within c.requires.set each
    c.intersection-whole.ensures.members minimal

pub closed_by_parts-given-requires-clause-table : goal.closed_by_parts-given-requires-clause-table
closed_by_parts-given-requires-clause-table c =
    subst (λ (xs : List KnownClosure). All (IsKnownClosure (width_of c.args.theory.now) (theory_of c.args.theory.now)) xs) (sym c.deref.ensures.value) c.loop-next.invariant.known

pub returns-then-len-gt-MOST_LISTED : goal.returns-then-len-gt-MOST_LISTED
returns-then-len-gt-MOST_LISTED c =
    let s = c.args.theory.now in
    let found = c.add_minimal.new.found.items in
    let many : MOST_LISTED < length (dependencies_of found) = omega (arith, length-map found dependency_of, c.if-len-gt-MOST_LISTED.true, c.len.ensures, c.add_minimal.new.found.ok.0) in
    record {
      found = walk_cut (width_of s) (theory_of s) (attributes c.args.set) (attributes c.in-Some.lhs) (dependencies_of found) many c.in_ok-add_minimal.ensures.found;
    }

pub loop-next-preserved : goal.loop-next-preserved
loop-next-preserved c =
    let s = c.args.theory.now in
    let whole = attributes c.intersection-whole.result in
    let lhs = c.in-Some.lhs in
    let walked = at_hand (goal.at.loop-next-preserved c).In-Some in
    let known : KnownClosure = record { of = lhs; closed = c.closed_beyond-closed.result } in
    record {
      known = subst (λ (xs : List KnownClosure). All (IsKnownClosure (width_of s) (theory_of s)) xs) (sym c.in_ok-push.ensures.items)
          (All-push (IsKnownClosure (width_of s) (theory_of s)) c.loop-next.table.items known c.loop-next.invariant.known c.closed_beyond-closed.ensures.closure);
      walked = walk_on (width_of s) (theory_of s) (attributes c.args.set) whole lhs c.next_subset-next.result (dependencies_of c.add_minimal.new.found.items)
          (λ k m. c.requires.set k (grind (arith, same_at c.intersection-whole.ensures.members k, m))) walked.within
          (lefts_in (goal.at.loop-next-preserved c).After-intersection-whole)
          c.next_subset-next.ensures.none.0 c.next_subset-next.ensures.next c.in_ok-add_minimal.ensures.found;
    }

pub returns : goal.returns
returns c =
    let s = c.args.theory.now in
    record {
      found = walk_end (width_of s) (theory_of s) (attributes c.args.set) (attributes c.intersection-whole.result) c.loop-next.next (dependencies_of c.loop-next.found.items)
          c.in_default.is c.loop-next.invariant.walked;
    }
