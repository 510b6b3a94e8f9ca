-- What is left to prove of `irreducible_sets`: its clause `sets`, what `closures` and `add_sets_with`
-- require, and that a round of its loop keeps the invariant, by `FoundLemmas`.
use Rattle.std.proofs.Common.{List, sym, subst, ◌∙◌}
use Rattle.std.specs.Prelude.{All, Option, Some, IfSome}
use Rattle.attr_sets.specs.Attributes.{Attributes, IsNextSubset}
use Rattle.attr_sets.specs.Sets.{attributes}
use Rattle.attr_sets.specs.declared.set.AttrSet.{AttrSet}
use Rattle.attr_sets.proofs.AttributesLemmas.{same_at}
use Rattle.dep_model.specs.Theories.{width_of, theory_of}
use Rattle.fd_closure.specs.declared.known.KnownClosure.{KnownClosure}
use Rattle.fd_closure.specs.Closures.{IsKnownClosure}
use Rattle.armstrong_rel.proofs.PartLemmas.{schema_within, left_sides_low}
use Rattle.armstrong_rel.proofs.FoundLemmas.{IsWalk, walk_on, found_sorted}
use Rattle.armstrong_rel.proofs.irreducible.irreducible_sets.Goals as goal
use Rattle.armstrong_rel.proofs.irreducible.irreducible_sets.Goals.{In-Some}

-- the walk, at the part at hand
at_hand : (c : In-Some) → IsWalk (width_of c.args.theory.now) (theory_of c.args.theory.now) (Some c.in-Some.part) c.loop-next.found.items
at_hand c = subst (λ (o : Option AttrSet). IsWalk (width_of c.args.theory.now) (theory_of c.args.theory.now) o c.loop-next.found.items) c.in-Some.is c.loop-next.invariant

pub closures-requires-clause-whole : goal.closures-requires-clause-whole
closures-requires-clause-whole c k m =
    let s = c.args.theory.now in
    left_sides_low (width_of s) (theory_of s) (schema_within s) k (sym (same_at c.requires.used k) ∙ m)

pub add_sets_with-requires-clause-table : goal.add_sets_with-requires-clause-table
add_sets_with-requires-clause-table c =
    subst (λ (xs : List KnownClosure). All (IsKnownClosure (width_of c.args.theory.now) (theory_of c.args.theory.now)) xs) (sym c.deref.ensures.value) c.in_ok-table.ensures.known

pub add_sets_with-requires-clause-found : goal.add_sets_with-requires-clause-found
add_sets_with-requires-clause-found c = (at_hand (goal.at.add_sets_with-requires-clause-found c).In-Some).passed

pub loop-next-preserved : goal.loop-next-preserved
loop-next-preserved c =
    let s = c.args.theory.now in
    let part = c.in-Some.part in
    let walk = at_hand (goal.at.loop-next-preserved c).In-Some in
    walk_on (width_of s) (theory_of s) part c.next_subset-next.result c.add_sets_with.new.found.items (schema_within s) walk.within
    (λ none. c.next_subset-next.ensures.none.0 none ∙ c.requires.used)
    (subst (λ (whole : Attributes). IfSome c.next_subset-next.result (λ y. IsNextSubset whole (attributes part) (attributes y))) c.requires.used c.next_subset-next.ensures.next)
    c.in_ok-add_sets_with.ensures.found

pub returns : goal.returns
returns c =
    let s = c.args.theory.now in
    record {
      sets = found_sorted (width_of s) (theory_of s) c.loop-next.next c.loop-next.found.items c.sort_unstable.new.self.items
          c.in_default.is c.loop-next.invariant c.sort_unstable.ensures.permutation c.sort_unstable.ensures.sorted;
    }
