-- What is left to prove of `closures`: what `next_subset` requires, that the invariant of its loop holds at
-- first and stays, and that its loop ends.
use Rattle.std.proofs.Common.{List, sym, subst, ◌∙◌, arith}
use Rattle.std.specs.Prelude.{All, Option, IfSome}
use Rattle.std.proofs.lemmas.Bool.{true≢false}
use Rattle.std.proofs.lemmas.List.Elements.{All-nil, All-push}
use Rattle.attr_sets.specs.Attributes.{IsSubset}
use Rattle.attr_sets.specs.Sets.{attributes}
use Rattle.attr_sets.specs.declared.set.AttrSet.{AttrSet}
use Rattle.attr_sets.proofs.AttributesLemmas.{same_at}
use Rattle.fd_closure.specs.declared.known.KnownClosure.{KnownClosure}
use Rattle.dep_model.specs.Theories.{width_of, theory_of}
use Rattle.fd_closure.specs.Closures.{IsKnownClosure}
use Rattle.armstrong_rel.proofs.FoundLemmas.{next_within, parts_left-less}
use Rattle.armstrong_rel.proofs.KnownLemmas.{closure_known}
use Rattle.armstrong_rel.proofs.closures.closures.Goals as goal
use Rattle.armstrong_rel.proofs.closures.closures.Goals.{In-Some}

-- the set at hand lies within the whole
at_hand : (c : In-Some) → IsSubset (attributes c.in-Some.set) (attributes c.args.whole)
at_hand c = subst (λ (o : Option AttrSet). IfSome o (λ set. IsSubset (attributes set) (attributes c.args.whole))) c.in-Some.is c.loop-next.invariant.within

pub loop-next-init : goal.loop-next-init
loop-next-init c = record {
  within = λ k m. absurd (true≢false (sym m ∙ same_at c.empty.ensures.members k));
  known = subst (λ (xs : List KnownClosure). All (IsKnownClosure (width_of c.args.theory.now) (theory_of c.args.theory.now)) xs) (sym c.new-table.ensures.items) (All-nil (IsKnownClosure (width_of c.args.theory.now) (theory_of c.args.theory.now)));
}

pub next_subset-next-requires : goal.next_subset-next-requires
next_subset-next-requires c = record { within = at_hand (goal.at.next_subset-next-requires c).In-Some }

pub loop-next-smaller : goal.loop-next-smaller
loop-next-smaller c = parts_left-less c.in-Some.set c.loop-next.next c.next_subset-next.result c.in-Some.is (omega arith) c.next_subset-next.ensures.number

pub loop-next-preserved : goal.loop-next-preserved
loop-next-preserved c =
    let s = c.args.theory.now in
    let set = c.in-Some.set in
    let inside = at_hand (goal.at.loop-next-preserved c).In-Some in
    let is = closure_known s c.deps.result.now c.deps.ensures.deps (attributes set) (attributes c.functional_closure.result)
    c.requires.functional (λ k m. c.requires.whole k (inside k m)) c.functional_closure.ensures.closure in
    let known : KnownClosure = record { of = set; closed = c.functional_closure.result } in
    record {
      within = next_within (attributes c.args.whole) set c.next_subset-next.result c.next_subset-next.ensures.next;
      known = subst (λ (xs : List KnownClosure). All (IsKnownClosure (width_of s) (theory_of s)) xs) (sym c.in_ok-push.ensures.items)
          (All-push (IsKnownClosure (width_of s) (theory_of s)) c.loop-next.table.items known c.loop-next.invariant.known is);
    }
