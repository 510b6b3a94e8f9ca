-- What is left to prove of `first_breaking`: its clauses `first` and `none`, what `breaks` and
-- `next_subset` require, that the invariant of its loop holds at first and stays, and that its loop
-- ends, by `SearchLemmas`.
use Rattle.std.proofs.Common.{sym, subst, ◌∙◌, arith}
use Rattle.std.proofs.lemmas.Bool.{false≢true}
use Rattle.std.specs.Prelude.{Option, Some}
use Rattle.attr_sets.specs.declared.set.AttrSet.{AttrSet}
use Rattle.attr_sets.specs.Attributes.{below, IsSubset}
use Rattle.attr_sets.specs.Sets.{attributes}
use Rattle.dep_model.specs.Theories.{width_of, theory_of}
use Rattle.normal_forms.specs.Breaking.{Breaks}
use Rattle.normal_forms.proofs.SearchLemmas.{IsSearched, search_start, search_past, search_on, search_end, passed_less}
use Rattle.normal_forms.proofs.breaking.first_breaking.Goals as goal
use Rattle.normal_forms.proofs.breaking.first_breaking.Goals.{In-Some}

-- the subsets before the one that is tried
searched : (c : In-Some) → IsSearched (Breaks (width_of c.args.theory.now) (theory_of c.args.theory.now) c.args.form (attributes c.args.scheme)) (attributes c.args.whole) (Some c.in-Some.set)
searched c =
    let s = c.args.theory.now in
    subst (λ (o : Option AttrSet). IsSearched (Breaks (width_of s) (theory_of s) c.args.form (attributes c.args.scheme)) (attributes c.args.whole) o) c.in-Some.is c.loop-next.invariant.searched

pub loop-next-init : goal.loop-next-init
loop-next-init c =
    let s = c.args.theory.now in
    record {
      part = c.no_part-part.ensures.known c.args.functional s;
      searched = search_start (Breaks (width_of s) (theory_of s) c.args.form (attributes c.args.scheme)) (attributes c.args.whole) c.empty.result c.empty.ensures.members;
    }

pub next_part-part-requires-clause-set : goal.next_part-part-requires-clause-set
next_part-part-requires-clause-set c k m =
    let before = searched (goal.at.next_part-part-requires-clause-set c).In-Some in
    c.requires.scheme k (c.requires.within_scheme k (before.within k m))

pub breaks-requires-clause-lhs : goal.breaks-requires-clause-lhs
breaks-requires-clause-lhs c k m =
    let before = searched (goal.at.breaks-requires-clause-lhs c).In-Some in
    c.requires.within_scheme k (before.within k m)

pub returns-then-breaks-clause-first : goal.returns-then-breaks-clause-first
returns-then-breaks-clause-first c =
    let before = searched (goal.at.returns-then-breaks-clause-first c).In-Some in
    record {
      within = before.within;
      breaks = c.breaks.ensures.breaks.0 c.if-breaks.true;
      first = λ v v_in earlier. before.none v v_in earlier;
    }

pub passed-requires-clause-set : goal.passed-requires-clause-set
passed-requires-clause-set c = (searched (goal.at.passed-requires-clause-set c).In-Some).within

pub next_subset-next-requires : goal.next_subset-next-requires
next_subset-next-requires c = record { within = c.passed.ensures.within }

pub loop-next-smaller : goal.loop-next-smaller
loop-next-smaller c = passed_less c.in-Some.set c.passed.result c.loop-next.next c.next_subset-next.result c.in-Some.is (omega arith) (omega arith) c.passed.ensures.holds c.next_subset-next.ensures.number

pub loop-next-preserved : goal.loop-next-preserved
loop-next-preserved c =
    let s = c.args.theory.now in
    let P = Breaks (width_of s) (theory_of s) c.args.form (attributes c.args.scheme) in
    let before = searched (goal.at.loop-next-preserved c).In-Some in
    let low : IsSubset (attributes c.args.whole) (below (width_of s)) = λ k m. c.requires.scheme k (c.requires.within_scheme k m) in
    let past = search_past (width_of s) P (attributes c.args.whole) c.in-Some.set c.passed.result low before
    (λ breaks. false≢true (sym c.if-breaks.false ∙ c.breaks.ensures.breaks.1 breaks)) c.passed.ensures.holds c.passed.ensures.within c.passed.ensures.passed in
    record {
      part = c.next_part-part.ensures.known;
      searched = search_on (width_of s) P (attributes c.args.whole) c.passed.result c.next_subset-next.result low past.0 past.1 c.next_subset-next.ensures.none.0 c.next_subset-next.ensures.next;
    }

pub returns-clause-none : goal.returns-clause-none
returns-clause-none c = λ _.
    let s = c.args.theory.now in
    let P = Breaks (width_of s) (theory_of s) c.args.form (attributes c.args.scheme) in
    search_end P (attributes c.args.whole) (subst (λ (o : Option AttrSet). IsSearched P (attributes c.args.whole) o) c.in_default.is c.loop-next.invariant.searched)
