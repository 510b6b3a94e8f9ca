-- What is left to prove of `core_of`: what `first_pair` requires, that the invariant of its loop
-- holds at first and stays, and that its loop ends, by `CoreLemmas`.
use Rattle.std.proofs.lemmas.Bool.{ltb-true}
use Rattle.attr_sets.specs.declared.set.TheConstants.{MOST_ATTRIBUTES}
use Rattle.attr_sets.specs.Sets.{attributes}
use Rattle.attr_sets.proofs.AttributesLemmas.{attributes_below}
use Rattle.dep_model.specs.Theories.{width_of, theory_of}
use Rattle.wide_bcnf.proofs.CoreLemmas.{way_begins, way_goes_on, way_within, way_none_before, count_left}
use Rattle.wide_bcnf.proofs.splitting.core_of.Goals as goal

pub loop-next-init : goal.loop-next-init
loop-next-init c =
    let s = c.args.theory.now in
    way_begins (width_of s) (theory_of s) (attributes c.args.scheme)
    (attributes c.without-rest.result) c.args.pair.first c.args.pair.second c.requires.pair
    c.without-rest.ensures.members

pub first_pair-requires : goal.first_pair-requires
first_pair-requires c =
    let s = c.args.theory.now in
    let way = c.loop-next.invariant in
    record {
      scheme = λ k m. c.requires.scheme k
          (way_within (width_of s) (theory_of s) (attributes c.args.scheme)
          (attributes c.loop-next.rest) c.loop-next.last.first c.loop-next.last.second way k m);
      from = way_none_before (width_of s) (theory_of s) (attributes c.args.scheme)
          (attributes c.loop-next.rest) c.loop-next.last.first c.loop-next.last.second way;
    }

pub without-rest-requires-in-Some : goal.without-rest-requires-in-Some
without-rest-requires-in-Some c = ltb-true c.in-Some.next.second MOST_ATTRIBUTES
    (attributes_below c.loop-next.rest c.in-Some.next.second c.in-Some.ensures.first.pair.second)

pub loop-next-smaller : goal.loop-next-smaller
loop-next-smaller c = count_left c.loop-next.rest c.without-rest-in-Some.result c.in-Some.next.second
    c.in-Some.ensures.first.pair.second c.without-rest-in-Some.ensures.members

pub loop-next-preserved : goal.loop-next-preserved
loop-next-preserved c =
    let s = c.args.theory.now in
    way_goes_on (width_of s) (theory_of s) (attributes c.args.scheme) (attributes c.loop-next.rest)
    (attributes c.without-rest-in-Some.result) c.loop-next.last.first c.loop-next.last.second c.in-Some.next.first
    c.in-Some.next.second
    c.loop-next.invariant c.in-Some.ensures.first c.without-rest-in-Some.ensures.members
