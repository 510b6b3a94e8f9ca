-- What is left to prove of `search_above`: its clauses, what its calls require, and that the invariant of its loop
-- holds at first and stays, by `FrontLemmas`.
use Rattle.std.proofs.Common.{◌≡◌, ◌+◌, ℕ, true, sym, ap, subst, ◌∙◌, arith}
use mathlib.Core.Path.{fun_ext}
use Rattle.std.proofs.lemmas.Bool.Decides.{nat_tests}
use Rattle.std.proofs.lemmas.Result.{err_from_is_err_and}
use Rattle.attr_sets.specs.Attributes.{Attributes, below, count_below, union}
use Rattle.attr_sets.specs.Sets.{attributes}
use Rattle.attr_sets.specs.declared.set.TheConstants.{MOST_ATTRIBUTES}
use Rattle.attr_sets.proofs.AttributesLemmas.{count_below-low}
use Rattle.row_groups.proofs.NumberingLemmas.{same_groups}
use Rattle.dep_model.specs.Deps.{dependencies_of}
use Rattle.dep_model.specs.Tuples.{Relation}
use Rattle.fd_discovery.specs.Searching.{AreUndetermined}
use Rattle.fd_discovery.proofs.SearchLemmas.{larger_above, larger_in}
use Rattle.near_rules.specs.Searching.{AreNearFoundBefore, AreGrouped, AreSought}
use Rattle.near_rules.specs.declared.found.Sought.{Sought}
use Rattle.near_rules.proofs.FrontLemmas.{at_larger, larger_few, past_full, past_larger, through_larger}
use Rattle.near_rules.proofs.searching.+search_above.Goals as goal
use Rattle.near_rules.proofs.searching.+search_above.Goals.{In_ok-finer, then-not-is_empty+in_ok-finer+in_ok-try_set+in_ok-search_above, else-not-is_empty}

-- how many members a set has
members : (s : Sought) (r : Relation) (set : Attributes) (m : ℕ) → AreSought r s → m ≡ count_below set MOST_ATTRIBUTES
    → ((k : ℕ) → set k ≡ true → below s.width k ≡ true) → m ≡ count_below set s.width
members s r set m sought is inside = is ∙ count_below-low MOST_ATTRIBUTES s.width set inside sought.width

pub returns-then-len-sought-clause-found : goal.returns-then-len-sought-clause-found
returns-then-len-sought-clause-found t c r sought grouped before =
    past_full c.args.sought.now r c.args.bound (attributes c.args.set) c.args.found.now c.requires.set c.requires.bound c.requires.above
    (omega (arith, c.if-len-sought.true, members c.args.sought.now r (attributes c.args.set) c.len.result sought c.len.ensures.members c.requires.set))
    before

pub loop-attribute-init : goal.loop-attribute-init
loop-attribute-init t c = record {
  found = λ r sought grouped before.
      subst (λ (v : Attributes). AreNearFoundBefore c.args.sought.now r v c.args.sought.now.rights c.args.found.now)
      (fun_ext (λ k. none_more k)) before;
}
  where
    none_more : (k : ℕ) → attributes c.args.set k ≡ union (attributes c.args.set) (below 0) k
    none_more k = grind (arith, nat_tests)

-- the rows by what they have on the larger set
grouped_finer : (t : _) (c : In_ok-finer t) (r : Relation) → AreSought r c.args.sought.now → AreGrouped r (attributes c.args.set) c.args.groups.now
    → AreGrouped r (attributes c.with-larger.result) c.in_ok-finer.finer
grouped_finer t c r sought grouped = record {
  by_set = same_groups r (union (attributes c.args.set) (attributes c.single.result)) (attributes c.with-larger.result) _
      (ap (union (attributes c.args.set)) c.single.ensures.members ∙ sym c.with-larger.ensures.members)
      (c.in_ok-finer.ensures.groups c.args.sought.now.width r (attributes c.args.set) sought.interned grouped.by_set);
  firsts = c.in_ok-finer.ensures.firsts c.args.sought.now.width r (attributes c.args.set) sought.interned grouped.by_set;
}

pub try_set-requires-clause-few : goal.try_set-requires-clause-few
try_set-requires-clause-few t c =
    let (r, sought, grouped, before) = c.requires.rows in
    larger_few c.args.sought.now r c.args.bound c.loop-attribute.attribute (attributes c.args.set) c.requires.set c.requires.above c.requires.bound
    c.loop-attribute-test.true (attributes c.with-larger.result) c.with-larger.ensures.members c.loop-attribute.found
    (omega (arith, c.if-len-sought.false, members c.args.sought.now r (attributes c.args.set) c.len.result sought c.len.ensures.members c.requires.set))

pub try_set-requires-clause-rows : goal.try_set-requires-clause-rows
try_set-requires-clause-rows t c =
    let (r, sought, grouped, before) = c.requires.rows in (
      r,
      sought,
      grouped_finer t ((goal.at.try_set-requires-clause-rows t c).In_ok-finer) r sought grouped,
      at_larger c.args.sought.now r c.args.bound c.loop-attribute.attribute (attributes c.args.set) c.requires.set c.requires.above c.requires.bound
          c.loop-attribute-test.true (attributes c.with-larger.result) c.with-larger.ensures.members c.loop-attribute.found
          (c.loop-attribute.invariant.found r sought grouped before),
    )

pub returns-in_err-try_set-clause-refusal : goal.returns-in_err-try_set-clause-refusal
returns-in_err-try_set-clause-refusal t c r sought grouped before =
    let p = err_from_is_err_and c.from_residual-in_err-try_set.result c.from_residual-in_err-try_set.ensures.1 in
    rw (p.1, p.2) (c.in_err-try_set.ensures.refusal r sought
    (grouped_finer t ((goal.at.returns-in_err-try_set-clause-refusal t c).In_ok-finer) r sought grouped)
    (at_larger c.args.sought.now r c.args.bound c.loop-attribute.attribute (attributes c.args.set) c.requires.set c.requires.above c.requires.bound
    c.loop-attribute-test.true (attributes c.with-larger.result) c.with-larger.ensures.members c.loop-attribute.found
    (c.loop-attribute.invariant.found r sought grouped before)))

pub search_above-requires : goal.search_above-requires
search_above-requires t c =
    let (r, sought, grouped, before) = c.requires.rows in
    let n : ℕ = c.args.sought.now.width in
    let i : ℕ = c.loop-attribute.attribute in
    let set : Attributes = attributes c.args.set in
    let larger : Attributes = attributes c.with-larger.result in
    let finer = grouped_finer t ((goal.at.search_above-requires t c).In_ok-finer) r sought grouped in (
      omega (arith, c.decreases, c.loop-attribute-test.true),
      (
        omega (arith, c.loop-attribute-test.true, c.requires.bound),
        (
          larger_in n c.args.bound i set c.requires.set c.requires.above c.requires.bound c.loop-attribute-test.true larger
              c.with-larger.ensures.members,
          (
            larger_above n c.args.bound i set c.requires.set c.requires.above c.requires.bound c.loop-attribute-test.true larger
                c.with-larger.ensures.members,
            (
              r,
              sought,
              finer,
              c.in_ok-try_set.ensures.found r sought finer
                  (at_larger c.args.sought.now r c.args.bound i set c.requires.set c.requires.above c.requires.bound c.loop-attribute-test.true
                  larger c.with-larger.ensures.members c.loop-attribute.found (c.loop-attribute.invariant.found r sought grouped before)),
            ),
          ),
        ),
      ),
    )

pub returns-in_err-search_above-clause-refusal : goal.returns-in_err-search_above-clause-refusal
returns-in_err-search_above-clause-refusal t c r sought grouped before =
    let p = err_from_is_err_and c.from_residual-in_err-search_above.result c.from_residual-in_err-search_above.ensures.1 in
    let finer = grouped_finer t ((goal.at.returns-in_err-search_above-clause-refusal t c).In_ok-finer) r sought grouped in
    rw (p.1, p.2) (c.in_err-search_above.ensures.refusal r sought finer
    (c.in_ok-try_set.ensures.found r sought finer
    (at_larger c.args.sought.now r c.args.bound c.loop-attribute.attribute (attributes c.args.set) c.requires.set c.requires.above c.requires.bound
    c.loop-attribute-test.true (attributes c.with-larger.result) c.with-larger.ensures.members c.loop-attribute.found
    (c.loop-attribute.invariant.found r sought grouped before))))

pub loop-attribute-preserved : goal.loop-attribute-preserved
loop-attribute-preserved t c =
    let s : Sought = c.args.sought.now in
    let i : ℕ = c.loop-attribute.attribute in
    let set : Attributes = attributes c.args.set in
    let larger : Attributes = attributes c.with-larger.result in
    let at = λ (r : Relation) (before : AreNearFoundBefore s r (union set (below i)) s.rights c.loop-attribute.found).
    at_larger s r c.args.bound i set c.requires.set c.requires.above c.requires.bound c.loop-attribute-test.true
    larger c.with-larger.ensures.members c.loop-attribute.found before in
    elim c.if-not-is_empty.branch [
      | then-not-is_empty+in_ok-finer+in_ok-try_set+in_ok-search_above w ↦ record {
        found = λ r sought grouped before.
            let finer : AreGrouped r larger w.in_ok-finer.finer = record {
              by_set = same_groups r (union set (attributes w.single.result)) larger _
                  (ap (union set) w.single.ensures.members ∙ sym c.with-larger.ensures.members)
                  (w.in_ok-finer.ensures.groups s.width r set sought.interned grouped.by_set);
              firsts = w.in_ok-finer.ensures.firsts s.width r set sought.interned grouped.by_set;
            } in
            subst (AreNearFoundBefore s r (union set (below (i + 1))) s.rights) (sym w.found-is)
            (through_larger s r c.args.bound i set c.requires.set c.requires.above c.requires.bound c.loop-attribute-test.true larger
            c.with-larger.ensures.members _
            (w.in_ok-search_above.ensures.found r sought finer (w.in_ok-try_set.ensures.found r sought finer
            (at r (c.loop-attribute.invariant.found r sought grouped before)))));
      }
      | else-not-is_empty w ↦
          let yes : c.is_empty.result ≡ true = grind (arith, w.if-not-is_empty.false) in
          record {
            found = λ r sought grouped before.
                subst (AreNearFoundBefore s r (union set (below (i + 1))) s.rights) (sym w.found-is)
                (past_larger s r c.args.bound i set c.requires.set c.requires.above c.requires.bound c.loop-attribute-test.true larger
                c.with-larger.ensures.members c.loop-attribute.found (attributes c.attributes_not_given-wanted.result)
                (at r (c.loop-attribute.invariant.found r sought grouped before))
                (subst (λ (ds : _). AreUndetermined s.rights (dependencies_of ds) larger (attributes c.attributes_not_given-wanted.result))
                c.deref.ensures.value c.attributes_not_given-wanted.ensures.rest)
                (c.is_empty.ensures.empty.0 yes));
          }
    ]

pub returns-clause-found : goal.returns-clause-found
returns-clause-found t c r sought grouped before =
    let end : c.loop-attribute.attribute ≡ c.args.bound =
    omega (arith, c.loop-attribute-test.false, c.loop-attribute.auto.attribute-end) in
    subst (λ (i : ℕ). AreNearFoundBefore c.args.sought.now r (union (attributes c.args.set) (below i)) c.args.sought.now.rights c.loop-attribute.found) end
    (c.loop-attribute.invariant.found r sought grouped before)
