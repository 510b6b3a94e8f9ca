-- What is left to prove of `search`: what its calls require, and its clauses, by `WholeLemmas`.
use Rattle.std.proofs.Common.{◌≡◌, arith}
use Rattle.std.proofs.lemmas.Result.{err_from_is_err_and}
use Rattle.attr_sets.specs.Attributes.{IsEmpty, count_below}
use Rattle.attr_sets.specs.Sets.{attributes}
use Rattle.attr_sets.proofs.AttributesLemmas.{count_below-none, same_at}
use Rattle.dep_model.specs.Tuples.{Relation}
use Rattle.near_rules.specs.Searching.{AreNearFoundBefore, AreGrouped, AreSought}
use Rattle.near_rules.proofs.WholeLemmas.{all_wanted, start, whole_set}
use Rattle.near_rules.proofs.finding.search.Goals as goal
use Rattle.near_rules.proofs.finding.search.Goals.{In_ok-found}

is_empty : (c : In_ok-found) → IsEmpty (attributes c.empty-none.result)
is_empty c = same_at c.empty-none.ensures.members

grouped : (c : In_ok-found) (r : Relation) → AreSought r c.args.sought.now → AreGrouped r (attributes c.empty-none.result) c.in_ok-groups.groups
grouped c r sought = record {
  by_set = c.in_ok-groups.ensures.groups c.args.sought.now.width r sought.interned;
  firsts = c.in_ok-groups.ensures.firsts c.args.sought.now.width r sought.interned;
}

started : (c : In_ok-found) (r : Relation) → AreNearFoundBefore c.args.sought.now r (attributes c.empty-none.result) 0 c.in_ok-found.found
started c r = start c.args.sought.now r (attributes c.empty-none.result) c.in_ok-found.found (is_empty c) c.in_ok-found.ensures.deps
    c.in_ok-found.ensures.errors c.in_ok-found.ensures.tried

pub try_set-requires-clause-few : goal.try_set-requires-clause-few
try_set-requires-clause-few c =
    let none : count_below (attributes c.empty-none.result) c.args.sought.now.width ≡ 0 =
    count_below-none c.args.sought.now.width (attributes c.empty-none.result)
    (λ k l. is_empty ((goal.at.try_set-requires-clause-few c).In_ok-found) k) in
    omega (arith, none)

pub try_set-requires-clause-rows : goal.try_set-requires-clause-rows
try_set-requires-clause-rows c =
    let (r, sought) = c.requires.rows in
    let at = (goal.at.try_set-requires-clause-rows c).In_ok-found in
    (r, sought, grouped at r sought, started at r)

pub try_set-requires-clause-wanted : goal.try_set-requires-clause-wanted
try_set-requires-clause-wanted c =
    let at = (goal.at.try_set-requires-clause-wanted c).In_ok-found in
    all_wanted c.args.sought.now c.requires.rows.0 (attributes c.empty-none.result) (attributes c.full.result) c.in_ok-found.found (is_empty at)
    c.in_ok-found.ensures.deps c.full.ensures.members

pub returns-in_err-try_set-clause-refusal : goal.returns-in_err-try_set-clause-refusal
returns-in_err-try_set-clause-refusal c r sought =
    let at = (goal.at.returns-in_err-try_set-clause-refusal c).In_ok-found in
    let p = err_from_is_err_and c.from_residual-in_err-try_set.result c.from_residual-in_err-try_set.ensures.1 in
    rw (p.1, p.2) (c.in_err-try_set.ensures.refusal r sought (grouped at r sought) (started at r))

pub search_above-requires-clause-rows : goal.search_above-requires-clause-rows
search_above-requires-clause-rows c =
    let (r, sought) = c.requires.rows in
    let at = (goal.at.search_above-requires-clause-rows c).In_ok-found in
    (r, sought, grouped at r sought, c.in_ok-try_set.ensures.found r sought (grouped at r sought) (started at r))

pub returns-in_err-search_above-clause-refusal : goal.returns-in_err-search_above-clause-refusal
returns-in_err-search_above-clause-refusal c r sought =
    let at = (goal.at.returns-in_err-search_above-clause-refusal c).In_ok-found in
    let p = err_from_is_err_and c.from_residual-in_err-search_above.result c.from_residual-in_err-search_above.ensures.1 in
    rw (p.1, p.2) (c.in_err-search_above.ensures.refusal r sought (grouped at r sought)
    (c.in_ok-try_set.ensures.found r sought (grouped at r sought) (started at r)))

pub returns-clause-found : goal.returns-clause-found
returns-clause-found c r sought =
    let at = (goal.at.returns-clause-found c).In_ok-found in
    whole_set c.args.sought.now r (attributes c.empty-none.result) c.search_above.new.found (is_empty at)
    (c.in_ok-search_above.ensures.found r sought (grouped at r sought)
    (c.in_ok-try_set.ensures.found r sought (grouped at r sought) (started at r)))
