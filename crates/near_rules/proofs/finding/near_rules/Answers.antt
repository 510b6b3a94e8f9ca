-- What is left to prove of `near_rules`: its clauses where the search answers, by `WholeLemmas`.
use Rattle.std.proofs.Common.{◌≤◌, ◌∙◌, ℕ, length, take, refl, subst, arith}
use Rattle.attr_sets.specs.Attributes.{below}
use Rattle.dep_model.specs.Dependencies.{IsWithin}
use Rattle.dep_model.proofs.DepLemmas.{dependencies_all-to}
use Rattle.row_groups.specs.Interning.{IsInterned}
use Rattle.dep_model.specs.Tuples.{Relation}
use Rattle.near_rules.specs.Searching.{AreNearFoundBefore, AreSought}
use Rattle.near_rules.specs.declared.found.Sought.{Sought}
use Rattle.dep_model.specs.Deps.{dependencies_of, dependency_of}
use Rattle.std.proofs.lemmas.List.{length-map}
use Rattle.near_rules.proofs.RightLemmas.{errors_even}
use Rattle.near_rules.proofs.WholeLemmas.{all_rules, none_exceeds, rules_within}
use Rattle.near_rules.proofs.finding.near_rules.Goals as goal
use Rattle.near_rules.proofs.finding.near_rules.Goals.{In-Ok}

-- what is searched for
sought : In-Ok → Sought
sought c = record { codes = c.in_ok-codes.codes; front = c.in_ok-front.front; width = c.args.width; rights = c.args.width; most = c.args.most; limit = c.args.limit }

-- the first rows by their numbers
front : (c : In-Ok) → (count : ℕ) × (count ≤ length c.args.rows.now)
    × IsInterned c.args.width (take count c.args.rows.now) c.in_ok-front.front
front c =
    let (count, low, is) = c.in_ok-first.ensures.rows in
    (count, low, subst (λ (rows : Relation). IsInterned c.args.width rows c.in_ok-front.front) is c.in_ok-front.ensures.codes)

found : (c : In-Ok) → AreNearFoundBefore (sought c) c.args.rows.now (below c.args.width) c.args.width c.in-Ok.found
unfolding sought
found c =
    let are : AreSought c.args.rows.now (sought c) =
    record {
      interned = c.in_ok-codes.ensures.codes;
      front = front c;
      width = c.requires.width;
      rights = omega arith;
    } in
    c.in-Ok.ensures.found c.args.rows.now are

pub returns-in-Ok-clause-rules : goal.returns-in-Ok-clause-rules
unfolding sought
returns-in-Ok-clause-rules c =
    let at = (goal.at.returns-in-Ok-clause-rules c).In-Ok in
    all_rules (sought at) c.args.rows.now c.in-Ok.found (found at) refl

pub returns-in-Ok-clause-one_each : goal.returns-in-Ok-clause-one_each
unfolding sought
returns-in-Ok-clause-one_each c =
    let at = (goal.at.returns-in-Ok-clause-one_each c).In-Ok in
    errors_even c.args.width c.args.rows.now (dependencies_of c.in-Ok.found.deps.items) c.in-Ok.found.errors.items (found at).errors
    ∙ length-map c.in-Ok.found.deps.items dependency_of

pub returns-in-Ok-clause-within : goal.returns-in-Ok-clause-within
unfolding sought
returns-in-Ok-clause-within c =
    let at = (goal.at.returns-in-Ok-clause-within c).In-Ok in
    dependencies_all-to (IsWithin (below c.args.width)) c.in-Ok.found.deps.items
    (rules_within (sought at) c.args.rows.now c.in-Ok.found (found at))

pub returns-in-Ok-clause-answered : goal.returns-in-Ok-clause-answered
unfolding sought
returns-in-Ok-clause-answered c a a_in =
    let at = (goal.at.returns-in-Ok-clause-answered c).In-Ok in
    none_exceeds (sought at) c.args.rows.now c.in-Ok.found (found at) a a_in
