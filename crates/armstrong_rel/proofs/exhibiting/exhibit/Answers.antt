-- What is left to prove of `exhibit`: its clauses `rows`, `exact`, `legal` and `within_limit`, and
-- that there are too many rows where it says so, by `ExhibitLemmas` and `FoundLemmas`.
use Rattle.std.proofs.Common.{◌<◌, ◌≤◌, length, refl, arith}
use Rattle.std.specs.Prelude.{IsNone}
use Rattle.attr_sets.specs.Sets.{attributes}
use Rattle.dep_model.specs.Plans.{schemes_of}
use Rattle.dep_model.specs.Theories.{width_of, theory_of}
use Rattle.armstrong_rel.specs.declared.refusal.TheConstants.{MOST_EXHIBITED_ROWS}
use Rattle.armstrong_rel.proofs.ExactLemmas.{IsLegalExhibit}
use Rattle.armstrong_rel.proofs.ExhibitLemmas.{schema_functional, left_count, found_exhibit}
use Rattle.armstrong_rel.proofs.FoundLemmas.{found_too_many}
use Rattle.armstrong_rel.proofs.exhibiting.exhibit.Goals as goal
use Rattle.armstrong_rel.proofs.exhibiting.exhibit.Goals.{In_ok-rows_for}

pub returns-then-len-ge-MOST_EXHIBITED_ROWS-clause-refused : goal.returns-then-len-ge-MOST_EXHIBITED_ROWS-clause-refused
returns-then-len-ge-MOST_EXHIBITED_ROWS-clause-refused c =
    let s = c.args.theory.now in
    let none : IsNone c.first_mvd.result = rw c.in_default.is refl in
    let functional = schema_functional s c.deps.result.now c.deps.ensures.deps (c.first_mvd.ensures.none none) in
    let count = left_count s c.deps-2.result.now (attributes c.left_attributes-used.result) c.deps-2.ensures.deps c.left_attributes-used.ensures.all_sides in
    let many : MOST_EXHIBITED_ROWS ≤ length c.in_ok-sets.sets.items = omega (arith, c.if-len-ge-MOST_EXHIBITED_ROWS.true, c.len-2.ensures, c.in_ok-sets.sets.ok.0) in (
      functional,
      (λ wide. omega (arith, wide, count, c.len.ensures.members, c.if-len-gt-WIDEST_EXHIBITED.false)),
      (schemes_of c.in_ok-sets.sets.items, found_too_many (width_of s) (theory_of s) c.in_ok-sets.sets.items c.in_ok-sets.ensures.sets many),
    )

-- what the rows show
shown : (c : In_ok-rows_for) → IsLegalExhibit c.args.theory.now c.in_ok-rows_for.field-0.items × (length c.in_ok-rows_for.field-0.items ≤ MOST_EXHIBITED_ROWS)
shown c =
    let s = c.args.theory.now in
    let none : IsNone c.first_mvd.result = rw c.in_default.is refl in
    let functional = schema_functional s c.deps.result.now c.deps.ensures.deps (c.first_mvd.ensures.none none) in
    let few : length c.in_ok-sets.sets.items < MOST_EXHIBITED_ROWS = omega (arith, c.if-len-ge-MOST_EXHIBITED_ROWS.false, c.len-2.ensures, c.in_ok-sets.sets.ok.0) in
    found_exhibit s c.width.result c.in_ok-sets.sets.items c.deref.result.now c.in_ok-rows_for.field-0.items
    c.width.ensures.count functional c.in_ok-sets.ensures.sets few c.deref.ensures.value c.in_ok-rows_for.ensures.rows

pub returns-clause-rows : goal.returns-clause-rows
returns-clause-rows c = (shown (goal.at.returns-clause-rows c).In_ok-rows_for).0.exhibit

pub returns-clause-exact : goal.returns-clause-exact
returns-clause-exact c = (shown (goal.at.returns-clause-exact c).In_ok-rows_for).0.armstrong

pub returns-clause-legal : goal.returns-clause-legal
returns-clause-legal c = (shown (goal.at.returns-clause-legal c).In_ok-rows_for).0.legal

pub returns-clause-within_limit : goal.returns-clause-within_limit
returns-clause-within_limit c = (shown (goal.at.returns-clause-within_limit c).In_ok-rows_for).1
