-- What is left to prove of `try_shape`: the shape fits where its end is the goal, else no sets would do, by
-- `ShapeLemmas`.
use Rattle.std.proofs.Common.{sym, subst, ◌∙◌}
use Rattle.std.proofs.lemmas.Bool.{false≢true}
use Rattle.attr_sets.specs.Sets.{attributes}
use Rattle.derivation.specs.Trees.{Tree, Step, leaf, given, replication, complementation, maugmentation}
use Rattle.derivation.specs.Shortened.{ConcludesOnly}
use Rattle.short_proofs.specs.Short.{taken}
use Rattle.short_proofs.proofs.ShapeLemmas.{shape_missed}
use Rattle.short_proofs.proofs.shapes.try_shape.Goals as goal
use Rattle.short_proofs.proofs.shapes.try_shape.Goals.{After-step_taken-end}

-- the tree before the augmentation, and what it concludes
abbrev start_tree : (c : After-step_taken-end) → Tree
start_tree c = taken c.args.steps.complemented complementation (taken c.args.steps.replicated replication (leaf (given c.args.number)))

start_only : (c : After-step_taken-end) → ConcludesOnly c.args.theory.now (start_tree c) c.step_taken-start.result
start_only c = c.step_taken-start.ensures.only (taken c.args.steps.replicated replication (leaf (given c.args.number)))
    (c.step_taken-replica.ensures.only (leaf (given c.args.number)) c.given_dep-given.ensures.only)

-- the tree before the second one
abbrev turn_tree : (c : After-step_taken-end) → Tree
turn_tree c = taken c.args.steps.turned complementation
    (taken c.args.steps.augmented (maugmentation (attributes c.missing_sides-first.result.wide) (attributes c.missing_sides-first.result.narrow)) (start_tree c))

turn_only : (c : After-step_taken-end) → ConcludesOnly c.args.theory.now (turn_tree c) c.step_taken-turn.result
turn_only c =
    let middle = subst (λ (rule : Step). ConcludesOnly c.args.theory.now (taken c.args.steps.augmented rule (start_tree c)) c.step_taken-middle.result) c.augmentation-rule.ensures.rule
    (c.step_taken-middle.ensures.only (start_tree c) (start_only c)) in
    c.step_taken-turn.ensures.only (taken c.args.steps.augmented (maugmentation (attributes c.missing_sides-first.result.wide) (attributes c.missing_sides-first.result.narrow)) (start_tree c)) middle

-- the tree of the shape
abbrev end_tree : (c : After-step_taken-end) → Tree
end_tree c = taken c.args.steps.again (maugmentation (attributes c.missing_sides-second.result.wide) (attributes c.missing_sides-second.result.narrow)) (turn_tree c)

end_only : (c : After-step_taken-end) → ConcludesOnly c.args.theory.now (end_tree c) c.step_taken-end.result
end_only c = subst (λ (rule : Step). ConcludesOnly c.args.theory.now (taken c.args.steps.again rule (turn_tree c)) c.step_taken-end.result) c.augmentation-last.ensures.rule
    (c.step_taken-end.ensures.only (turn_tree c) (turn_only c))

pub returns-then-not-is_mvd-clause-no_larger : goal.returns-then-not-is_mvd-clause-no_larger
returns-then-not-is_mvd-clause-no_larger c = λ w z w2 z2 proves.
    let s = c.args.theory.now in
    let at = (goal.at.returns-then-not-is_mvd-clause-no_larger c).After-step_taken-end in
    let missing = shape_missed c.step_taken-start.result c.step_taken-turn.result s (start_tree at) c.args.steps.augmented c.args.steps.turned c.args.steps.again w z w2 z2 (attributes c.args.lhs) (attributes c.args.rhs)
    (attributes c.missing_sides-first.result.wide) (attributes c.missing_sides-first.result.narrow) (attributes c.missing_sides-second.result.wide) (attributes c.missing_sides-second.result.narrow)
    c.requires.lhs c.requires.rhs (start_only at) (c.missing_sides-first.ensures.narrow, c.missing_sides-first.ensures.wide) (turn_only at) (c.missing_sides-second.ensures.narrow, c.missing_sides-second.ensures.wide) proves in
    absurd (false≢true (sym c.if-not-is_mvd.true ∙ (c.is_mvd.ensures.is_mvd s (end_tree at) (end_only at)).1 missing))

pub returns-clause-fits : goal.returns-clause-fits
returns-clause-fits c =
    let at = (goal.at.returns-clause-fits c).After-step_taken-end in
    (c.is_mvd.ensures.is_mvd c.args.theory.now (end_tree at) (end_only at)).0 c.if-not-is_mvd.false
