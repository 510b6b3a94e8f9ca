-- A derivation by its root: how many nodes it has, and its tree where its premises are read from their boxes.
use Rattle.std.proofs.Common.{◌≡◌, ◌+◌, Box, Global, ap, sym, ◌∙◌}
use Rattle.derivation.specs.declared.rule.StepRule.{StepRule}
use Rattle.derivation.specs.declared.rule.PairRule.{PairRule}
use Rattle.derivation.specs.declared.deriv.Deriv.{Deriv}
use Rattle.derivation.specs.declared.deriv.Deriv.TheViews as root
use Rattle.derivation.specs.Trees.{nodes, step, pair}
use Rattle.derivation.specs.Derivs.{step_of, pair_of, tree_of}

pub same_nodes : {d e : Deriv} → d ≡ e → nodes (tree_of d) ≡ nodes (tree_of e)
same_nodes same = ap (λ (v : Deriv). nodes (tree_of v)) same

pub step_nodes : {d : Deriv} {rule : StepRule} {from : Box Deriv Global} → d ≡ root.Step rule from → nodes (tree_of d) ≡ nodes (tree_of from.value) + 1
step_nodes is = same_nodes is

pub pair_nodes : {d : Deriv} {rule : PairRule} {first second : Box Deriv Global} → d ≡ root.Pair rule first second → nodes (tree_of d) ≡ nodes (tree_of first.value) + nodes (tree_of second.value) + 1
pair_nodes is = same_nodes is

pub step_tree : {d from : Deriv} {rule : StepRule} {b : Box Deriv Global} → d ≡ root.Step rule b → from ≡ b.value → tree_of d ≡ step (step_of rule) (tree_of from)
step_tree {d} {from} {rule} {b} is read = ap tree_of is ∙ ap (λ (v : Deriv). step (step_of rule) (tree_of v)) (sym read)

pub pair_tree : {d left right : Deriv} {rule : PairRule} {b c : Box Deriv Global} → d ≡ root.Pair rule b c → left ≡ b.value → right ≡ c.value → tree_of d ≡ pair (pair_of rule) (tree_of left) (tree_of right)
pair_tree {d} {left} {right} {rule} {b} {c} is first second =
    ap tree_of is ∙ ap (λ (v : Deriv). pair (pair_of rule) (tree_of v) (tree_of c.value)) (sym first) ∙ ap (λ (v : Deriv). pair (pair_of rule) (tree_of left) (tree_of v)) (sym second)
