-- The size of a tree: it has a node, and no path is longer than there are nodes.
use Rattle.std.proofs.Common.{◌<◌, ◌≤◌, arith}
use Rattle.derivation.specs.Trees.{Tree, leaf, step, pair, nodes, depth}

pub nodes-pos : (t : Tree) → 0 < nodes t
nodes-pos (leaf rule) = omega arith
nodes-pos (step rule t) = omega arith
nodes-pos (pair rule t u) = omega arith

pub depth-le-nodes : (t : Tree) → depth t ≤ nodes t
depth-le-nodes (leaf rule) = omega arith
depth-le-nodes (step rule t) = omega (arith, depth-le-nodes t)
depth-le-nodes (pair rule t u) = omega (arith, depth-le-nodes t, depth-le-nodes u)
