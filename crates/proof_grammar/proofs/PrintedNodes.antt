-- The lines in which a derivation is printed are the nodes of its tree, each but the last used once.
use Rattle.std.proofs.Common.{◌≡◌, ℕ, ◌+◌, List, [], ◌∷◌, ◌++◌, length, refl, sym, ◌∙◌, ap, arith, length-append, append_assoc}
use Rattle.std.specs.Prelude.{Ok, ◌&&◌, nat_eq}
use Rattle.std.proofs.lemmas.Bool.Decides.{nat_tests}
use Rattle.attr_sets.specs.Sets.{is_subset}
use Rattle.schema_model.specs.Schemas.{Schema, theory_in}
use Rattle.dep_model.specs.Dependencies.{Dependency, fd, mvd, left_of, right_of}
use Rattle.schema_model.specs.Schemas.{universe_of}
use Rattle.derivation.specs.declared.fault.FaultKind.TheVariants.{NotWithin}
use Rattle.derivation.specs.Trees.{Leaf, given, reflexivity, mreflexivity, Tree, leaf, step, pair, nodes}
use Rattle.derivation.specs.Conclusions.{Proves, conclusion_after}
use Rattle.derivation.specs.Table.{leaf_conclusion}
use Rattle.derivation.proofs.ConclusionLemmas.{conclusion_after-from}
use Rattle.derivation.proofs.RuleTableLemmas.{cond-ok}
use Rattle.derivation.proofs.TreeLemmas.{nodes-pos}
use Rattle.proof_grammar.specs.Lines.{by_step, by_pair}
use Rattle.proof_grammar.specs.Printing.{leaf_body, numbered_line, node_lines_after}
use Rattle.proof_grammar.specs.Spelling.{AreNodes, IsTreeOf, IsNode, AreNodesOf, uses}
use Rattle.proof_grammar.proofs.DepthLemmas.{nodes_size}
use Rattle.proof_grammar.proofs.NodeLemmas.{AreNodes-append, IsTreeAt-append, uses-append, indicator, between, filtered_more}

-- ---- the nodes
-- the nodes but the root, in post-order
abbrev pub below_root : Tree → List Tree
below_root (leaf rule) = []
below_root (step rule t) = below_root t ++ t ∷ []
below_root (pair rule t u) = (below_root t ++ t ∷ []) ++ (below_root u ++ u ∷ [])

length-below_root : (t : Tree) → length (below_root t) + 1 ≡ nodes t
length-below_root (leaf rule) = refl
length-below_root (step rule t) = omega (arith, length-append (below_root t) (t ∷ []), length-below_root t)
length-below_root (pair rule t u) =
    let first = length-append (below_root t) (t ∷ []) in
    let second = length-append (below_root u) (u ∷ []) in
    omega (arith, length-append (below_root t ++ t ∷ []) (below_root u ++ u ∷ []), first, second, length-below_root t, length-below_root u)

leaf_tree : (s : Schema) (before : List Tree) (n : ℕ) (rule : Leaf) (d : Dependency) → leaf_conclusion (theory_in s) rule ≡ Ok d
    → IsTreeOf before (numbered_line n d (leaf_body rule)) (leaf_body rule) (leaf rule)
leaf_tree s before n (given k) d h = record { before = k; number = refl; tree = refl }
leaf_tree s before n (reflexivity x y) d h =
    let states : fd x y ≡ d = (cond-ok (is_subset x (universe_of s) && is_subset y x) NotWithin (fd x y) d h).1 in
    ap (λ (e : Dependency). leaf (reflexivity (left_of e) (right_of e))) states
leaf_tree s before n (mreflexivity x y) d h =
    let states : mvd x y ≡ d = (cond-ok (is_subset x (universe_of s) && is_subset y x) NotWithin (mvd x y) d h).1 in
    ap (λ (e : Dependency). leaf (mreflexivity (left_of e) (right_of e))) states

-- lines numbered after n others are the nodes of the tree, after the n trees of these
printed_after : (s : Schema) (t : Tree) (d : Dependency) (n : ℕ) (before : List Tree) → length before ≡ n → Proves (theory_in s) t d
    → AreNodes s before (node_lines_after s n t) (below_root t ++ t ∷ [])
printed_after s (leaf rule) d n before count proves =
    let node : IsNode s before (numbered_line (n + 1) d (leaf_body rule)) (leaf rule) =
    record { number = omega arith; tree = leaf_tree s before (n + 1) rule d proves; states = proves } in
    let concludes : conclusion_after (theory_in s) 0 (leaf rule) ≡ Ok d = conclusion_after-from (theory_in s) 0 (leaf rule) d proves in
    rw concludes (node, tt {0})
printed_after s (step rule t) d n before count proves =
    let last = numbered_line (n + nodes t + 1) d (by_step rule (n + nodes t)) in
    let trees = below_root t ++ t ∷ [] in
    let size = length-below_root t in
    let at = IsTreeAt-append (before ++ trees) (before ++ below_root t) t [] (n + nodes t)
    (sym (append_assoc before (below_root t) (t ∷ []))) (omega (arith, length-append {A = Tree})) in
    let node : IsNode s (before ++ trees) last (step rule t) = record {
      number = omega (arith, length-append {A = Tree});
      tree = record { premise = t; earlier = at; tree = refl };
      states = proves;
    } in
    let premises = printed_after s t proves.0 n before count proves.1 in
    let concludes : conclusion_after (theory_in s) 0 (step rule t) ≡ Ok d = conclusion_after-from (theory_in s) 0 (step rule t) d proves in
    rw concludes
    (AreNodes-append s before (node_lines_after s n t) trees (last ∷ []) (step rule t ∷ []) premises (node, tt {0}))
printed_after s (pair rule t u) d n before count proves =
    let last = numbered_line (n + nodes t + nodes u + 1) d (by_pair rule (n + nodes t) (n + nodes t + nodes u)) in
    let ts = below_root t ++ t ∷ [] in
    let us = below_root u ++ u ∷ [] in
    let all = before ++ (ts ++ us) in
    let xs = node_lines_after s n t in
    let ys = node_lines_after s (n + nodes t) u in
    let first_size = length-below_root t in
    let second_size = length-below_root u in
    let after_the_first : length (before ++ ts) ≡ n + nodes t = omega (arith, length-append {A = Tree}) in
    let first_at = IsTreeAt-append all (before ++ below_root t) t us (n + nodes t)
    (simp append_assoc) (omega (arith, length-append {A = Tree})) in
    let second_at = IsTreeAt-append all ((before ++ ts) ++ below_root u) u [] (n + nodes t + nodes u)
    (simp append_assoc) (omega (arith, length-append {A = Tree})) in
    let node : IsNode s all last (pair rule t u) = record {
      number = omega (arith, length-append {A = Tree});
      tree = record { first = t; second = u; first_earlier = first_at; second_earlier = second_at; tree = refl };
      states = proves;
    } in
    let first = printed_after s t proves.0 n before count proves.2 in
    let second = printed_after s u proves.1 (n + nodes t) (before ++ ts) after_the_first proves.3 in
    let concludes : conclusion_after (theory_in s) 0 (pair rule t u) ≡ Ok d = conclusion_after-from (theory_in s) 0 (pair rule t u) d proves in
    rw concludes
    (AreNodes-append s before (xs ++ ys) (ts ++ us) (last ∷ []) (pair rule t u ∷ [])
    (AreNodes-append s before xs ts ys us first second) (node, tt {0}))

-- ---- the uses
-- after n others, lines use each of their own but the last once, and no line else
printed_uses : (s : Schema) (t : Tree) (d : Dependency) (n k : ℕ) → Proves (theory_in s) t d
    → uses k (node_lines_after s n t) + indicator k (n + nodes t) ≡ between k n (n + nodes t)
printed_uses s (leaf rule) d n k proves =
    let unused : uses k (numbered_line (n + 1) d (leaf_body rule) ∷ []) ≡ 0 =
    elim rule as (λ r. uses k (numbered_line (n + 1) d (leaf_body r) ∷ []) ≡ 0)
    [ given i ↦ refl | reflexivity x y ↦ refl | mreflexivity x y ↦ refl ] in
    let concludes : conclusion_after (theory_in s) 0 (leaf rule) ≡ Ok d = conclusion_after-from (theory_in s) 0 (leaf rule) d proves in
    rw (concludes, unused) (grind (arith, nat_tests))
printed_uses s (step rule t) d n k proves =
    let p = n + nodes t in
    let lines = node_lines_after s n t in
    let last = numbered_line (p + 1) d (by_step rule p) ∷ [] in
    let own : uses k last ≡ indicator k p = filtered_more k p [] (nat_eq k p) refl ∙ omega arith in
    let more = printed_uses s t proves.0 n k proves.1 in
    let not_empty = nodes-pos t in
    let concludes : conclusion_after (theory_in s) 0 (step rule t) ≡ Ok d = conclusion_after-from (theory_in s) 0 (step rule t) d proves in
    rw (concludes, uses-append k lines last, own) (grind (arith, nat_tests, more, not_empty))
printed_uses s (pair rule t u) d n k proves =
    let p = n + nodes t in
    let q = p + nodes u in
    let xs = node_lines_after s n t in
    let ys = node_lines_after s p u in
    let last = numbered_line (q + 1) d (by_pair rule p q) ∷ [] in
    let own : uses k last ≡ indicator k p + indicator k q =
    filtered_more k p (q ∷ []) (nat_eq k p) refl
    ∙ ap (λ m. indicator k p + m) (filtered_more k q [] (nat_eq k q) refl) ∙ omega arith in
    let first = printed_uses s t proves.0 n k proves.2 in
    let second = printed_uses s u proves.1 p k proves.3 in
    let not_empty = nodes-pos t in
    let more = nodes-pos u in
    let concludes : conclusion_after (theory_in s) 0 (pair rule t u) ≡ Ok d = conclusion_after-from (theory_in s) 0 (pair rule t u) d proves in
    rw (concludes, uses-append k (xs ++ ys) last, uses-append k xs ys, own)
    (grind (arith, nat_tests, first, second, not_empty, more))

-- each line is a node, and each but the last is used once
pub printed_nodes : (s : Schema) (t : Tree) (d : Dependency) → Proves (theory_in s) t d → AreNodesOf s (node_lines_after s 0 t) t
printed_nodes s t d proves =
    let nodes_are = printed_after s t d 0 [] refl proves in
    let count = nodes_size s [] (node_lines_after s 0 t) (below_root t ++ t ∷ []) nodes_are in
    let size = length-append (below_root t) (t ∷ []) in
    let high : length (node_lines_after s 0 t) ≡ nodes t = omega (arith, count, size, length-below_root t) in
    record {
      before = below_root t;
      nodes = nodes_are;
      used = λ k low inside. grind (arith, nat_tests, printed_uses s t d 0 k proves, high);
    }
