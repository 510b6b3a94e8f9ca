-- The lines of a certificate are as many as the nodes of its tree.
use Rattle.std.proofs.Common.{◌≡◌, ◌<◌, ◌≤◌, ◌+◌, ◌*◌, ◌==◌, ℕ, zero, suc, false, List, [], ◌∷◌, ◌++◌, length, slice_get, Some, refl, sym, ◌∙◌, ap, arith, length-append, append_assoc}
use Rattle.std.proofs.Math.Nat.{add-mul, mul-add, mul-zero, one-mul}
use Rattle.std.proofs.lemmas.Bool.Decides.{nat_tests}
use Rattle.schema_model.specs.Schemas.{Schema}
use Rattle.derivation.specs.Trees.{Tree, nodes}
use Rattle.proof_grammar.specs.Lines.{Body, by_given, by_reflexivity, by_mreflexivity, by_step, by_pair, Line}
use Rattle.proof_grammar.specs.Spelling.{IsTreeAt, IsTreeOf, AreNodes, AreNodesOf, premises_of, uses}
use Rattle.proof_grammar.proofs.SlotLemmas.{times}
use Rattle.proof_grammar.proofs.PremiseLemmas.{times_self, times_other, times_two}
use Rattle.proof_grammar.proofs.CertificateLaws.{late_unused}
use Rattle.proof_grammar.proofs.DepthLemmas.{uses_first, nodes_size}
use Rattle.proof_grammar.proofs.EnteredLaws.{premises_early}

-- ---- the nodes of trees, each counted as often as it is used
-- the trees stand after so many others
abbrev used_nodes : (ℕ → ℕ) → ℕ → List Tree → ℕ
used_nodes used n [] = 0
used_nodes used n (t ∷ ts) = used (n + 1) * nodes t + used_nodes used (n + 1) ts

-- where each is used as often, the nodes are so many times those of all, wherever the trees stand
used_as : (used : ℕ → ℕ) (often n k : ℕ) (ts : List Tree)
    → ((m : ℕ) → n < m → m ≤ n + length ts → used m ≡ often)
    → used_nodes used n ts ≡ often * used_nodes (λ m. 1) k ts
used_as used often n k [] each = sym (mul-zero often)
used_as used often n k (t ∷ ts) each =
    let more = used_as used often (n + 1) (k + 1) ts
    (λ m low high. each m (omega (arith, low)) (omega (arith, high))) in
    rw (each (n + 1) (omega arith) (omega arith), more, one-mul (nodes t))
    (sym (mul-add often (nodes t) (used_nodes (λ m. 1) (k + 1) ts)))

used_both : (used first second : ℕ → ℕ) (n : ℕ) (ts : List Tree) → ((m : ℕ) → used m ≡ first m + second m) → used_nodes used n ts ≡ used_nodes first n ts + used_nodes second n ts
used_both used first second n [] sums = refl
used_both used first second n (t ∷ ts) sums =
    rw (sums (n + 1), add-mul (first (n + 1)) (second (n + 1)) (nodes t))
    (omega (arith, used_both used first second (n + 1) ts sums))

used_more : (used : ℕ → ℕ) (n : ℕ) (ts us : List Tree) → used_nodes used n (ts ++ us) ≡ used_nodes used n ts + used_nodes used (n + length ts) us
used_more used n [] us = let same : n ≡ n + 0 = omega arith in omega (arith, ap (λ k. used_nodes used k us) same)
used_more used n (t ∷ ts) us =
    let same : n + 1 + length ts ≡ n + suc (length ts) = omega arith in
    omega (arith, used_more used (n + 1) ts us, ap (λ k. used_nodes used k us) same)

-- no tree but one is used, and it once
used_one : (used : ℕ → ℕ) (n : ℕ) (ts : List Tree) (i : ℕ) (t : Tree) → slice_get ts i ≡ Some t → used (n + i + 1) ≡ 1 → ((m : ℕ) → (m == n + i + 1) ≡ false → used m ≡ 0)
    → used_nodes used n ts ≡ nodes t
used_one used n [] i t at one others = cc
used_one used n (u ∷ ts) zero t at one others =
    let same : u ≡ t = cc in
    let first : used (n + 1) ≡ 1 = ap used (omega arith) ∙ one in
    rw first (omega (
      arith,
      ap nodes same,
      used_as used 0 (n + 1) 0 ts (λ m low high. others m (grind (arith, nat_tests, low))),
    ))
used_one used n (u ∷ ts) (suc i) t at one others =
    let same : n + 1 + i + 1 ≡ n + suc i + 1 = omega arith in
    rw (others (n + 1) (grind (arith, nat_tests)))
    (omega (arith, used_one used (n + 1) ts i t at (ap used same ∙ one) (λ m h. others m (sym (ap (λ k. m == k) same) ∙ h))))

-- ---- the nodes of a line's tree
premise_nodes : (ts : List Tree) (p : ℕ) (t : Tree) → IsTreeAt ts p t → used_nodes (λ m. times m (p ∷ [])) 0 ts ≡ nodes t
premise_nodes ts p t at =
    let used : ℕ → ℕ = λ m. times m (p ∷ []) in
    let same : 0 + at.before + 1 ≡ p = omega (arith, at.number) in
    used_one used 0 ts at.before t at.tree (ap used same ∙ times_self p) (λ m h. times_other m p (sym (ap (λ k. m == k) same) ∙ h))

line_nodes : (ts : List Tree) (l : Line) (b : Body) (t : Tree) → IsTreeOf ts l b t → nodes t ≡ 1 + used_nodes (λ m. times m (premises_of b)) 0 ts
line_nodes ts l (by_given k) t is =
    omega (arith, ap nodes is.tree, used_as (λ m. times m []) 0 0 0 ts (λ m low high. refl))
line_nodes ts l by_reflexivity t is =
    omega (arith, ap nodes is, used_as (λ m. times m []) 0 0 0 ts (λ m low high. refl))
line_nodes ts l by_mreflexivity t is =
    omega (arith, ap nodes is, used_as (λ m. times m []) 0 0 0 ts (λ m low high. refl))
line_nodes ts l (by_step rule p) t is = omega (arith, ap nodes is.tree, premise_nodes ts p is.premise is.earlier)
line_nodes ts l (by_pair rule p q) t is =
    let both = used_both (λ m. times m (p ∷ q ∷ [])) (λ m. times m (p ∷ [])) (λ m. times m (q ∷ [])) 0 ts (λ m. times_two m p q) in
    omega (arith, ap nodes is.tree, both, premise_nodes ts p is.first is.first_earlier, premise_nodes ts q is.second is.second_earlier)

-- ---- the nodes of all lines
-- the trees of lines have a node for each line, and those of the lines that they use
lines_total : (s : Schema) (k : ℕ) (prior : List Tree) (ls : List Line) (ts : List Tree)
    → AreNodes s prior ls ts
    → used_nodes (λ m. 1) k ts ≡ length ls + used_nodes (λ m. uses m ls) 0 (prior ++ ts)
lines_total s k prior [] [] are =
    omega (arith, used_as (λ m. uses m []) 0 0 0 (prior ++ []) (λ m low high. refl))
lines_total s k prior [] (t ∷ ts) are = absurd are
lines_total s k prior (l ∷ ls) [] are = absurd are
lines_total s k prior (l ∷ ls) (t ∷ ts) (here, rest) =
    let own : ℕ → ℕ = λ m. times m (premises_of l.body) in
    let next : ℕ → ℕ = λ m. uses m ls in
    let all = prior ++ t ∷ ts in
    let same : (prior ++ t ∷ []) ++ ts ≡ all = append_assoc prior (t ∷ []) ts in
    let more = lines_total s (k + 1) (prior ++ t ∷ []) ls ts rest in
    let both = used_both (λ m. uses m (l ∷ ls)) own next 0 all (λ m. uses_first m l ls) in
    let late = used_as own 0 (0 + length prior) 0 (t ∷ ts)
    (λ m low high. premises_early prior l l.body t m here.tree (omega (arith, low))) in
    omega (arith, more, both, ap (used_nodes next 0) same, line_nodes prior l l.body t here.tree, used_more own 0 prior (t ∷ ts), late)

pub lines_count : (s : Schema) (lines : List Line) (t : Tree) → AreNodesOf s lines t → length lines ≡ nodes t
lines_count s lines t are =
    let all = are.before ++ t ∷ [] in
    let used : ℕ → ℕ = λ m. uses m lines in
    let count = nodes_size s [] lines all are.nodes in
    let size : length all ≡ length are.before + 1 = length-append are.before (t ∷ []) in
    let others = used_as used 1 0 0 are.before
    (λ m low high. are.used m low (omega (arith, high, count, size))) in
    let last = used_as used 0 (0 + length are.before) 0 (t ∷ [])
    (λ m low high. late_unused s [] lines all m are.nodes (omega (arith, low, count, size))) in
    omega (
      arith,
      lines_total s 0 [] lines all are.nodes,
      used_more (λ m. 1) 0 are.before (t ∷ []),
      used_more used 0 are.before (t ∷ []),
      others,
      last,
    )
