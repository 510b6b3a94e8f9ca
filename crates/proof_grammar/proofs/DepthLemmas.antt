-- No tree of a line has more levels than the root.
use Rattle.std.proofs.Common.{◌≡◌, ◌<◌, ◌≤◌, ◌+◌, ⊎_elim, ℕ, zero, suc, List, [], ◌∷◌, ◌++◌, length, slice_get, Some, refl, sym, ◌∙◌, ap, subst, arith, length-append, append_assoc}
use Rattle.std.specs.Prelude.{filter, nat_eq, max}
use Rattle.std.specs.List.{flat_map}
use Rattle.std.proofs.lemmas.Bool.{cases_eq, cases_lt, ne_eqb}
use Rattle.std.proofs.lemmas.List.Elements.{filter-append}
use Rattle.std.proofs.lemmas.List.{get_or_append_left}
use Rattle.std.proofs.lemmas.Option.{get_or_from_slice_get, slice_get-get_or, slice_get_within}
use Rattle.schema_model.specs.Schemas.{Schema}
use Rattle.derivation.specs.Trees.{Tree, depth}
use Rattle.proof_grammar.specs.Lines.{Body, by_given, by_reflexivity, by_mreflexivity, by_step, by_pair, Line}
use Rattle.proof_grammar.specs.Spelling.{IsTreeAt, IsTreeOf, AreNodes, AreNodesOf, premises_of, uses}
use Rattle.proof_grammar.proofs.NodeLemmas.{slice_get-append}
use Rattle.proof_grammar.proofs.SlotLemmas.{times}
use Rattle.proof_grammar.proofs.PremiseLemmas.{times_other, times_two}

pub uses_first : (n : ℕ) (l : Line) (ls : List Line) → uses n (l ∷ ls) ≡ times n (premises_of l.body) + uses n ls
uses_first n l ls =
    let rest = flat_map (λ (m : Line). premises_of m.body) ls in
    ap length (filter-append (nat_eq n) (premises_of l.body) rest) ∙ length-append (filter (nat_eq n) (premises_of l.body)) (filter (nat_eq n) rest)

pub nodes_size : (s : Schema) (prior : List Tree) (ls : List Line) (ts : List Tree) → AreNodes s prior ls ts → length ls ≡ length ts
nodes_size s prior [] [] are = refl
nodes_size s prior [] (t ∷ ts) are = absurd are
nodes_size s prior (l ∷ ls) [] are = absurd are
nodes_size s prior (l ∷ ls) (t ∷ ts) (here, rest) = ap suc (nodes_size s (prior ++ t ∷ []) ls ts rest)

-- ---- who uses a line
-- a line's tree stands right below the tree of a later line
pub record IsBelow (all : List Tree) (n : ℕ) (w : Tree) : Type 0 where
  pub premise : Tree
  pub at : IsTreeAt all n premise
  pub less : depth premise < depth w

step_below : (prior : List Tree) (n p : ℕ) (u w : Tree) → IsTreeAt prior p u → depth u < depth w → 0 < times n (p ∷ []) → IsBelow prior n w
step_below prior n p u w at less not_empty =
    ⊎_elim
    (λ (same : n ≡ p). record {
      premise = u;
      at = record { before = at.before; number = omega (arith, same, at.number); tree = at.tree };
      less = less;
    })
    (λ (other : n ≡ p → ⊥). absurd (omega (arith, not_empty, times_other n p (ne_eqb n p other))))
    (cases_eq n p)

line_below : (prior : List Tree) (l : Line) (b : Body) (w : Tree) (n : ℕ) → IsTreeOf prior l b w → 0 < times n (premises_of b) → IsBelow prior n w
line_below prior l (by_given k) w n tree not_empty = absurd (omega (arith, not_empty))
line_below prior l by_reflexivity w n tree not_empty = absurd (omega (arith, not_empty))
line_below prior l by_mreflexivity w n tree not_empty = absurd (omega (arith, not_empty))
line_below prior l (by_step rule p) w n tree not_empty =
    step_below prior n p tree.premise w tree.earlier (omega (arith, ap depth tree.tree)) not_empty
line_below prior l (by_pair rule p q) w n tree not_empty =
    let deep : depth w ≡ max (depth tree.first) (depth tree.second) + 1 = ap depth tree.tree in
    ⊎_elim
    (λ (first : 0 < times n (p ∷ [])). step_below prior n p tree.first w tree.first_earlier
    (omega (arith, deep)) first)
    (λ (none : times n (p ∷ []) ≤ 0). step_below prior n q tree.second w tree.second_earlier
    (omega (arith, deep)) (omega (arith, not_empty, none, times_two n p q)))
    (cases_lt 0 (times n (p ∷ [])))

-- a line that is used is used by a later one
record IsUsed (prior ts : List Tree) (n : ℕ) : Type 0 where
  at : ℕ
  tree : Tree
  here : slice_get ts at ≡ Some tree
  below : IsBelow (prior ++ ts) n tree
  later : n ≤ length prior + at

line_using : (s : Schema) (prior : List Tree) (ls : List Line) (ts : List Tree) (n : ℕ) → AreNodes s prior ls ts → 0 < uses n ls → IsUsed prior ts n
line_using s prior [] [] n are not_empty = let none : ⊥ = omega (arith, not_empty) in absurd none
line_using s prior [] (t ∷ ts) n are not_empty = absurd are
line_using s prior (l ∷ ls) [] n are not_empty = absurd are
line_using s prior (l ∷ ls) (t ∷ ts) n (here, rest) not_empty =
    ⊎_elim
    (λ (own : 0 < times n (premises_of l.body)).
    let below = line_below prior l l.body t n here.tree own in
    let i = below.at.before in
    let u = below.premise in
    let inside = slice_get_within prior i u below.at.tree in
    let whole : i < length (prior ++ t ∷ ts) = omega (arith, inside, length-append prior (t ∷ ts)) in
    let still : slice_get (prior ++ t ∷ ts) i ≡ Some u =
    slice_get-get_or (prior ++ t ∷ ts) i u whole
    ∙ ap Some (get_or_append_left prior (t ∷ ts) u i inside
    ∙ get_or_from_slice_get prior i u u below.at.tree) in
    record {
      at = 0;
      tree = t;
      here = refl;
      below = record {
        premise = u;
        at = record { before = i; number = below.at.number; tree = still };
        less = below.less;
      };
      later = omega (arith, inside, below.at.number);
    })
    (λ (none : times n (premises_of l.body) ≤ 0).
    let used = line_using s (prior ++ t ∷ []) ls ts n rest (omega (arith, none, not_empty, uses_first n l ls)) in
    record {
      at = suc used.at;
      tree = used.tree;
      here = used.here;
      below = subst (λ (all : List Tree). IsBelow all n used.tree) (append_assoc prior (t ∷ []) ts) used.below;
      later = omega (arith, used.later, length-append prior (t ∷ []));
    })
    (cases_lt 0 (times n (premises_of l.body)))

-- ---- up to the root
climb : (s : Schema) (lines : List Line) (t : Tree) (are : AreNodesOf s lines t) (k i : ℕ) (u : Tree) → length lines ≤ i + k + 1 → slice_get (are.before ++ t ∷ []) i ≡ Some u → depth u ≤ depth t
climb s lines t are zero i u far here =
    let all = are.before ++ t ∷ [] in
    let inside = slice_get_within all i u here in
    let size : length all ≡ length are.before + 1 = length-append are.before (t ∷ []) in
    let count = nodes_size s [] lines all are.nodes in
    let last : i ≡ length are.before = omega (arith, far, inside, size, count) in
    let both : Some u ≡ Some t = sym here ∙ ap (slice_get all) last ∙ slice_get-append are.before t [] in
    let same : u ≡ t = cc in
    omega (arith, ap depth same)
climb s lines t are (suc k) i u far here =
    let all = are.before ++ t ∷ [] in
    ⊎_elim
    (λ (low : i + 1 < length lines).
    let once = are.used (i + 1) (omega arith) low in
    let used = line_using s [] lines all (i + 1) are.nodes (omega (arith, once)) in
    let at : used.below.at.before ≡ i = omega (arith, used.below.at.number) in
    let both : Some used.below.premise ≡ Some u = sym used.below.at.tree ∙ ap (slice_get all) at ∙ here in
    let same : used.below.premise ≡ u = cc in
    let more = climb s lines t are k used.at used.tree (omega (arith, far, used.later)) used.here in
    omega (arith, more, used.below.less, ap depth same))
    (λ (last : length lines ≤ i + 1). climb s lines t are k i u (omega arith) here)
    (cases_lt (i + 1) (length lines))

pub no_deeper : (s : Schema) (lines : List Line) (t : Tree) (are : AreNodesOf s lines t) (i : ℕ) (u : Tree) → slice_get (are.before ++ t ∷ []) i ≡ Some u → depth u ≤ depth t
no_deeper s lines t are i u here = climb s lines t are (length lines) i u (omega arith) here
