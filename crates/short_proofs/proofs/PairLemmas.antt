-- Two dependencies that are joined: how large their derivations are, and that a derivation which is kept beside
-- some is kept beside all of them.
use Rattle.std.proofs.Common.{◌≡◌, ℕ, ◌+◌, ◌<◌, ◌≤◌, Bool, true, false, arith, sym, subst, ⊎_elim}
use Rattle.std.proofs.Math.Nat.{max-le}
use Rattle.std.specs.Prelude.{if◌then◌else◌, Some, slice_get, length}
use Rattle.std.proofs.lemmas.Bool.{cases_lt}
use Rattle.std.proofs.lemmas.List.{length-map}
use Rattle.std.proofs.lemmas.Option.{slice_get_within}
use Rattle.attr_sets.specs.Attributes.{Attributes, none, union, intersection, difference}
use Rattle.dep_model.specs.Theories.{Theory}
use Rattle.dep_model.specs.Dependencies.{Dependency}
use Rattle.dep_model.specs.Deps.{dependency_of}
use Rattle.dep_model.specs.Theories.{deps_of, theory_of}
use Rattle.derivation.specs.Trees.{Tree, Step, Pair, Leaf, leaf, pair, nodes, given, replication, complementation, augmentation, maugmentation, mtransitivity, coalescence}
use Rattle.derivation.specs.Conclusions.{Proves}
use Rattle.basis_proofs.specs.CutProofs.{HasSize}
use Rattle.short_proofs.specs.Short.{taken, start, cut_to, transitivity_of, coalescence_of, IsNoLongerThan}
use Rattle.short_proofs.specs.Shapes.{IsSameOrShorter, count, start_count}
use Rattle.short_proofs.proofs.KeptLemmas.{kept_further, kept_no_longer, some_nodes}
use Rattle.short_proofs.proofs.ShapeLemmas.{nodes-taken, depth-taken, count-le, shape_given}

-- ---- how large
leaf_size : (rule : Leaf) → HasSize (leaf rule) 1 1
leaf_size rule = record { node_bound = omega arith; level_bound = omega arith }

taken_size : (b : Bool) (rule : Step) (t : Tree) (n m : ℕ) → HasSize t n m → HasSize (taken b rule t) (n + 1) (m + 1)
taken_size b rule t n m size =
    let more = count-le b in
    let nodes_are = nodes-taken b rule t in
    let levels_are = depth-taken b rule t in
    let node_bound = size.node_bound in
    let level_bound = size.level_bound in
    record { node_bound = omega (arith, more, nodes_are, node_bound); level_bound = omega (arith, more, levels_are, level_bound) }

pair_size : (rule : Pair) (t u : Tree) (n k m : ℕ) → HasSize t n m → HasSize u k m → HasSize (pair rule t u) (n + k + 1) (m + 1)
pair_size rule t u n k m first second =
    let one = first.node_bound in
    let two = second.node_bound in
    let deepest = max-le first.level_bound second.level_bound in
    record { node_bound = omega (arith, one, two); level_bound = omega (arith, deepest) }

start_size : (k : ℕ) (r c : Bool) → HasSize (start k r c) 3 3
start_size k r c = taken_size c _ _ 2 2 (taken_size r _ _ 1 1 (leaf_size _))

pub difference_small : (x y w : Attributes) (k : ℕ) (r c : Bool) (j : ℕ) (q d lifted widened turned again : Bool)
    → HasSize (transitivity_of x y w (start k r c) (start j q d) lifted widened turned again) 16 16
difference_small x y w k r c j q d lifted widened turned again =
    let whole : HasSize (transitivity_of x y w (start k r c) (start j q d) lifted widened turned again) 11 7 =
    taken_size again _ _ 10 6 (taken_size turned _ _ 9 5
    (pair_size _ _ _ 4 4 4 (taken_size lifted _ _ 3 3 (start_size k r c)) (taken_size widened _ _ 3 3 (start_size j q d)))) in
    let node_bound = whole.node_bound in
    let level_bound = whole.level_bound in
    record { node_bound = omega (arith, node_bound); level_bound = omega (arith, level_bound) }

cut_size : (b : Bool) (u z : Attributes) (rule : Leaf) → HasSize (cut_to b u z (leaf rule)) 3 2
cut_size true u z rule = pair_size _ _ _ 1 1 1 (leaf_size rule) (leaf_size _)
cut_size false u z rule = record { node_bound = omega arith; level_bound = omega arith }

deeper : (t : Tree) (n m : ℕ) → HasSize t n m → HasSize t n (m + 2)
deeper t n m size =
    let level_bound = size.level_bound in
    record { node_bound = size.node_bound; level_bound = omega (arith, level_bound) }

pub coalescence_small : (x y u : Attributes) (k : ℕ) (r c : Bool) (rule : Leaf) (lifted cut again : Bool)
    → HasSize (coalescence_of x y u (start k r c) (leaf rule) lifted cut again) 16 16
coalescence_small x y u k r c rule lifted cut again =
    let whole : HasSize (coalescence_of x y u (start k r c) (leaf rule) lifted cut again) 9 6 =
    taken_size again _ _ 8 5 (pair_size _ _ _ 4 3 4 (taken_size lifted _ _ 3 3 (start_size k r c)) (deeper _ 3 2 (cut_size cut u _ rule))) in
    let node_bound = whole.node_bound in
    let level_bound = whole.level_bound in
    record { node_bound = omega (arith, node_bound); level_bound = omega (arith, level_bound) }

-- ---- how small
start_nodes : (k : ℕ) (r c : Bool) → nodes (start k r c) ≡ start_count r c
start_nodes k r c =
    let one = nodes-taken r replication (leaf (given k)) in
    let two = nodes-taken c complementation (taken r replication (leaf (given k))) in
    omega (arith, one, two)

pub difference_long : (x y w : Attributes) (k : ℕ) (r c : Bool) (j : ℕ) (q d lifted widened turned again : Bool)
    → start_count r c + start_count q d + 1 + count lifted + count widened + count turned + count again
    ≤ nodes (transitivity_of x y w (start k r c) (start j q d) lifted widened turned again)
difference_long x y w k r c j q d lifted widened turned again =
    let v : Attributes = if lifted then union w x else w in
    let first = taken lifted (maugmentation x x) (start k r c) in
    let second = taken widened (maugmentation v none) (start j q d) in
    let one = start_nodes k r c in
    let two = start_nodes j q d in
    let three = nodes-taken lifted (maugmentation x x) (start k r c) in
    let four = nodes-taken widened (maugmentation v none) (start j q d) in
    let five = nodes-taken turned complementation (pair mtransitivity first second) in
    let six = nodes-taken again (maugmentation x (intersection x y)) (taken turned complementation (pair mtransitivity first second)) in
    omega (arith, one, two, three, four, five, six)

pub coalescence_long : (x y u : Attributes) (k : ℕ) (r c : Bool) (rule : Leaf) (lifted cut again : Bool)
    → start_count r c + 2 + count lifted + count again ≤ nodes (coalescence_of x y u (start k r c) (leaf rule) lifted cut again)
coalescence_long x y u k r c rule lifted cut again =
    let first = taken lifted (maugmentation x none) (start k r c) in
    let second = cut_to cut u (difference y x) (leaf rule) in
    let one = start_nodes k r c in
    let two = nodes-taken lifted (maugmentation x none) (start k r c) in
    let three = nodes-taken again (augmentation (intersection x y)) (pair coalescence first second) in
    let some = some_nodes second in
    omega (arith, one, two, three, some)

-- ---- what is kept is no longer than what came before
pub still : (s : Theory) (d : Dependency) (P : Tree → Type 0) (t u : Tree) → IsSameOrShorter s d t u → IsNoLongerThan s d P t → IsNoLongerThan s d P u
still s d P t u kept short = λ v is proves.
    let le = kept_no_longer s d t u kept in
    let first = short v is proves in
    omega (arith, le, first)

by_flags : (Q : Bool → Bool → Type 0) → Q false false → Q false true → Q true false → Q true true → (a b : Bool) → Q a b
by_flags Q one two three four false false = one
by_flags Q one two three four false true = two
by_flags Q one two three four true false = three
by_flags Q one two three four true true = four

-- four times, for two steps that are each taken or not
pub four_kept : (s : Theory) (d : Dependency) (P : Bool → Bool → Tree → Type 0) (t one two three four : Tree)
    → IsSameOrShorter s d t one → IsNoLongerThan s d (P false false) one → IsSameOrShorter s d one two → IsNoLongerThan s d (P false true) two
    → IsSameOrShorter s d two three → IsNoLongerThan s d (P true false) three → IsSameOrShorter s d three four → IsNoLongerThan s d (P true true) four
    → IsSameOrShorter s d t four × IsNoLongerThan s d (λ v. (a b : Bool) × P a b v) four
four_kept s d P t one two three four k1 n1 k2 n2 k3 n3 k4 n4 = (
  kept_further s d t three four (kept_further s d t two three (kept_further s d t one two k1 k2) k3) k4,
  λ v is proves. by_flags (λ a b. P a b v → nodes four ≤ nodes v)
      (λ p. still s d (P false false) three four k4 (still s d (P false false) two three k3 (still s d (P false false) one two k2 n1)) v p proves)
      (λ p. still s d (P false true) three four k4 (still s d (P false true) two three k3 n2) v p proves)
      (λ p. still s d (P true false) three four k4 n3 v p proves)
      (λ p. n4 v p proves)
      is.0 is.1 is.2,
)

-- twice, for one step
pub two_kept : (s : Theory) (d : Dependency) (P : Bool → Tree → Type 0) (t one two : Tree)
    → IsSameOrShorter s d t one → IsNoLongerThan s d (P false) one → IsSameOrShorter s d one two → IsNoLongerThan s d (P true) two
    → IsSameOrShorter s d t two × IsNoLongerThan s d (λ v. (a : Bool) × P a v) two
two_kept s d P t one two k1 n1 k2 n2 = (
  kept_further s d t one two k1 k2,
  λ v is proves. by_flags (λ a b. P a v → nodes two ≤ nodes v)
      (λ p. still s d (P false) one two k2 n1 v p proves)
      (λ p. still s d (P false) one two k2 n1 v p proves)
      (λ p. n2 v p proves) (λ p. n2 v p proves) is.0 false is.1,
)

-- one round of a loop more
pub round_kept : (s : Theory) (d : Dependency) (P : ℕ → Tree → Type 0) (i : ℕ) (t u : Tree) → IsSameOrShorter s d t u
    → ((j : ℕ) → j < i → IsNoLongerThan s d (P j) t) → IsNoLongerThan s d (P i) u → (j : ℕ) → j < i + 1 → IsNoLongerThan s d (P j) u
round_kept s d P i t u kept before now j less =
    ⊎_elim (λ earlier. still s d (P j) t u kept (before j earlier))
    (λ late. let here : j ≡ i = omega (arith, less, late) in subst (λ (k : ℕ). IsNoLongerThan s d (P k) u) (sym here) now)
    (cases_lt j i)

-- ---- numbers of dependencies
pub given_low : (s : Theory) (j : ℕ) (e : Dependency) → slice_get (theory_of s) j ≡ Some e → j < length (deps_of s)
given_low s j e found = omega (arith, slice_get_within (theory_of s) j e found, length-map (deps_of s) dependency_of)

pub start_low : (s : Theory) (k : ℕ) (r c : Bool) (d : Dependency) → Proves s (start k r c) d → k < length (deps_of s)
start_low s k r c d proves = shape_given s k r c false none none false false none none d proves
