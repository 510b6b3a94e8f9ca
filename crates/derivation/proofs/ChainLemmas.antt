-- The functional chain: what its stages prove, how large they are, and that there is one chain at most.
use Rattle.std.proofs.Common.{◌≡◌, ℕ, zero, suc, ◌+◌, ◌*◌, ◌<◌, ◌≤◌, inl, inr, refl, sym, ◌∙◌, ap, subst, arith}
use mathlib.Core.Path.{fun_ext}
use Rattle.std.proofs.Common.{List, [], ◌∷◌}
use Rattle.std.specs.Prelude.{Option, Some, slice_get, All}
use Rattle.std.proofs.lemmas.Bool.{cases_eq, cases_lt}
use Rattle.std.proofs.lemmas.Bool.Decides.{nat_tests}
use Rattle.std.proofs.lemmas.Option.{slice_get_within, get_or_from_slice_get}
use Rattle.std.proofs.lemmas.List.Elements.{All-contains, All-head, All-tail}
use Rattle.attr_sets.specs.declared.set.TheConstants.{MOST_ATTRIBUTES}
use Rattle.attr_sets.specs.Attributes.{Attributes, below, union, IsSubset, count_below}
use Rattle.attr_sets.proofs.AttributesLemmas.{tell_subset, count_below-lt, count_below-le}
use Rattle.dep_model.specs.Theories.{Theory}
use Rattle.dep_model.specs.Dependencies.{Dependency, fd, mvd, Obeys, functional_part, IsWithin}
use Rattle.dep_model.specs.Implication.{Implies}
use Rattle.dep_model.proofs.DepLemmas.{dependencies_all-from}
use Rattle.dep_model.proofs.RuleLemmas.{reflexivity_obeyed, transitivity_obeyed, fd_union_obeyed, fd_weaker_obeyed}
use Rattle.dep_model.specs.Theories.{width_of, theory_of, universe_of, deps_of}
use Rattle.derivation.specs.Trees.{Tree, leaf, step, pair, given, reflexivity, augmentation, transitivity, nodes, depth}
use Rattle.derivation.specs.Conclusions.{Proves}
use Rattle.derivation.specs.Chains.{IsFirstOut, Stage, first_stage, next_stage, Reaches, IsFunctionalChain}
use Rattle.derivation.proofs.ProvesLemmas.{fd_restated, reflexivity_proves, augmentation_proves, transitivity_proves}

-- ---- one chain
-- a dependency has one right side
some_fd-right : (x y : Attributes) (v w : Attributes) → ◌≡◌ {A = Option Dependency} (Some (fd x y)) (Some (fd v w)) → y ≡ w
some_fd-right x y v w e = cc

-- one dependency is the first that leads out, and it has one right side
pub first_out-one : (s : Theory) (c : Attributes) (j k : ℕ) (t w : Attributes) → IsFirstOut s c j t → IsFirstOut s c k w → (j ≡ k) × (t ≡ w)
first_out-one s c j k t w one other = elim (cases_eq j k) [
  | inl same ↦ (same, some_fd-right one.lhs t other.lhs w (sym one.given ∙ ap (slice_get (theory_of s)) same ∙ other.given))
  | inr differ ↦ elim (cases_lt j k) [
    | inl before ↦ absurd (one.out.beyond (other.earlier j one.lhs t before one.given one.out.inside))
    | inr after ↦ absurd (other.out.beyond (one.earlier k other.lhs w (omega arith) other.given other.out.inside))
  ]
]

-- as many steps lead to one stage
pub Reaches-one : (s : Theory) (x y : Attributes) (m : ℕ) (a b : Stage) → Reaches s x y m a → Reaches s x y m b → a ≡ b
Reaches-one s x y zero a b one other = one ∙ sym other
Reaches-one s x y (suc m) a b one other =
    let before : one.0 ≡ other.0 = Reaches-one s x y m one.0 other.0 one.3 other.3 in
    let P : Stage → Type 0 = λ e. IsFirstOut s e.closed one.1 one.2 in
    let same = first_out-one s other.0.closed one.1 other.1 one.2 other.2 (subst P before one.5) other.5 in
    one.6 ∙ ap (λ (e : Stage). next_stage e one.1 one.2) before ∙ ap (λ (k : ℕ). next_stage other.0 k one.2) same.0 ∙ ap (λ (t : Attributes). next_stage other.0 other.1 t) same.1 ∙ sym other.6

-- the stage that fewer steps led to did not hold y
stage_before : (s : Theory) (x y : Attributes) (m n : ℕ) (a : Stage) → m < n → Reaches s x y n a → (b : Stage) × Reaches s x y m b × (IsSubset y b.closed → ⊥)
stage_before s x y m zero a fewer reached = absurd (omega arith)
stage_before s x y m (suc n) a fewer reached = elim (cases_eq m n) [
  | inl same ↦ let P : ℕ → Type 0 = λ k. Reaches s x y k reached.0 in (reached.0, subst P (sym same) reached.3, reached.4)
  | inr other ↦ stage_before s x y m n reached.0 (omega arith) reached.3
]

-- the chain does not stop later
not_later : (s : Theory) (x y : Attributes) (m n : ℕ) (a b : Stage) → Reaches s x y m a → IsSubset y a.closed → Reaches s x y n b → m < n → ⊥
not_later s x y m n a b one holds other fewer =
    let stage = stage_before s x y m n b fewer other in
    let P : Stage → Type 0 = λ e. IsSubset y e.closed in
    stage.2 (subst P (Reaches-one s x y m a stage.0 one stage.1) holds)

pub chain_one : (s : Theory) (x y : Attributes) (t u : Tree) → IsFunctionalChain s x y t → IsFunctionalChain s x y u → t ≡ u
chain_one s x y t u one other = elim (cases_eq one.steps other.steps) [
  | inl same ↦
      let P : ℕ → Type 0 = λ k. Reaches s x y k one.last in
      let stage : one.last ≡ other.last = Reaches-one s x y other.steps one.last other.last (subst P same one.reached) other.reached in
      one.whole ∙ ap (λ (e : Stage). pair transitivity e.tree (leaf (reflexivity e.closed y))) stage ∙ sym other.whole
  | inr differ ↦ elim (cases_lt one.steps other.steps) [
    | inl fewer ↦ absurd (not_later s x y one.steps other.steps one.last other.last one.reached one.holds other.reached fewer)
    | inr more ↦ absurd (not_later s x y other.steps one.steps other.last one.last other.reached other.holds one.reached (omega arith))
  ]
]

-- ---- what a stage proves
-- a fact of each functional dependency of a list, at one of them
functional_at : (P : Dependency → Type 0) (ds : List Dependency) (k : ℕ) (v t : Attributes) → All P (functional_part ds) → slice_get ds k ≡ Some (fd v t) → P (fd v t)
functional_at P [] k v t h here = cc
functional_at P (fd x y ∷ ds) zero v t h here =
    let e : fd x y ≡ fd v t = cc in subst P e (All-head P (fd x y) (functional_part ds) h)
functional_at P (mvd x y ∷ ds) zero v t h here = cc
functional_at P (fd x y ∷ ds) (suc k) v t h here = functional_at P ds k v t (All-tail P (fd x y) (functional_part ds) h) here
functional_at P (mvd x y ∷ ds) (suc k) v t h here = functional_at P ds k v t h here

-- both sides of a dependency of the schema are attributes of it
pub given_within : (s : Theory) (k : ℕ) (v t : Attributes) → slice_get (theory_of s) k ≡ Some (fd v t) → IsSubset v (universe_of s) × IsSubset t (universe_of s)
given_within s k v t here =
    All-contains (IsWithin (universe_of s)) (theory_of s) (fd v t) (dependencies_all-from (IsWithin (universe_of s)) (deps_of s) s.valid.deps_within)
    (k, slice_get_within (theory_of s) k (fd v t) here, get_or_from_slice_get (theory_of s) k (fd v t) (fd v t) here)

pub given_proves : (s : Theory) (k : ℕ) (d : Dependency) → slice_get (theory_of s) k ≡ Some d → Proves s (leaf (given k)) d
given_proves s k d here = rw here refl

-- a fact of the first stage that each step keeps
stage_keeps : (s : Theory) (x y : Attributes) (P : Stage → Type 0) → P (first_stage x) → ((b : Stage) (k : ℕ) (t : Attributes) → P b → (IsSubset y b.closed → ⊥) → IsFirstOut s b.closed k t → P (next_stage b k t))
    → (m : ℕ) (a : Stage) → Reaches s x y m a → P a
stage_keeps s x y P first next zero a reached = subst P (sym reached) first
stage_keeps s x y P first next (suc m) a reached =
    subst P (sym reached.6) (next reached.0 reached.1 reached.2 (stage_keeps s x y P first next m reached.0 reached.3) reached.4 reached.5)

pub reached_grows : (s : Theory) (x y : Attributes) (m : ℕ) (a : Stage) → Reaches s x y m a → IsSubset x a.closed
reached_grows s x y = stage_keeps s x y (λ a. IsSubset x a.closed) (λ k m. m) (λ b k t before _ first j m. grind (arith, before j m))

pub reached_within : (s : Theory) (x y : Attributes) → IsSubset x (universe_of s) → (m : ℕ) (a : Stage) → Reaches s x y m a → IsSubset a.closed (universe_of s)
reached_within s x y x_in = stage_keeps s x y (λ a. IsSubset a.closed (universe_of s)) x_in
    (λ b k t before _ first j m. grind (arith, before j, (given_within s k first.lhs t first.given).1 j, m))

record IsProved (s : Theory) (x : Attributes) (a : Stage) : Type 0 where
  within : IsSubset a.closed (universe_of s)
  proves : Proves s a.tree (fd x a.closed)

pub reached_proves : (s : Theory) (x y : Attributes) → IsSubset x (universe_of s) → (m : ℕ) (a : Stage) → Reaches s x y m a → Proves s a.tree (fd x a.closed)
reached_proves s x y x_in m a reached = (stage_keeps s x y (IsProved s x) start next m a reached).proves
  where
    start : IsProved s x (first_stage x)
    start = record { within = x_in; proves = reflexivity_proves s x x x_in (λ k h. h) }

    next : (b : Stage) (k : ℕ) (t : Attributes) → IsProved s x b → (IsSubset y b.closed → ⊥) → IsFirstOut s b.closed k t → IsProved s x (next_stage b k t)
    next b k t before _ first =
        let given_in = given_within s k first.lhs t first.given in
        let c = b.closed in
        let lifted = augmentation_proves s (leaf (given k)) first.lhs t c before.within (given_proves s k (fd first.lhs t) first.given) in
        let whole = transitivity_proves s b.tree (step (augmentation c) (leaf (given k))) x c (union first.lhs c) (union t c) (fun_ext (λ j. grind (arith, first.out.inside j))) before.proves lifted in
        record {
          within = λ j h. grind (arith, before.within j, given_in.1 j, h);
          proves = fd_restated s (next_stage b k t).tree x (union t c) x (union c t) refl (fun_ext (λ j. grind arith)) whole;
        }

-- by the functional dependencies alone
pub reached_obeyed : (s : Theory) (x y : Attributes) (m : ℕ) (a : Stage) → Reaches s x y m a → Implies (width_of s) (functional_part (theory_of s)) (fd x a.closed)
reached_obeyed s x y = stage_keeps s x y (λ a. Implies (width_of s) (functional_part (theory_of s)) (fd x a.closed)) (λ r legal. reflexivity_obeyed x x r (λ k h. h)) next
  where
    next : (b : Stage) (k : ℕ) (t : Attributes) → Implies (width_of s) (functional_part (theory_of s)) (fd x b.closed) → (IsSubset y b.closed → ⊥) → IsFirstOut s b.closed k t
        → Implies (width_of s) (functional_part (theory_of s)) (fd x (union b.closed t))
    next b k t before _ first r legal =
        let here = functional_at (λ d. Obeys (width_of s) d r) (theory_of s) k first.lhs t legal.obeys first.given in
        fd_union_obeyed x b.closed t r (before r legal) (transitivity_obeyed x b.closed t r (before r legal) (fd_weaker_obeyed first.lhs t b.closed t r first.out.inside (λ j h. h) here))

pub chain_obeyed : (s : Theory) (x y : Attributes) (t : Tree) → IsFunctionalChain s x y t → Implies (width_of s) (functional_part (theory_of s)) (fd x y)
chain_obeyed s x y t chain r legal =
    fd_weaker_obeyed x chain.last.closed x y r (λ k h. h) chain.holds (reached_obeyed s x y chain.steps chain.last chain.reached r legal)

pub chain_proves : (s : Theory) (x y : Attributes) (t : Tree) → IsSubset x (universe_of s) → IsFunctionalChain s x y t → Proves s t (fd x y)
chain_proves s x y t x_in chain =
    let c = chain.last.closed in
    let last = reflexivity_proves s c y (reached_within s x y x_in chain.steps chain.last chain.reached) chain.holds in
    subst (λ (u : Tree). Proves s u (fd x y)) (sym chain.whole)
    (transitivity_proves s chain.last.tree (leaf (reflexivity c y)) x c c y refl (reached_proves s x y x_in chain.steps chain.last chain.reached) last)

-- ---- how large it is
record IsOfSteps (x : Attributes) (m : ℕ) (a : Stage) : Type 0 where
  nodes_are : nodes a.tree ≡ 3 * m + 1
  level_bound : depth a.tree ≤ m + 2
  each_more : m + count_below x MOST_ATTRIBUTES ≤ count_below a.closed MOST_ATTRIBUTES

reached_size : (s : Theory) (x y : Attributes) (m : ℕ) (a : Stage) → Reaches s x y m a → IsOfSteps x m a
reached_size s x y zero a reached = subst (IsOfSteps x zero) (sym reached) (record { nodes_are = refl; level_bound = omega arith; each_more = omega arith })
reached_size s x y (suc m) a reached =
    let b = reached.0 in
    let k = reached.1 in
    let t = reached.2 in
    let first = reached.5 in
    let before = reached_size s x y m b reached.3 in
    let t_in : IsSubset t (below MOST_ATTRIBUTES) = λ j h. grind (arith, nat_tests, (given_within s k first.lhs t first.given).1 j h, s.valid.within_limit) in
    let more : count_below b.closed MOST_ATTRIBUTES < count_below (union b.closed t) MOST_ATTRIBUTES = elim (tell_subset MOST_ATTRIBUTES t b.closed t_in) [
      | inl new ↦ count_below-lt MOST_ATTRIBUTES b.closed (union b.closed t) new.0 (λ j h. grind (arith, h)) new.1 new.3 (grind (arith, new.2))
      | inr all ↦ absurd (first.out.beyond all)
    ] in
    subst (IsOfSteps x (suc m)) (sym reached.6) (record {
      nodes_are = omega (arith, before.nodes_are);
      level_bound = omega (arith, before.level_bound);
      each_more = omega (arith, before.each_more, more);
    })

pub chain_small : (s : Theory) (x y : Attributes) (t : Tree) → IsFunctionalChain s x y t → (nodes t ≤ 3 * MOST_ATTRIBUTES + 3) × (depth t ≤ MOST_ATTRIBUTES + 3)
chain_small s x y t chain =
    let size = reached_size s x y chain.steps chain.last chain.reached in
    let within_limit : chain.steps ≤ MOST_ATTRIBUTES = omega (arith, size.each_more, count_below-le MOST_ATTRIBUTES chain.last.closed) in
    let P : Tree → Type 0 = λ u. (nodes u ≤ 3 * MOST_ATTRIBUTES + 3) × (depth u ≤ MOST_ATTRIBUTES + 3) in
    subst P (sym chain.whole) (omega (arith, size.nodes_are, within_limit), omega (arith, size.level_bound, within_limit))
