-- The reader's checker state against the trees of the lines: a slot is open until its line is used.
use Rattle.std.proofs.Common.{◌≡◌, ◌<◌, ◌+◌, ◌==◌, ℕ, zero, suc, false, List, [], ◌∷◌, ◌++◌, length, slice_get, slice_set, Option, Some, None, refl, sym, ◌∙◌, ap, subst, arith}
use Rattle.std.specs.Prelude.{filter, nat_eq}
use Rattle.std.proofs.lemmas.Bool.Decides.{nat_tests}
use Rattle.std.proofs.lemmas.Option.{same_Some}
use Rattle.schema_model.specs.Schemas.{Schema, theory_in}
use Rattle.derivation.specs.Trees.{Tree, depth}
use Rattle.derivation.specs.Conclusions.{Proves}
use Rattle.derivation.proofs.WithinLemmas.{TreeOfAttributes}
use Rattle.proof_grammar.specs.CheckerStates.{Opened}

-- an open line holds its tree, and what the tree proves
pub record IsOpen (s : Schema) (t : Tree) (o : Opened) : Type 0 where
  pub tree : o.tree ≡ t
  pub levels : o.levels ≡ depth t
  pub proves : Proves (theory_in s) t o.conclusion
  pub attributes : TreeOfAttributes t

-- a line that is used so often
abbrev pub IsSlot : Schema → ℕ → Tree → Option Opened → Type 0
IsSlot s used t (Some o) = (used ≡ 0) × IsOpen s t o
IsSlot s used t None = used ≡ 1

-- the slots of lines after so many others
abbrev pub AreSlots : Schema → (ℕ → ℕ) → ℕ → List Tree → List (Option Opened) → Type 0
AreSlots s used n [] [] = Unit {0}
AreSlots s used n (t ∷ ts) (o ∷ os) = IsSlot s (used (n + 1)) t o × AreSlots s used (n + 1) ts os
AreSlots s used n _ _ = ⊥

-- how often a number stands in a list
abbrev pub times : ℕ → List ℕ → ℕ
times n ps = length (filter (nat_eq n) ps)

pub slots_size : (s : Schema) (used : ℕ → ℕ) (n : ℕ) (ts : List Tree) (os : List (Option Opened))
    → AreSlots s used n ts os → length os ≡ length ts
slots_size s used n [] [] slots = refl
slots_size s used n (t ∷ ts) (o ∷ os) slots = ap suc (slots_size s used (n + 1) ts os slots.1)
slots_size s used n _ _ slots = absurd slots

pub slots_same : (s : Schema) (used other : ℕ → ℕ) (n : ℕ) (ts : List Tree) (os : List (Option Opened))
    → ((m : ℕ) → n < m → used m ≡ other m) → AreSlots s used n ts os → AreSlots s other n ts os
slots_same s used other n [] [] same slots = tt
slots_same s used other n (t ∷ ts) (o ∷ os) same slots = (
  subst (λ (u : ℕ). IsSlot s u t o) (same (n + 1) (omega arith)) slots.0,
  slots_same s used other (n + 1) ts os (λ m h. same m (omega (arith, h))) slots.1,
)
slots_same s used other n _ _ same slots = absurd slots

pub slots_push : (s : Schema) (used : ℕ → ℕ) (n : ℕ) (ts : List Tree) (os : List (Option Opened)) (t : Tree)
    (o : Option Opened) → AreSlots s used n ts os → IsSlot s (used (n + length ts + 1)) t o
    → AreSlots s used n (ts ++ t ∷ []) (os ++ o ∷ [])
slots_push s used n [] [] t o slots slot =
    let same : n + 0 + 1 ≡ n + 1 = omega arith in (subst (λ (m : ℕ). IsSlot s (used m) t o) same slot, tt)
slots_push s used n (u ∷ ts) (p ∷ os) t o slots slot =
    let same : n + suc (length ts) + 1 ≡ n + 1 + length ts + 1 = omega arith in
    (slots.0, slots_push s used (n + 1) ts os t o slots.1 (subst (λ (m : ℕ). IsSlot s (used m) t o) same slot))
slots_push s used n _ _ t o slots slot = absurd slots

-- the slot of a tree
pub record SlotAt (s : Schema) (used : ℕ) (t : Tree) (os : List (Option Opened)) (i : ℕ) : Type 0 where
  pub slot : Option Opened
  pub here : slice_get os i ≡ Some slot
  pub is : IsSlot s used t slot

pub slot_of_tree : (s : Schema) (used : ℕ → ℕ) (n : ℕ) (ts : List Tree) (os : List (Option Opened)) (i : ℕ) (t : Tree)
    → AreSlots s used n ts os → slice_get ts i ≡ Some t → SlotAt s (used (n + i + 1)) t os i
slot_of_tree s used n [] os i t slots at = cc
slot_of_tree s used n (u ∷ ts) [] i t slots at = absurd slots
slot_of_tree s used n (u ∷ ts) (o ∷ os) zero t slots at =
    let number : n + 1 ≡ n + 0 + 1 = omega arith in
    let is : IsSlot s (used (n + 0 + 1)) u o = subst (λ (m : ℕ). IsSlot s (used m) u o) number slots.0 in
    record { slot = o; here = refl; is = subst (λ (v : Tree). IsSlot s (used (n + 0 + 1)) v o) (same_Some u t at) is }
slot_of_tree s used n (u ∷ ts) (o ∷ os) (suc i) t slots at =
    let found = slot_of_tree s used (n + 1) ts os i t slots.1 at in
    let same : n + 1 + i + 1 ≡ n + suc i + 1 = omega arith in
    record { slot = found.slot; here = found.here; is = subst (λ (m : ℕ). IsSlot s (used m) t found.slot) same found.is }

-- the tree of a slot
pub tree_of_slot : (s : Schema) (used : ℕ → ℕ) (n : ℕ) (ts : List Tree) (os : List (Option Opened)) (i : ℕ)
    → AreSlots s used n ts os → i < length os → (t : Tree) × (slice_get ts i ≡ Some t)
tree_of_slot s used n [] [] i slots inside = absurd (omega (arith, inside))
tree_of_slot s used n (t ∷ ts) (o ∷ os) zero slots inside = (t, refl)
tree_of_slot s used n (t ∷ ts) (o ∷ os) (suc i) slots inside =
    tree_of_slot s used (n + 1) ts os i slots.1 (omega (arith, inside))
tree_of_slot s used n _ _ i slots inside = absurd slots

-- a line is used once more
pub slots_close : (s : Schema) (used other : ℕ → ℕ) (n : ℕ) (ts : List Tree) (os : List (Option Opened)) (i : ℕ)
    → AreSlots s used n ts os → other (n + i + 1) ≡ 1
    → ((m : ℕ) → (m == n + i + 1) ≡ false → other m ≡ used m) → AreSlots s other n ts (slice_set os i None)
slots_close s used other n [] [] i slots one others = tt
slots_close s used other n (t ∷ ts) (o ∷ os) zero slots one others =
    let first : other (n + 1) ≡ 1 = ap other (omega arith) ∙ one in
    (first, slots_same s used other (n + 1) ts os (λ m h. sym (others m (grind (arith, nat_tests, h)))) slots.1)
slots_close s used other n (t ∷ ts) (o ∷ os) (suc i) slots one others =
    let same : n + suc i + 1 ≡ n + 1 + i + 1 = omega arith in (
      subst (λ (u : ℕ). IsSlot s u t o) (sym (others (n + 1) (grind (arith, nat_tests)))) slots.0,
      slots_close s used other (n + 1) ts os i slots.1 (ap other (sym same) ∙ one)
          (λ m h. others m (ap (λ k. m == k) same ∙ h)),
    )
slots_close s used other n _ _ i slots one others = absurd slots
