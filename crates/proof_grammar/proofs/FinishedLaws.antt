-- The first open slot of the reader's checker state, and the last one.
use Rattle.std.proofs.Common.{◌≡◌, ⊎_elim, ◌<◌, ◌≤◌, ◌+◌, ℕ, List, [], ◌∷◌, ◌++◌, length, Option, Some, None, refl, ◌∙◌, ap, subst, arith}
use Rattle.std.specs.Prelude.{not, is_some}
use Rattle.std.specs.List.{prefix_len}
use Rattle.std.proofs.lemmas.Bool.{cases_lt}
use Rattle.schema_model.specs.Schemas.{Schema}
use Rattle.derivation.specs.Trees.{Tree}
use Rattle.proof_grammar.specs.CheckerStates.{Opened}
use Rattle.proof_grammar.proofs.SlotLemmas.{IsSlot, AreSlots}

-- lines after so many others are used once
abbrev pub AreUsed : (ℕ → ℕ) → ℕ → ℕ → Type 0
AreUsed used n m = (k : ℕ) → n < k → k ≤ n + m → used k ≡ 1

-- ---- the first open slot
abbrev pub open_prefix : List (Option Opened) → ℕ
open_prefix os = prefix_len (λ o. not (is_some o)) os

-- among slots after so many others, or the end; those before it are used once
pub record IsFirstOpen (used : ℕ → ℕ) (n i size : ℕ) : Type 0 where
  pub unused : i < size → used (n + i + 1) ≡ 0
  pub earlier : AreUsed used n i

pub first_open : (s : Schema) (used : ℕ → ℕ) (n : ℕ) (ts : List Tree) (os : List (Option Opened))
    → AreSlots s used n ts os → IsFirstOpen used n (open_prefix os) (length ts)
first_open s used n [] [] slots = record {
  unused = λ less. absurd (omega (arith, less));
  earlier = λ k low high. absurd (omega (arith, low, high));
}
first_open s used n (t ∷ ts) (Some o ∷ os) slots = record {
  unused = λ less. let same : n + 0 + 1 ≡ n + 1 = omega arith in ap used same ∙ slots.0.0;
  earlier = λ k low high. absurd (omega (arith, low, high));
}
first_open s used n (t ∷ ts) (None ∷ os) slots =
    let more = first_open s used (n + 1) ts os slots.1 in
    let same : n + (1 + open_prefix os) + 1 ≡ n + 1 + open_prefix os + 1 = omega arith in
    record {
      unused = λ less. ap used same ∙ more.unused (omega (arith, less));
      earlier = λ k low high. ⊎_elim (λ later. more.earlier k later (omega (arith, high)))
          (λ first. let is : k ≡ n + 1 = omega (arith, low, first) in ap used is ∙ slots.0) (cases_lt (n + 1) k);
    }
first_open s used n _ _ slots = absurd slots

-- ---- the last slot
pub record IsLast (s : Schema) (used : ℕ → ℕ) (n : ℕ) (ts : List Tree) (os : List (Option Opened)) : Type 0 where
  pub before : List Tree
  pub tree : Tree
  pub trees : ts ≡ before ++ tree ∷ []
  pub front : List (Option Opened)
  pub slot : Option Opened
  pub slots : os ≡ front ++ slot ∷ []
  pub are : AreSlots s used n before front
  pub is : IsSlot s (used (n + length ts)) tree slot

pub last_slot : (s : Schema) (used : ℕ → ℕ) (n : ℕ) (t : Tree) (ts : List Tree) (os : List (Option Opened))
    → AreSlots s used n (t ∷ ts) os → IsLast s used n (t ∷ ts) os
last_slot s used n t ts [] slots = absurd slots
last_slot s used n t [] (o ∷ []) slots = record {
  before = [];
  tree = t;
  trees = refl;
  front = [];
  slot = o;
  slots = refl;
  are = tt;
  is = slots.0;
}
last_slot s used n t [] (o ∷ p ∷ os) slots = absurd slots.1
last_slot s used n t (u ∷ us) (o ∷ os) slots =
    let last = last_slot s used (n + 1) u us os slots.1 in
    let of : ℕ → Type 0 = λ m. IsSlot s (used m) last.tree last.slot in
    let same : n + 1 + length (u ∷ us) ≡ n + length (t ∷ u ∷ us) = omega arith in
    record {
      before = t ∷ last.before;
      tree = last.tree;
      trees = ap (λ vs. t ∷ vs) last.trees;
      front = o ∷ last.front;
      slot = last.slot;
      slots = ap (λ ps. o ∷ ps) last.slots;
      are = (slots.0, last.are);
      is = subst of same last.is;
    }
