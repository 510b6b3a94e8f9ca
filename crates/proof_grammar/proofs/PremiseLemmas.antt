-- A premise is an earlier line that no line used; to take it is to use its line.
use Rattle.std.proofs.Common.{◌≡◌, ◌<◌, ◌+◌, ◌-◌, ◌==◌, ℕ, true, false, List, [], ◌∷◌, length, Option, refl, sym, ◌∙◌, ap, subst, arith, length-append}
use Rattle.std.specs.Prelude.{filter, nat_eq}
use Rattle.std.proofs.lemmas.Bool.Decides.{nat_tests}
use Rattle.std.proofs.lemmas.List.Elements.{filter-append}
use Rattle.schema_model.specs.Schemas.{Schema}
use Rattle.derivation.specs.Trees.{Tree}
use Rattle.proof_grammar.specs.CheckerStates.{Opened, option_flatten, is_earlier, open_at, close_line}
use Rattle.proof_grammar.specs.Spelling.{IsTreeAt}
use Rattle.proof_grammar.proofs.SlotLemmas.{IsSlot, AreSlots, times, slots_close, slot_of_tree, tree_of_slot}

pub times_self : (p : ℕ) → times p (p ∷ []) ≡ 1
times_self p = let same : nat_eq p p ≡ true = grind (arith, nat_tests) in rw same refl

pub times_other : (p q : ℕ) → (p == q) ≡ false → times p (q ∷ []) ≡ 0
times_other p q e = rw e refl

pub times_more : (n p : ℕ) (ps : List ℕ) → times n (p ∷ ps) ≡ times n (p ∷ []) + times n ps
times_more n p ps = ap length (filter-append (nat_eq n) (p ∷ []) ps)
    ∙ length-append (filter (nat_eq n) (p ∷ [])) (filter (nat_eq n) ps)

pub times_two : (n p q : ℕ) → times n (p ∷ q ∷ []) ≡ times n (p ∷ []) + times n (q ∷ [])
times_two n p q = times_more n p (q ∷ [])

-- the slot of an earlier line
pub earlier_slot : (s : Schema) (used : ℕ → ℕ) (ts : List Tree) (os : List (Option Opened)) (p : ℕ) (o : Option Opened)
    → AreSlots s used 0 ts os → is_earlier os p ≡ true → open_at os p ≡ o
    → (t : Tree) × IsTreeAt ts p t × IsSlot s (used p) t o
earlier_slot s used ts os p o slots earlier here =
    let number : p ≡ p - 1 + 1 = grind (arith, nat_tests, earlier) in
    let tree = tree_of_slot s used 0 ts os (p - 1) slots (grind (arith, nat_tests, earlier)) in
    let found = slot_of_tree s used 0 ts os (p - 1) tree.0 slots tree.1 in
    let same : 0 + (p - 1) + 1 ≡ p = omega (arith, number) in
    let held : found.slot ≡ o = ap option_flatten (sym found.here) ∙ here in
    let of : ℕ → Option Opened → Type 0 = λ n slot. IsSlot s (used n) tree.0 slot in
    let moved : of p found.slot = subst (λ n. of n found.slot) same found.is in
    (tree.0, record { before = p - 1; number = number; tree = tree.1 }, subst (of p) held moved)

-- a premise that is taken is used
pub premise_taken : (s : Schema) (used : ℕ → ℕ) (ts : List Tree) (os : List (Option Opened)) (p : ℕ)
    → AreSlots s used 0 ts os → 0 < p → used p ≡ 0 → AreSlots s (λ n. used n + times n (p ∷ [])) 0 ts (close_line os p)
premise_taken s used ts os p slots not_empty unused =
    let same : 0 + (p - 1) + 1 ≡ p = omega (arith, not_empty) in
    let next : ℕ → ℕ = λ n. used n + times n (p ∷ []) in
    let one : next p ≡ 1 = omega (arith, unused, times_self p) in
    slots_close s used next 0 ts os (p - 1) slots (ap next same ∙ one)
    (λ m h. let other : times m (p ∷ []) ≡ 0 = times_other m p (sym (ap (λ k. m == k) same) ∙ h) in omega (arith, other))
