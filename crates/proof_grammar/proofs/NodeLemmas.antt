-- Lines that are nodes, and how often they use a line, over lines one after another.
use Rattle.std.proofs.Common.{◌≡◌, ℕ, ◌+◌, Bool, true, false, cond, List, [], ◌∷◌, ◌++◌, length, Some, refl, sym, subst, arith, length-append, append_assoc}
use Rattle.std.specs.Prelude.{filter, nat_eq, nat_le, slice_get}
use Rattle.std.specs.List.{flat_map}
use Rattle.std.proofs.lemmas.Grind.{flat_map-append}
use Rattle.std.proofs.lemmas.List.{append-nil}
use Rattle.std.proofs.lemmas.List.Elements.{filter-append}
use Rattle.schema_model.specs.Schemas.{Schema}
use Rattle.derivation.specs.Trees.{Tree}
use Rattle.proof_grammar.specs.Lines.{Line}
use Rattle.proof_grammar.specs.Spelling.{IsTreeAt, AreNodes, premises_of, uses}

-- ---- nodes
pub AreNodes-append : (s : Schema) (before : List Tree) (xs : List Line) (ts : List Tree) (ys : List Line) (us : List Tree)
    → AreNodes s before xs ts → AreNodes s (before ++ ts) ys us → AreNodes s before (xs ++ ys) (ts ++ us)
AreNodes-append s before [] [] ys us first second = subst (λ (w : List Tree). AreNodes s w ys us) (append-nil before) second
AreNodes-append s before [] (t ∷ ts) ys us first second = absurd first
AreNodes-append s before (x ∷ xs) [] ys us first second = absurd first
AreNodes-append s before (x ∷ xs) (t ∷ ts) ys us first second =
    let moved : AreNodes s ((before ++ t ∷ []) ++ ts) ys us = subst (λ (w : List Tree). AreNodes s w ys us) (sym (append_assoc before (t ∷ []) ts)) second in
    (first.0, AreNodes-append s (before ++ t ∷ []) xs ts ys us first.1 moved)

pub slice_get-append : {X : Type 0} (xs : List X) (x : X) (ys : List X) → slice_get (xs ++ x ∷ ys) (length xs) ≡ Some x
slice_get-append [] x ys = refl
slice_get-append (v ∷ xs) x ys = slice_get-append xs x ys

-- the tree after others is at their number and 1
pub IsTreeAt-append : (all ts : List Tree) (t : Tree) (us : List Tree) (p : ℕ) → all ≡ ts ++ t ∷ us → p ≡ length ts + 1 → IsTreeAt all p t
IsTreeAt-append all ts t us p e count = record { before = length ts; number = count; tree = rw e (slice_get-append ts t us) }

-- ---- uses
pub uses-append : (k : ℕ) (xs ys : List Line) → uses k (xs ++ ys) ≡ uses k xs + uses k ys
uses-append k xs ys =
    let used = λ (l : Line). premises_of l.body in
    rw (flat_map-append used xs ys, filter-append (nat_eq k) (flat_map used xs) (flat_map used ys))
    (length-append (filter (nat_eq k) (flat_map used xs)) (filter (nat_eq k) (flat_map used ys)))

-- how often a number is this one
abbrev pub indicator : ℕ → ℕ → ℕ
indicator k p = cond (nat_eq k p) 1 0

pub filtered_more : (k p : ℕ) (ps : List ℕ) (b : Bool) → nat_eq k p ≡ b
    → length (filter (nat_eq k) (p ∷ ps)) ≡ indicator k p + length (filter (nat_eq k) ps)
filtered_more k p ps true e = rw e (omega arith)
filtered_more k p ps false e = rw e (omega arith)

-- whether a number is above the first and not above the second
abbrev pub between : ℕ → ℕ → ℕ → ℕ
between k low high = cond (nat_le k low) 0 (cond (nat_le k high) 1 0)
