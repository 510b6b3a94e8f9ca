-- Looking up columns by their names.
use Rattle.std.proofs.Common.{◌≡◌, ℕ, Bool, true, ◌&&◌, List, [], ◌∷◌, map, Some, refl, sym, ap, ◌∙◌, inl, inr, ⊎_elim, arith}
use Rattle.std.proofs.lemmas.Bool.{cases_Bool, true≢false}
use Rattle.std.specs.Bool.{Decides}
use Rattle.std.specs.Cmp.Lexicographic.{pointwise_decides}
use Rattle.std.proofs.lemmas.Bool.{eqb-true, eq-eqb}
use Rattle.std.specs.Prelude.{Contains}
use Rattle.std.specs.Str.{bytes_eq}
use Rattle.dep_model.proofs.ListLemmas.{Contains-head, Contains-later, Contains-cases}
use Rattle.sql_syntax.specs.Syntax.{Column}
use Rattle.sql_evaluation.specs.Cells.{Cell}
use Rattle.sql_evaluation.specs.Values.{named_cell, bytes_of}
use Rattle.sql_evaluation.specs.Evaluation.{same_column, key_cell}

pub bytes_same : (a b : List ℕ) → Decides (bytes_eq a b) (a ≡ b)
bytes_same = pointwise_decides (λ (i j : ℕ). (eqb-true i j, eq-eqb i j))

pub bytes_self : (a : List ℕ) → bytes_eq a a ≡ true
bytes_self a = (bytes_same a a).1 refl

-- by a name the members of a list differ
abbrev pub NamesApart : (ℕ → List ℕ) → List ℕ → Type 0
NamesApart name ms = (k m : ℕ) → Contains ms k → Contains ms m → name k ≡ name m → k ≡ m

pub named_cell-member : (name : ℕ → List ℕ) (cell : ℕ → Cell) (ms : List ℕ) (k : ℕ) → NamesApart name ms → Contains ms k
    → named_cell (map name ms) (map cell ms) (name k) ≡ Some (cell k)
named_cell-member name cell [] k apart h = absurd (omega (arith, h.1))
named_cell-member name cell (m ∷ ms) k apart h = elim (cases_Bool (bytes_eq (name m) (name k))) [
  | inl same ↦ rw same (ap (λ (j : ℕ). Some (cell j)) (apart m k (Contains-head m ms) h ((bytes_same (name m) (name k)).0 same)))
  | inr other ↦ rw other (⊎_elim
      (λ (first : k ≡ m). absurd (true≢false (sym (ap (λ (j : ℕ). bytes_eq (name m) (name j)) first ∙ bytes_self (name m)) ∙ other)))
      (λ later. named_cell-member name cell ms k (λ i j a b. apart i j (Contains-later m ms i a) (Contains-later m ms j b)) later)
      (Contains-cases m ms k h))
]

-- the same of columns by which is grouped, of one alias
pub key_cell-member : (column : ℕ → Column) (alias : List ℕ) (cell : ℕ → Cell) (ms : List ℕ) (k : ℕ) → ((m : ℕ) → (column m).alias ≡ alias)
    → NamesApart (λ m. bytes_of (column m).name) ms → Contains ms k → key_cell (map column ms) (map cell ms) (column k) ≡ Some (cell k)
key_cell-member column alias cell [] k one apart h = absurd (omega (arith, h.1))
key_cell-member column alias cell (m ∷ ms) k one apart h =
    let aliases : bytes_eq (column m).alias (column k).alias ≡ true =
    ap (λ (a : List ℕ). bytes_eq a (column k).alias) (one m) ∙ ap (bytes_eq alias) (one k) ∙ bytes_self alias in
    let is : same_column (column m) (column k) ≡ bytes_eq (bytes_of (column m).name) (bytes_of (column k).name) =
    ap (λ (b : Bool). b && bytes_eq (bytes_of (column m).name) (bytes_of (column k).name)) aliases in
    elim (cases_Bool (bytes_eq (bytes_of (column m).name) (bytes_of (column k).name))) [
      | inl same ↦ rw (is ∙ same) (ap (λ (j : ℕ). Some (cell j)) (apart m k (Contains-head m ms) h ((bytes_same (bytes_of (column m).name) (bytes_of (column k).name)).0 same)))
      | inr other ↦ rw (is ∙ other) (⊎_elim
          (λ (first : k ≡ m). absurd (true≢false (sym (ap (λ (j : ℕ). bytes_eq (bytes_of (column m).name) (bytes_of (column j).name)) first ∙ bytes_self (bytes_of (column m).name)) ∙ other)))
          (λ later. key_cell-member column alias cell ms k one (λ i j a b. apart i j (Contains-later m ms i a) (Contains-later m ms j b)) later)
          (Contains-cases m ms k h))
    ]
