-- The row of distinguished symbols by the test of its symbols.
use Rattle.std.proofs.Common.{◌≡◌, ℕ, zero, suc, true, [], ◌∷◌, length, refl, sym, ap, ◌∙◌, arith}
use Rattle.std.proofs.lemmas.Bool.{and_parts, and_from, eqb-true, eq-eqb}
use Rattle.std.proofs.lemmas.Bool.{cases_lt}
use Rattle.std.proofs.Common.{inl, inr}
use Rattle.std.specs.List.{list_all}
use Rattle.std.specs.Prelude.{nat_eq}
use Rattle.chase_laws.specs.Tableaux.{SymbolRow, symbol_at, distinguished_row}
use Rattle.chase_laws.proofs.TableauLemmas.{same_rows, symbol_at_past, length-distinguished_row, symbol_at-distinguished_row}

all_zero : (row : SymbolRow) → list_all (λ v. nat_eq v 0) row ≡ true → (k : ℕ) → symbol_at row k ≡ 0
all_zero [] h k = refl
all_zero (v ∷ row) h zero = eqb-true v 0 (and_parts (nat_eq v 0) (list_all (λ v. nat_eq v 0) row) h).0
all_zero (v ∷ row) h (suc k) = all_zero row (and_parts (nat_eq v 0) (list_all (λ v. nat_eq v 0) row) h).1 k

zeros_all : (row : SymbolRow) → ((k : ℕ) → symbol_at row k ≡ 0) → list_all (λ v. nat_eq v 0) row ≡ true
zeros_all [] h = refl
zeros_all (v ∷ row) h = and_from (nat_eq v 0) (list_all (λ v. nat_eq v 0) row) (eq-eqb v 0 (h 0)) (zeros_all row (λ (k : ℕ). h (suc k)))

pub distinguished_from : (n : ℕ) (row : SymbolRow) → length row ≡ n → list_all (λ v. nat_eq v 0) row ≡ true → row ≡ distinguished_row n
distinguished_from n row len h = same_rows n row (distinguished_row n) len (length-distinguished_row n) (λ (k : ℕ) l. all_zero row h k ∙ sym (symbol_at-distinguished_row n k l))

pub distinguished_to : (n : ℕ) (row : SymbolRow) → row ≡ distinguished_row n → list_all (λ v. nat_eq v 0) row ≡ true
distinguished_to n row e = zeros_all row (λ (k : ℕ). elim (cases_lt k n) [
  | inl low ↦ ap (λ (r : SymbolRow). symbol_at r k) e ∙ symbol_at-distinguished_row n k low
  | inr past ↦ symbol_at_past row k (omega (arith, past, ap (λ (r : SymbolRow). length r) e, length-distinguished_row n))
])
