-- Columns whose names another file has too.
use Rattle.std.proofs.Common.{inl, inr, ◌≡◌, ◌+◌, ◌<◌, ℕ, List, Option, Some, None, is_some, false, sym, ap, ◌∙◌, arith}
use Rattle.std.proofs.lemmas.Bool.{cases_lt}
use Rattle.file_references.specs.Columns.{file_at, name_at}
use Rattle.headed_rows.specs.Headings.{HeadedRows}
use Rattle.schema_model.specs.Schemas.{attribute_named}

module _ (files : List HeadedRows) (target column : ℕ) where
  -- no other file of the first i has the column
  abbrev pub NoneBefore : ℕ → Type 0
  NoneBefore i = (file x : ℕ) → file < i → (file ≡ target → ⊥)
      → attribute_named (file_at files file).names (name_at (file_at files target).names column) ≡ Some x → ⊥

  pub none_here : (i : ℕ) (names : List (List ℕ)) (name : List ℕ) → (file_at files i).names ≡ names
      → name_at (file_at files target).names column ≡ name → attribute_named names name ≡ None → NoneBefore i → NoneBefore (i + 1)
  none_here i names name names_are name_is none before file x low other is = elim (cases_lt file i) [
    | inl less ↦ before file x less other is
    | inr more ↦
        let last : file ≡ i = omega (arith, low, more) in
        let wrong = sym none
        ∙ ap (λ (n : List ℕ). attribute_named names n) (sym name_is)
        ∙ ap (λ (ns : List (List ℕ)). attribute_named ns (name_at (file_at files target).names column)) (sym names_are)
        ∙ ap (λ (f : ℕ). attribute_named (file_at files f).names (name_at (file_at files target).names column)) (sym last) ∙ is in cc
  ]

  pub itself : (i : ℕ) → i ≡ target → NoneBefore i → NoneBefore (i + 1)
  itself i is before file x low other named = elim (cases_lt file i) [
    | inl less ↦ before file x less other named
    | inr more ↦ other (omega (arith, low, more, is))
  ]

-- what is not there is nothing
pub none_of : (o : Option ℕ) → is_some o ≡ false → (p : Option ℕ) → o ≡ p → p ≡ None
none_of None h p is = sym is
none_of (Some x) h p is = cc
