-- Names that are read again where they are printed: for the laws of printed schemas, plans and
-- certificates. `Desk` does not cite it.
use Rattle.std.specs.Prelude.{◌≡◌, ℕ, true, false, List, All, AllPairs}
use Rattle.schema_model.specs.declared.naming.Naming.{Naming}
use Rattle.schema_model.specs.declared.naming.Naming.TheVariants.{Bare, Any}
use Rattle.schema_model.specs.Names.{IsName, is_bare_name, same_name}
use Rattle.schema_grammar.specs.declared.format.Format.{Format}
use Rattle.schema_grammar.specs.declared.format.Format.TheVariants as format
use Rattle.schema_grammar.specs.Words.{is_reserved}

-- names that differ, and that no text of the format reserves
pub record AreNames (f : Format) (names : List (List ℕ)) : Type 0 where
  pub each : All (λ name. is_bare_name name ≡ true) names
  pub not_reserved : All (λ name. is_reserved f name ≡ false) names
  pub differ : AllPairs (λ a b. same_name a b ≡ false) names

-- names that differ, and, where they are to be bare, are names of a text without a version line
pub record AreDeclaredNames (naming : Naming) (names : List (List ℕ)) : Type 0 where
  pub each : All IsName names
  pub differ : AllPairs (λ a b. same_name a b ≡ false) names
  pub bare : naming ≡ Bare → AreNames format.Plain names

-- a name is read again: where names are bare, it is a bare name that is not reserved
abbrev pub IsReadBack : Format → Naming → List ℕ → Type 0
IsReadBack f Bare name = (is_bare_name name ≡ true) × (is_reserved f name ≡ false)
IsReadBack f Any name = IsName name

-- names that differ, and are read again
pub record AreReadBack (f : Format) (naming : Naming) (names : List (List ℕ)) : Type 0 where
  pub each : All (IsReadBack f naming) names
  pub differ : AllPairs (λ a b. same_name a b ≡ false) names
