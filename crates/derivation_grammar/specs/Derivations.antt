-- What the rule of a line gives, and what a text derives: for what is wrong with a line, and for
-- `check derivation`.
use Rattle.std.specs.Prelude.{◌≡◌, ◌≤◌, ℕ, ◌+◌, ◌-◌, ◌==◌, if◌then◌else◌, List, [], ◌∷◌, ◌++◌, length, map, slice_get}
use Rattle.std.specs.Prelude.{Option, None, Some, Result, Ok, Err}
use Rattle.schema_model.specs.Schemas.{Schema, theory_in}
use Rattle.dep_model.specs.Dependencies.{Dependency, left_of, right_of}
use Rattle.schema_model.specs.Schemas.{names_of, naming_of}
use Rattle.derivation.specs.declared.fault.FaultKind.{FaultKind}
use Rattle.derivation.specs.declared.fault.FaultKind.TheVariants.{NoSuchGiven}
use Rattle.derivation.specs.declared.measures.TheConstants.{MOST_NODES}
use Rattle.derivation.specs.Trees.{given, reflexivity, mreflexivity}
use Rattle.derivation.specs.Table.{leaf_conclusion, step_conclusion, pair_conclusion}
use Rattle.proof_grammar.specs.Lines.{Body, by_given, by_reflexivity, by_mreflexivity, by_step, by_pair}
use Rattle.proof_grammar.specs.Meanings.{certificate_lines}
use Rattle.derivation_rules.specs.FurtherTable.{further_conclusion, decomposition_conclusion}
use Rattle.derivation_grammar.specs.Lines.{DerivationBody, by_rule, by_decomposition, by_further, DerivationLine}
use Rattle.derivation_grammar.specs.Meanings.{MeanDerivationLines}

-- ---- what the rule of a line gives
-- what lines state
abbrev pub stated_by : List DerivationLine → List Dependency
stated_by lines = map (λ l. l.stated) lines

-- what the line of this number states, which is counted from 1
abbrev pub stated_at : List Dependency → ℕ → Option Dependency
stated_at before p = if p == 0 then None else slice_get before (p - 1)

-- the dependency of this number, which is counted from 1
abbrev pub given_conclusion : Schema → ℕ → Result Dependency FaultKind
given_conclusion s k = if k == 0 then Err NoSuchGiven else leaf_conclusion (theory_in s) (given (k - 1))

-- what a rule gives over premises, which must be there
abbrev pub over_one : (Dependency → Result Dependency FaultKind) → Option Dependency
    → Option (Result Dependency FaultKind)
over_one rule None = None
over_one rule (Some x) = Some (rule x)

abbrev pub over_two : (Dependency → Dependency → Result Dependency FaultKind) → Option Dependency
    → Option Dependency
    → Option (Result Dependency FaultKind)
over_two rule (Some x) (Some y) = Some (rule x y)
over_two rule _ _ = None

-- what a rule of certificates gives, over what the lines before state
unfoldable pub outcome_of_rule : Schema → List Dependency → Dependency → Body
    → Option (Result Dependency FaultKind)
outcome_of_rule s before stated (by_given k) = Some (given_conclusion s k)
outcome_of_rule s before stated by_reflexivity =
    Some (leaf_conclusion (theory_in s) (reflexivity (left_of stated) (right_of stated)))
outcome_of_rule s before stated by_mreflexivity =
    Some (leaf_conclusion (theory_in s) (mreflexivity (left_of stated) (right_of stated)))
outcome_of_rule s before stated (by_step r p) = over_one (step_conclusion (theory_in s) r) (stated_at before p)
outcome_of_rule s before stated (by_pair r p q) =
    over_two (pair_conclusion r) (stated_at before p) (stated_at before q)

-- what the rule of a line gives; nothing where a premise is no earlier line
unfoldable pub outcome_of_line : Schema → List Dependency → Dependency → DerivationBody
    → Option (Result Dependency FaultKind)
outcome_of_line s before stated (by_rule b) = outcome_of_rule s before stated b
outcome_of_line s before stated (by_decomposition p) =
    over_one (decomposition_conclusion stated) (stated_at before p)
outcome_of_line s before stated (by_further r p q) =
    over_two (further_conclusion r) (stated_at before p) (stated_at before q)

-- ---- what is derived
-- a line is numbered in its turn, and its rule gives what it states
pub record IsDerived (s : Schema) (before : List Dependency) (l : DerivationLine) : Type 0 where
  pub number : l.number ≡ length before + 1
  pub states : outcome_of_line s before l.stated l.body ≡ Some (Ok l.stated)

-- each line is derived, after lines that state these
abbrev pub AreDerived : Schema → List Dependency → List DerivationLine → Type 0
AreDerived s before [] = Unit {0}
AreDerived s before (l ∷ ls) = IsDerived s before l × AreDerived s (before ++ l.stated ∷ []) ls

-- the last of these lines states d
pub record LastStates (lines : List DerivationLine) (d : Dependency) : Type 0 where
  pub before : List DerivationLine
  pub last : DerivationLine
  pub whole : lines ≡ before ++ last ∷ []
  pub states : last.stated ≡ d

-- the lines of a text, within the limit, are derived, and the last one states d
pub record Derives (s : Schema) (text : List ℕ) (d : Dependency) : Type 0 where
  pub before : List DerivationLine
  pub last : DerivationLine
  pub mean : MeanDerivationLines (naming_of s) (names_of s) (certificate_lines (naming_of s) text)
      (before ++ last ∷ [])
  pub derived : AreDerived s [] (before ++ last ∷ [])
  pub lines_fit : length (before ++ last ∷ []) ≤ MOST_NODES
  pub states : last.stated ≡ d
