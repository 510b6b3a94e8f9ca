-- What the lines of a derivation state lies within the universe, and the sets of their rules are of attributes.
use Rattle.std.proofs.Common.{inl, inr, ℕ, List, [], ◌∷◌, arith}
use Rattle.std.specs.Prelude.{All}
use Rattle.std.proofs.lemmas.Bool.Decides.{nat_tests}
use Rattle.std.proofs.lemmas.List.Elements.{All-cons}
use Rattle.attr_sets.specs.Attributes.{Attributes, IsSubset}
use Rattle.schema_model.specs.Schemas.{Schema}
use Rattle.dep_model.specs.Dependencies.{IsWithin}
use Rattle.schema_model.specs.Schemas.{names_of, universe_of, naming_of}
use Rattle.derivation.proofs.WithinLemmas.{OfAttributes}
use Rattle.schema_grammar.specs.declared.symbol.Sign.TheVariants as sign
use Rattle.schema_grammar.specs.declared.format.Format.TheVariants as format
use Rattle.schema_grammar.specs.Grammar.{dependency_of_sign}
use Rattle.schema_grammar.specs.Meanings.{IsSide}
use Rattle.schema_grammar.proofs.WithinLemmas.{named_within}
use Rattle.lexer.specs.Tokens.{Mark}
use Rattle.proof_grammar.proofs.CountedLines.{rule_of_attributes}
use Rattle.derivation_grammar.specs.Lines.{DerivationBody, by_rule, by_decomposition, by_further, DerivationLine}
use Rattle.derivation_grammar.specs.Meanings.{IsLineRule, MeansDerivationLine, MeanDerivationLines}
use Rattle.derivation_grammar.proofs.OutcomeLemmas.{BodyOfLine}

-- ---- the sets of a line
-- what it states lies within the universe, and the sets of its rule are of attributes
pub record IsOfSchema (s : Schema) (l : DerivationLine) : Type 0 where
  pub stated : IsWithin (universe_of s) l.stated
  pub body : BodyOfLine l.body

side_within : (s : Schema) (ms : List Mark) (x : Attributes) → IsSide format.Plain (names_of s) ms x
    → IsSubset x (universe_of s)
side_within s ms x (inl empty) = rw empty.nothing (λ k e. cc)
side_within s ms x (inr words) = rw words.members (named_within (names_of s) ms)

body_of_line : (s : Schema) (ms : List Mark) (b : DerivationBody) → IsLineRule (names_of s) ms b
    → BodyOfLine b
body_of_line s ms (by_rule b) is = rule_of_attributes s ms b is
body_of_line s ms (by_decomposition p) is = tt {0}
body_of_line s ms (by_further r p q) is = tt {0}

pub line_of_schema : (s : Schema) (text : List ℕ) (l : DerivationLine)
    → MeansDerivationLine (naming_of s) (names_of s) text l
    → IsOfSchema s l
line_of_schema s text l means =
    let d = means.is_line.dependency in
    let both : IsWithin (universe_of s) (dependency_of_sign d.sign d.x d.y) =
    elim d.sign as (λ g. IsWithin (universe_of s) (dependency_of_sign g d.x d.y)) [
      | sign.Functional ↦ (side_within s d.lhs d.x d.left_side, side_within s d.rhs d.y d.right_side)
      | sign.Multivalued ↦ (side_within s d.lhs d.x d.left_side, side_within s d.rhs d.y d.right_side)
    ] in
    record {
      stated = rw d.states both;
      body = body_of_line s means.is_line.rule l.body means.is_line.is_rule;
    }

pub of_attributes : (s : Schema) (x : Attributes) → IsSubset x (universe_of s) → OfAttributes x
of_attributes s x within k member =
    let inside = within k member in grind (arith, nat_tests, inside, s.valid.names_within_limit)

-- and so it is of each line of a text
pub lines_of_schema : (s : Schema) (texts : List (List ℕ)) (lines : List DerivationLine)
    → MeanDerivationLines (naming_of s) (names_of s) texts lines → All (IsOfSchema s) lines
lines_of_schema s [] [] mean = λ k d h. absurd (omega (arith, h))
lines_of_schema s [] (l ∷ ls) mean = absurd mean
lines_of_schema s (t ∷ ts) [] mean = absurd mean
lines_of_schema s (t ∷ ts) (l ∷ ls) mean =
    All-cons (IsOfSchema s) l ls (line_of_schema s t l mean.0) (lines_of_schema s ts ls mean.1)
