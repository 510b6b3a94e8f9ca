-- A derivation read from left to right: for the reader of derivations and the laws that tie it to the
-- meaning. `Desk` does not cite it.
use Rattle.std.specs.Prelude.{ℕ, ◌+◌, ◌-◌, ◌==◌, Bool, true, false, not, ◌&&◌, if◌then◌else◌, nat_le, List, [], ◌∷◌}
use Rattle.std.specs.Prelude.{◌++◌, length, Result, Ok, Err}
use Rattle.std.specs.List.{list_all}
use Rattle.schema_model.specs.Schemas.{Schema}
use Rattle.schema_model.specs.Schemas.{names_of, naming_of}
use Rattle.derivation.specs.declared.measures.TheConstants.{MOST_NODES}
use Rattle.lexer.specs.Modes as mode
use Rattle.lexer.specs.Lines.{line_texts, without_mark}
use Rattle.lexer.specs.Tokens.{lex}
use Rattle.schema_grammar.specs.Rests.{rest_from, ◌>>=◌}
use Rattle.proof_grammar.specs.declared.line_kind.LineKind.{LineKind}
use Rattle.proof_grammar.specs.declared.line_kind.LineKind.TheVariants.{Blank, Opening, Certificate}
use Rattle.proof_grammar.specs.CheckerStates.{diagnostic_at}
use Rattle.proof_grammar.specs.Diagnostics.{Diagnostic, LineDiagnostic, wrong_number, no_such_line, too_many_lines}
use Rattle.proof_grammar.specs.Diagnostics.{empty_proof}
use Rattle.proof_grammar.specs.Texts.{line_kind, in_line, at_line}
use Rattle.derivation_grammar.specs.Lines.{DerivationBody, DerivationLine, derivation_line}
use Rattle.derivation_grammar.specs.Meanings.{premises_of}

-- ---- a line
-- whether a number is that of one of so many lines
abbrev pub is_earlier : ℕ → ℕ → Bool
is_earlier count p = not (p == 0) && nat_le p count

-- whether the lines that a rule names are among so many
unfoldable pub are_earlier : ℕ → DerivationBody → Bool
are_earlier count body = list_all (is_earlier count) (premises_of body)

-- lines with one more, within the limit
abbrev pub add_fitting : List DerivationLine → DerivationLine → Result (List DerivationLine) Diagnostic
add_fitting before l = if nat_le MOST_NODES (length before) then Err too_many_lines else Ok (before ++ l ∷ [])

-- the same of a line that is numbered in its turn, and whose rule names earlier lines
unfoldable pub add_line : List DerivationLine → DerivationLine → Result (List DerivationLine) Diagnostic
add_line before l = if l.number == length before + 1
    then (if are_earlier (length before) l.body then add_fitting before l else Err no_such_line)
    else Err wrong_number

-- ---- a text
-- the lines after one of this kind, and whether a `yes` may still come
abbrev pub read_as : LineKind → Schema → Bool → ℕ → List DerivationLine → List ℕ
    → Result (Bool × List DerivationLine) Diagnostic
read_as Blank s fresh number before text = Ok (fresh, before)
read_as Opening s fresh number before text = Ok (false, before)
read_as Certificate s fresh number before text =
    in_line (derivation_line (names_of s) (rest_from number 1 (lex (mode.numbered (naming_of s)) text)))
    >>= λ l. add_line before l
    >>= λ next. Ok (false, next)

-- the lines after one of the text more, and whether a `yes` may still come
unfoldable pub read_one : Schema → Bool → ℕ → List DerivationLine → List ℕ
    → Result (Bool × List DerivationLine) Diagnostic
read_one s fresh number before text =
    read_as (line_kind fresh (lex (mode.numbered (naming_of s)) text)) s fresh number before text

-- the lines, or the end where there is none
unfoldable pub finished : ℕ → List DerivationLine → Result (List DerivationLine) LineDiagnostic
finished last [] = Err (diagnostic_at last empty_proof)
finished last (l ∷ ls) = Ok (l ∷ ls)

-- the lines before and those of these texts, of which the first has this number
unfoldable pub read_lines : Schema → Bool → ℕ → List DerivationLine → List (List ℕ)
    → Result (List DerivationLine) LineDiagnostic
read_lines s fresh number before [] = finished (number - 1) before
read_lines s fresh number before (text ∷ texts) =
    at_line number (read_one s fresh number before text)
    >>= λ next. read_lines s next.0 (number + 1) next.1 texts

-- the lines of a derivation, or the first diagnostic
unfoldable pub read_derivation : Schema → List ℕ → Result (List DerivationLine) LineDiagnostic
read_derivation s text = read_lines s true 1 [] (line_texts (without_mark text))
