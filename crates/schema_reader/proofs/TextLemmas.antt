-- To read the lines that are left is to read the whole text, and its first line with tokens by what
-- comes next on it.
use Rattle.std.proofs.Common.{◌≡◌, ◌<◌, ◌≤◌, ◌+◌, ◌^◌, ℕ, true, false, List, [], ◌∷◌, length, Result, ap, sym, refl, arith}
use Rattle.attr_sets.specs.declared.set.TheConstants.{MOST_ATTRIBUTES}
use Rattle.schema_model.specs.declared.naming.Naming.TheVariants.{Bare}
use Rattle.lexer.specs.Modes as mode
use Rattle.lexer.specs.Lines.{line_texts}
use Rattle.lexer.specs.Tokens.{Mark, lex}
use Rattle.schema_grammar.proofs.SoundLemmas.{IsSound}
use Rattle.schema_grammar.specs.declared.format.Format.{Format}
use Rattle.schema_grammar.specs.declared.format.Format.TheVariants as format
use Rattle.schema_grammar.specs.declared.refusal.SchemaRefusal.{SchemaRefusal}
use Rattle.schema_grammar.specs.Declarations.{Declarations, no_declaration}
use Rattle.schema_grammar.specs.Rests.{Rest, rest_from}
use Rattle.schema_grammar.specs.Texts.{finish, is_version, opening_from, read_all, read_lines, read_opening, read_versioned}
use Rattle.schema_reader.specs.declared.text.TheConstants.{MOST_TEXT_BYTES}
use Rattle.tokens.specs.Views.{HasEnded, IsStopped, IsLed}

-- to read the lines that are left is to read all of them
pub record Reads (f : Format) (first : ℕ) (text : List ℕ) (d : Declarations) (number : ℕ) (rest : List ℕ) : Type 0 where
  pub same : read_all f first (line_texts text) ≡ read_lines f number d (line_texts rest)
  pub sound : IsSound f d
  pub within_limit : length d.names ≤ MOST_ATTRIBUTES
  pub room : number + length rest < 2 ^ 31

-- only lines without tokens stand before what is left
pub record Opens (text : List ℕ) (number : ℕ) (rest : List ℕ) : Type 0 where
  pub same : read_opening 1 (line_texts text) ≡ read_opening number (line_texts rest)
  pub room : number + length rest ≤ MOST_TEXT_BYTES + 1

-- ---- the first line with tokens
abbrev pub opening_rest : List ℕ → List (List ℕ) → Rest → Result Declarations SchemaRefusal
opening_rest line lines r = opening_from r.line line lines (read_opening (r.line + 1) lines) r.marks r.stop

pub opening_whole_line : (number : ℕ) (text line : List ℕ) (lines : List (List ℕ)) (r : Rest) → line_texts text ≡ line ∷ lines
    → r ≡ rest_from number 1 (lex (mode.numbered Bare) line) → read_opening number (line_texts text) ≡ opening_rest line lines r
unfolding read_opening
opening_whole_line number text line lines r cut whole = rw cut (ap (opening_rest line lines) (sym whole))

pub opening_ended : (line : List ℕ) (lines : List (List ℕ)) (r : Rest) → HasEnded r → opening_rest line lines r ≡ read_opening (r.line + 1) lines
opening_ended line lines r ended = rw (ended.marks, ended.stop) refl

pub opening_stopped : (line : List ℕ) (lines : List (List ℕ)) (r : Rest) (e : SchemaRefusal) → IsStopped r e
    → opening_rest line lines r ≡ read_all format.Plain r.line (line ∷ lines)
opening_stopped line lines r e stopped = rw (stopped.marks, stopped.stop) refl

pub opening_typed : (line : List ℕ) (lines : List (List ℕ)) (r : Rest) (m : Mark) (after : Rest) → IsLed r m after
    → is_version m.kind m.word ≡ true → opening_rest line lines r ≡ read_versioned lines after
opening_typed line lines r m after led version = rw (led.marks, version, led.stop, ← led.line, ← led.column) refl

pub opening_plain : (line : List ℕ) (lines : List (List ℕ)) (r : Rest) (m : Mark) (after : Rest) → IsLed r m after
    → is_version m.kind m.word ≡ false → opening_rest line lines r ≡ read_all format.Plain r.line (line ∷ lines)
opening_plain line lines r m after led other = rw (led.marks, other) refl

pub opening_last : (last : ℕ) → read_opening (last + 1) [] ≡ finish last (no_declaration Bare)
unfolding read_opening
opening_last last = ap (λ n. finish n (no_declaration Bare)) (omega arith)
