-- Words and quoted names are read alike.
use Rattle.std.proofs.Common.{◌≡◌, ℕ, Bool, true, false, List, Ok, Err, refl}
use Rattle.lexer.specs.declared.token.TokenKind.{TokenKind}
use Rattle.lexer.specs.declared.token.TokenKind.TheVariants as token
use Rattle.schema_grammar.specs.declared.line_kind.Purpose.{Purpose}
use Rattle.schema_grammar.specs.declared.refusal.SchemaRefusalKind.TheVariants as kind
use Rattle.schema_grammar.specs.declared.symbol.Symbol.TheVariants as symbol
use Rattle.schema_grammar.specs.declared.format.Format.{Format}
use Rattle.schema_grammar.specs.Declarations.{Declarations, take_name, name_step, what_after_names}
use Rattle.schema_grammar.specs.Reading.{symbol_of}
use Rattle.schema_grammar.specs.Rests.{◌>>=◌}
use Rattle.schema_grammar.specs.Words.{is_word_token, look_up}

pub symbol_of-word : (f : Format) (declared : List (List ℕ)) (k : TokenKind) (word : List ℕ) → is_word_token k ≡ true
    → symbol_of f declared k word ≡ (look_up f declared k word >>= (λ a. Ok (symbol.Attribute a)))
symbol_of-word f declared token.Identifier word e = refl
symbol_of-word f declared token.Quoted word e = refl
symbol_of-word f declared k word e = cc

pub name_step-word : (f : Format) (p : Purpose) (d : Declarations) (not_empty : Bool) (k : TokenKind) (word : List ℕ)
    → is_word_token k ≡ true → name_step f p d not_empty k word ≡ take_name f p d k word
name_step-word f p d not_empty token.Identifier word e = refl
name_step-word f p d not_empty token.Quoted word e = refl
name_step-word f p d not_empty k word e = cc

pub name_step-other : (f : Format) (p : Purpose) (d : Declarations) (not_empty : Bool) (k : TokenKind) (word : List ℕ)
    → is_word_token k ≡ false → name_step f p d not_empty k word ≡ Err (kind.Expected (what_after_names not_empty))
name_step-other f p d not_empty token.Identifier word e = cc
name_step-other f p d not_empty token.Quoted word e = cc
name_step-other f p d not_empty k word e = refl
