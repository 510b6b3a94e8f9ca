-- What words add to a side, and what a word stands for.
use Rattle.std.proofs.Common.{◌≡◌, ℕ, false, List, ◌∷◌, Some, ap, ◌||◌, ◌==◌}
use mathlib.Core.Path.{fun_ext}
use Rattle.std.proofs.Math.Bool.{or_assoc, or-false}
use Rattle.attr_sets.specs.Attributes.{Attributes, only, none, union}
use Rattle.schema_model.specs.Schemas.{attribute_named}
use Rattle.lexer.specs.declared.token.TokenKind.{TokenKind}
use Rattle.lexer.specs.Tokens.{Mark}
use Rattle.schema_grammar.specs.declared.format.Format.{Format}
use Rattle.schema_grammar.specs.Meanings.{is_at, attributes_of_words}
use Rattle.schema_grammar.specs.Words.{is_reserved_token}

-- more attributes after a set
pub union-only : (x y : Attributes) (a : ℕ) → union (union x (only a)) y ≡ union x (union (only a) y)
union-only x y a = fun_ext (λ k. or_assoc (x k) (k == a) (y k))

pub union-none : (x : Attributes) (y : Attributes) → y ≡ none → union x y ≡ x
union-none x y e = rw e (fun_ext (λ k. or-false (x k)))

pub attributes_of_words-cons : (declared : List (List ℕ)) (m : Mark) (ms : List Mark) (a : ℕ) → attribute_named declared m.word ≡ Some a → attributes_of_words declared (m ∷ ms) ≡ union (only a) (attributes_of_words declared ms)
attributes_of_words-cons declared m ms a e = fun_ext (λ k. ap (λ o. is_at o k || attributes_of_words declared ms k) e)

-- what a word or a quoted name stands for
pub record Names (f : Format) (declared : List (List ℕ)) (k : TokenKind) (word : List ℕ) (a : ℕ) : Type 0 where
  pub not_reserved : is_reserved_token f k word ≡ false
  pub lookup : attribute_named declared word ≡ Some a
