-- What a token is of which a test says so: for the grammars.
use Rattle.std.proofs.Common.{◌≡◌, true, refl}
use Rattle.lexer.specs.declared.token.TokenKind.{TokenKind}
use Rattle.lexer.specs.declared.token.TokenKind.TheVariants as token
use Rattle.lexer.specs.Tokens.{is_colon}

pub colon_kind : (k : TokenKind) → is_colon k ≡ true → k ≡ token.Colon
colon_kind token.Colon e = refl
colon_kind _ e = cc
