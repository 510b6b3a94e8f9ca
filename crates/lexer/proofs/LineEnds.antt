-- What a cut says of the lines of a text, by whether there is a text after the line.
use Rattle.std.proofs.Common.{◌≡◌, ℕ, List, ◌∷◌, Option, Some, None, subst}
use denote.Ref.{Bor}
use Rattle.lexer.specs.Lines.{line_texts, lines_after, CutsAt, CutsLine, IsLastLine}

pub CutsAt-any : (text line : List ℕ) (after : Option (Bor (List ℕ))) → CutsLine text line after → line_texts text ≡ line ∷ lines_after after
CutsAt-any text line None cut = cut.lines
CutsAt-any text line (Some after) cut = cut.lines

pub cut_last : (text line : List ℕ) (after : Option (Bor (List ℕ))) → after ≡ None → CutsLine text line after → IsLastLine text line
cut_last text line after e cut = let at : Option (Bor (List ℕ)) → Type 0 = λ o. CutsLine text line o in subst at e cut

pub cut_more : (text line : List ℕ) (after : Option (Bor (List ℕ))) (lines : Bor (List ℕ)) → after ≡ Some lines → CutsLine text line after → CutsAt text line lines.now
cut_more text line after lines e cut = let at : Option (Bor (List ℕ)) → Type 0 = λ o. CutsLine text line o in subst at e cut
