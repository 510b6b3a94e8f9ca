-- A printed text is cut into the lines that were printed.
use Rattle.std.proofs.Common.{◌≡◌, ◌-◌, ℕ, Bool, true, false, ◌==◌, ◌&&◌, not, List, [], ◌∷◌, ◌++◌, length, drop, refl, ◌∙◌, ap, arith, append_assoc, nat_eq}
use lib.Pointwise.{pointwise}
use Rattle.std.specs.List.{list_all, slice_split, ends_with}
use Rattle.std.proofs.lemmas.Bool.Decides.{nat_tests}
use Rattle.std.proofs.lemmas.List.Elements.{All-drop}
use Rattle.std.proofs.lemmas.List.Folds.{list_all-append}
use Rattle.std.proofs.lemmas.List.Sums.{AllPass-from_list_all, list_all-from_AllPass}
use Rattle.std.proofs.lemmas.List.Splits.{slice_split_at}
use Rattle.std.proofs.lemmas.Bool.{and_parts}
use Rattle.schema_model.specs.Names.{is_bare_name, is_name_byte}
use Rattle.lexer.specs.Lines.{is_line_feed, line_texts, without_return, without_returns}
use Rattle.schema_printer.specs.Printing.{words_text, lines_text}
use Rattle.schema_grammar.proofs.PrintedLexing.{AllNames, named_parts}

-- a byte of a printed line
abbrev pub is_line_byte : ℕ → Bool
is_line_byte b = not (b == 10) && not (b == 13)

abbrev pub Bytes : List ℕ → Type 0
Bytes line = list_all is_line_byte line ≡ true

pub bytes_both : (xs ys : List ℕ) → Bytes xs → Bytes ys → Bytes (xs ++ ys)
bytes_both xs ys h g = list_all-append is_line_byte xs ys ∙ (rw (h, g) refl)

pub proper_bytes : (word : List ℕ) → is_bare_name word ≡ true → Bytes word
proper_bytes [] e = refl
proper_bytes (first ∷ others) e = list_all-from_AllPass is_line_byte (first ∷ others) (λ k d h.
    let byte = AllPass-from_list_all is_name_byte (first ∷ others)
    (named_parts first others e).bytes k d h in grind (arith, nat_tests))

pub words_bytes : (words : List (List ℕ)) → AllNames words → Bytes (words_text words)
words_bytes [] names = refl
words_bytes (word ∷ words) (here, rest) = bytes_both (32 ∷ word) (words_text words) (proper_bytes word here) (words_bytes words rest)

-- printed lines are cut where they end
abbrev pub EachBytes : List (List ℕ) → Type 0
EachBytes [] = Unit {0}
EachBytes (line ∷ lines) = Bytes line × EachBytes lines

split_lines : (lines : List (List ℕ)) → EachBytes lines → slice_split is_line_feed (lines_text lines) ≡ lines ++ [] ∷ []
split_lines [] each = refl
split_lines (line ∷ lines) (here, rest) =
    let cut : lines_text (line ∷ lines) ≡ line ++ 10 ∷ lines_text lines = append_assoc line (10 ∷ []) (lines_text lines) in
    let all = AllPass-from_list_all is_line_byte line here in
    ap (slice_split is_line_feed) cut
    ∙ slice_split_at is_line_feed line 10 (lines_text lines)
    (λ k d h. let byte = all k d h in grind (arith, nat_tests)) refl
    ∙ ap (λ t. line ∷ t) (split_lines lines rest)

not_return : (line : List ℕ) → Bytes line → pointwise nat_eq (13 ∷ []) line ≡ false
not_return [] e = refl
not_return (b ∷ bs) e =
    let byte = (and_parts (is_line_byte b) (list_all is_line_byte bs) e).0 in
    let other : (13 == b) ≡ false = grind (arith, nat_tests) in rw other refl

without_return-line : (line : List ℕ) → Bytes line → without_return line ≡ line
without_return-line line e =
    let last = drop (length line - 1) line in
    let bytes = list_all-from_AllPass is_line_byte last
    (All-drop (λ b. is_line_byte b ≡ true) (length line - 1) line
    (AllPass-from_list_all is_line_byte line e)) in
    let none : ends_with nat_eq line (13 ∷ []) ≡ false = not_return last bytes in rw none refl

without_returns-lines : (lines : List (List ℕ)) → EachBytes lines → without_returns (lines ++ [] ∷ []) ≡ lines ++ [] ∷ []
without_returns-lines [] each = refl
without_returns-lines (line ∷ []) (here, rest) = rw (without_return-line line here) refl
without_returns-lines (line ∷ next ∷ lines) (here, rest) = rw (without_return-line line here) (ap (λ t. line ∷ t) (without_returns-lines (next ∷ lines) rest))

pub lines_cut : (lines : List (List ℕ)) → EachBytes lines → line_texts (lines_text lines) ≡ lines ++ [] ∷ []
unfolding line_texts
lines_cut lines each = ap without_returns (split_lines lines each) ∙ without_returns-lines lines each
