-- What is printed of lines means the lines, with any rules where each line is printed so, and so with those of
-- certificates.
use Rattle.std.proofs.Common.{◌≡◌, ◌<◌, ℕ, Bool, true, false, ◌==◌, cond, not, List, [], ◌∷◌, ◌++◌, length, refl, sym, ◌∙◌, ap, subst, arith, append_assoc}
use Rattle.std.specs.Prelude.{codes, decimal, map, filter}
use Rattle.std.specs.List.{list_all, flat_map, AllZip}
use Rattle.std.specs.Char.{is_ascii_digit}
use Rattle.std.proofs.lemmas.Bool.{and_parts}
use Rattle.std.proofs.lemmas.Bool.Decides.{nat_tests}
use Rattle.schema_model.specs.declared.naming.Naming.{Naming}
use Rattle.lexer.specs.Modes as mode
use Rattle.lexer.specs.Lines.{without_mark, line_texts}
use Rattle.lexer.specs.Tokens.{Mark, lex}
use Rattle.schema_grammar.specs.declared.format.Format.TheVariants as format
use Rattle.schema_printer.specs.Printing.{lines_text}
use Rattle.schema_printer.specs.Spelling.{spelling}
use Rattle.schema_grammar.proofs.PrintedTexts.{EachBytes, lines_cut}
use Rattle.schema_grammar.proofs.SpelledWords.{nothing_left}
use Rattle.proof_grammar.specs.Lines.{NumberedLine, Body, Line}
use Rattle.proof_grammar.specs.Meanings.{certificate_lines, certificate_lines_of, without_yes, MeansLineBy, IsRule, MeanLines}
use Rattle.proof_grammar.specs.Printing.{certificate_line_text, certificate_lines_text}
use Rattle.proof_grammar.specs.Texts.{is_blank, is_yes}
use Rattle.schema_grammar.specs.Printed.{AreReadBack}
use Rattle.proof_grammar.specs.Printable.{ArePrintableLines}
use Rattle.proof_grammar.proofs.PrintedTokens.{keyword, decimal_is, parts_lexed}
use Rattle.proof_grammar.proofs.PrintedLines.{IsPrinted, line_printed}

-- ---- the lines of the text
-- each line is printed
abbrev pub EachPrinted : (B : Type 0) → (List (List ℕ) → List Mark → B → Type 0) → Naming → List (List ℕ)
    → (NumberedLine B → List ℕ) → List (NumberedLine B) → Type 0
EachPrinted B IsBody naming names line_text [] = Unit {0}
EachPrinted B IsBody naming names line_text (l ∷ ls) =
    IsPrinted B IsBody naming names line_text l × EachPrinted B IsBody naming names line_text ls

-- lines are printed as these texts, each in a line of its own
record ArePrinted (B : Type 0) (IsBody : List (List ℕ) → List Mark → B → Type 0) (naming : Naming)
    (names : List (List ℕ)) (line_text : NumberedLine B → List ℕ) (ls : List (NumberedLine B)) : Type 0 where
  texts : List (List ℕ)
  printed : flat_map line_text ls ≡ lines_text texts
  bytes : EachBytes texts
  mean : AllZip (MeansLineBy B IsBody naming names) texts ls
  unmarked : without_mark (lines_text texts) ≡ lines_text texts

-- a text that begins with digits begins with no byte-order mark
without_mark-digits : (word rest : List ℕ) → list_all is_ascii_digit word ≡ true → 0 < length word
    → without_mark (word ++ rest) ≡ word ++ rest
without_mark-digits [] rest e not_empty = absurd (omega arith)
without_mark-digits (b ∷ bs) rest e not_empty =
    let digit = (and_parts (is_ascii_digit b) (list_all is_ascii_digit bs) e).0 in
    let other : (239 == b) ≡ false = grind (arith, nat_tests) in rw other refl

lines_printed : {B : Type 0} (IsBody : List (List ℕ) → List Mark → B → Type 0) (naming : Naming)
    (names : List (List ℕ)) (line_text : NumberedLine B → List ℕ) (ls : List (NumberedLine B))
    → EachPrinted B IsBody naming names line_text ls → ArePrinted B IsBody naming names line_text ls
lines_printed IsBody naming names line_text [] each =
    record { texts = []; printed = refl; bytes = tt; mean = tt; unmarked = refl }
lines_printed IsBody naming names line_text (l ∷ ls) (here, rest) =
    let more = lines_printed IsBody naming names line_text ls rest in
    let is = decimal_is l.number here.number in
    record {
      texts = here.text ∷ more.texts;
      printed = rw here.printed (ap (λ t. (here.text ++ codes "\n") ++ t) more.printed);
      bytes = (here.bytes, more.bytes);
      mean = (here.means, more.mean);
      unmarked = rw here.begins
          (simp append_assoc (without_mark-digits (decimal l.number) _ is.digits is.not_empty));
    }

-- ---- the lines that count
none_blank : {B : Type 0} (IsBody : List (List ℕ) → List Mark → B → Type 0) (naming : Naming) (names : List (List ℕ))
    (ts : List (List ℕ)) (ls : List (NumberedLine B)) → AllZip (MeansLineBy B IsBody naming names) ts ls
    → filter (λ line. not (is_blank (lex (mode.numbered naming) line))) (ts ++ [] ∷ []) ≡ ts
none_blank IsBody naming names [] [] mean = rw (nothing_left (mode.numbered naming) 1) refl
none_blank IsBody naming names [] (l ∷ ls) mean = absurd mean
none_blank IsBody naming names (t ∷ ts) [] mean = absurd mean
none_blank IsBody naming names (t ∷ ts) (l ∷ ls) (here, rest) =
    rw (here.tokens, here.is_line.whole) (ap (λ ms. t ∷ ms) (none_blank IsBody naming names ts ls rest))

none_yes : {B : Type 0} (IsBody : List (List ℕ) → List Mark → B → Type 0) (naming : Naming) (names : List (List ℕ))
    (ts : List (List ℕ)) (ls : List (NumberedLine B)) → AllZip (MeansLineBy B IsBody naming names) ts ls
    → without_yes naming ts ≡ ts
unfolding is_yes
none_yes IsBody naming names [] [] mean = refl
none_yes IsBody naming names [] (l ∷ ls) mean = absurd mean
none_yes IsBody naming names (t ∷ ts) [] mean = absurd mean
none_yes IsBody naming names (t ∷ ts) (l ∷ ls) (here, rest) =
    rw (here.tokens, here.is_line.whole, here.is_line.is_number) refl

-- what may stand before them: the answer `yes` in a line of its own
abbrev pub answer_text : Bool → List ℕ
answer_text answered = cond answered (codes "yes\n") []

lines_kept : {B : Type 0} (answered : Bool) (IsBody : List (List ℕ) → List Mark → B → Type 0) (naming : Naming)
    (names : List (List ℕ)) (line_text : NumberedLine B → List ℕ) (ls : List (NumberedLine B))
    (are : ArePrinted B IsBody naming names line_text ls)
    → certificate_lines naming (answer_text answered ++ flat_map line_text ls) ≡ are.texts
unfolding is_yes
lines_kept false IsBody naming names line_text ls are =
    ap (certificate_lines naming) are.printed
    ∙ ap (λ t. certificate_lines_of naming (line_texts t)) are.unmarked
    ∙ ap (certificate_lines_of naming) (lines_cut are.texts are.bytes)
    ∙ ap (without_yes naming) (none_blank IsBody naming names are.texts ls are.mean)
    ∙ none_yes IsBody naming names are.texts ls are.mean
lines_kept true IsBody naming names line_text ls are =
    let yes = parts_lexed naming 1 (keyword (codes "yes")) [] refl tt in
    let cut : line_texts (codes "yes\n" ++ flat_map line_text ls) ≡ codes "yes" ∷ (are.texts ++ [] ∷ []) =
    ap (λ t. line_texts (codes "yes\n" ++ t)) are.printed ∙ lines_cut (codes "yes" ∷ are.texts) (refl, are.bytes) in
    ap (certificate_lines_of naming) cut ∙ (rw (yes, none_blank IsBody naming names are.texts ls are.mean, yes) refl)

-- the lines of what is printed mean what was printed
pub printed_lines_mean_by : {B : Type 0} (answered : Bool) (IsBody : List (List ℕ) → List Mark → B → Type 0)
    (naming : Naming) (names : List (List ℕ)) (line_text : NumberedLine B → List ℕ) (ls : List (NumberedLine B))
    → EachPrinted B IsBody naming names line_text ls
    → AllZip (MeansLineBy B IsBody naming names)
    (certificate_lines naming (answer_text answered ++ flat_map line_text ls)) ls
printed_lines_mean_by {B} answered IsBody naming names line_text ls each =
    let are = lines_printed IsBody naming names line_text ls each in
    let of : List (List ℕ) → Type 0 = λ ts. AllZip (MeansLineBy B IsBody naming names) ts ls in
    subst of (sym (lines_kept answered IsBody naming names line_text ls are)) are.mean

-- ---- those of certificates
each_printed : (naming : Naming) (names : List (List ℕ)) (ls : List Line) → AreReadBack format.Plain naming names
    → ArePrintableLines names ls
    → EachPrinted Body IsRule naming names (certificate_line_text (map (spelling naming) names)) ls
each_printed naming names [] are all = tt
each_printed naming names (l ∷ ls) are (here, rest) =
    (line_printed naming names l are here, each_printed naming names ls are rest)

pub printed_lines_mean : (answered : Bool) (naming : Naming) (names : List (List ℕ)) (ls : List Line)
    → AreReadBack format.Plain naming names → ArePrintableLines names ls
    → MeanLines naming names
    (certificate_lines naming (answer_text answered ++ certificate_lines_text (map (spelling naming) names) ls)) ls
printed_lines_mean answered naming names ls are all =
    printed_lines_mean_by answered IsRule naming names (certificate_line_text (map (spelling naming) names)) ls
    (each_printed naming names ls are all)
