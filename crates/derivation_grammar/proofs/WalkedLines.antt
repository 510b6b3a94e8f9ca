-- The reading of lines in their turn comes to them.
use Rattle.std.proofs.Common.{◌≡◌, ◌<◌, ◌≤◌, ◌+◌, ℕ, suc, Bool, false, List, [], ◌∷◌, ◌++◌, length, refl, sym, ◌∙◌, ap, subst, arith, length-append, append_assoc}
use Rattle.std.proofs.lemmas.List.{append-nil}
use Rattle.schema_model.specs.Schemas.{Schema}
use Rattle.schema_model.specs.Schemas.{names_of, naming_of}
use Rattle.derivation.specs.declared.measures.TheConstants.{MOST_NODES}
use Rattle.lexer.specs.Modes as mode
use Rattle.lexer.specs.Tokens.{lex}
use Rattle.proof_grammar.specs.declared.line_kind.LineKind.{LineKind}
use Rattle.proof_grammar.specs.declared.line_kind.LineKind.TheVariants.{Blank, Opening, Certificate}
use Rattle.proof_grammar.specs.Texts.{line_kind}
use Rattle.proof_grammar.proofs.CountedLines.{lines_to_read, Counts, kind_counts, nothing_counts}
use Rattle.derivation_grammar.specs.Lines.{DerivationLine}
use Rattle.derivation_grammar.specs.Meanings.{MeanDerivationLines, AreInTurn}
use Rattle.derivation_grammar.specs.Texts.{read_one, read_lines}
use Rattle.derivation_grammar.proofs.AddedLines.{turned_added}
use Rattle.derivation_grammar.proofs.LineLaws.{line_back}

-- the reading of texts and of those after them comes to the latter, after the lines of the former
pub record IsWalked (s : Schema) (fresh : Bool) (number : ℕ) (before : List DerivationLine) (texts after : List (List ℕ))
    (lines : List DerivationLine) : Type 0 where
  pub still : Bool
  pub counts : (rest : List (List ℕ))
      → lines_to_read (naming_of s) fresh (texts ++ rest) ≡ lines_to_read (naming_of s) fresh texts ++ lines_to_read (naming_of s) still rest
  pub same : read_lines s fresh number before (texts ++ after)
      ≡ read_lines s still (number + length texts) (before ++ lines) after

abbrev pub Walks : Schema → List (List ℕ) → List (List ℕ) → Type 0
Walks s texts after =
    (fresh : Bool) (number : ℕ) (before : List DerivationLine) (lines : List DerivationLine)
    → MeanDerivationLines (naming_of s) (names_of s) (lines_to_read (naming_of s) fresh texts) lines
    → AreInTurn (length before) lines
    → length before + length lines ≤ MOST_NODES → IsWalked s fresh number before texts after lines

-- one line of the text earlier
walk_more : (k : LineKind) (s : Schema) (here : List ℕ) (texts after : List (List ℕ)) (fresh : Bool) (number : ℕ)
    (before : List DerivationLine) (lines : List DerivationLine) → line_kind fresh (lex (mode.numbered (naming_of s)) here) ≡ k
    → Counts (naming_of s) k fresh here → Walks s texts after
    → MeanDerivationLines (naming_of s) (names_of s) (lines_to_read (naming_of s) fresh (here ∷ texts)) lines → AreInTurn (length before) lines
    → length before + length lines ≤ MOST_NODES → IsWalked s fresh number before (here ∷ texts) after lines
unfolding read_lines read_one
walk_more Blank s here texts after fresh number before lines is counts on mean turned fit =
    let of : List (List ℕ) → Type 0 = λ ls. MeanDerivationLines (naming_of s) (names_of s) ls lines in
    let w = on fresh (number + 1) before lines (subst of (counts texts) mean) turned fit in
    let size : number + 1 + length texts ≡ number + suc (length texts) = omega arith in
    record {
      still = w.still;
      counts = λ rest. counts (texts ++ rest) ∙ w.counts rest
          ∙ ap (λ (ls : List (List ℕ)). ls ++ lines_to_read (naming_of s) w.still rest) (sym (counts texts));
      same = rw is (w.same ∙ ap (λ n. read_lines s w.still n (before ++ lines) after) size);
    }
walk_more Opening s here texts after fresh number before lines is counts on mean turned fit =
    let of : List (List ℕ) → Type 0 = λ ls. MeanDerivationLines (naming_of s) (names_of s) ls lines in
    let w = on false (number + 1) before lines (subst of (counts texts) mean) turned fit in
    let size : number + 1 + length texts ≡ number + suc (length texts) = omega arith in
    record {
      still = w.still;
      counts = λ rest. counts (texts ++ rest) ∙ w.counts rest
          ∙ ap (λ (ls : List (List ℕ)). ls ++ lines_to_read (naming_of s) w.still rest) (sym (counts texts));
      same = rw is (w.same ∙ ap (λ n. read_lines s w.still n (before ++ lines) after) size);
    }
walk_more Certificate s here texts after fresh number before [] is counts on mean turned fit =
    absurd (subst (λ (ls : List (List ℕ)). MeanDerivationLines (naming_of s) (names_of s) ls []) (counts texts) mean)
walk_more Certificate s here texts after fresh number before (l ∷ lines) is counts on mean turned fit =
    let of : List (List ℕ) → Type 0 = λ ls. MeanDerivationLines (naming_of s) (names_of s) ls (l ∷ lines) in
    let means = subst of (counts texts) mean in
    let next = before ++ l ∷ [] in
    let room : length before < MOST_NODES = omega (arith, fit) in
    let grown : length before + 1 ≡ length next = omega (arith, length-append before (l ∷ [])) in
    let w = on false (number + 1) next lines means.1 (subst (λ n. AreInTurn n lines) grown turned.1)
    (omega (arith, fit, length-append before (l ∷ []))) in
    let size : number + 1 + length texts ≡ number + suc (length texts) = omega arith in
    let whole : next ++ lines ≡ before ++ l ∷ lines =
    append_assoc before (l ∷ []) lines in
    record {
      still = w.still;
      counts = λ rest. counts (texts ++ rest)
          ∙ ap (λ (ls : List (List ℕ)). here ∷ ls) (w.counts rest)
          ∙ ap (λ (ls : List (List ℕ)). ls ++ lines_to_read (naming_of s) w.still rest) (sym (counts texts));
      same = rw (is, line_back (naming_of s) (names_of s) number here l means.0, turned_added before l turned.0 room)
          (w.same
          ∙ ap (λ n. read_lines s w.still n (next ++ lines) after) size
          ∙ ap (λ (ds : List DerivationLine). read_lines s w.still (number + suc (length texts)) ds after) whole);
    }

pub walk : (s : Schema) (texts after : List (List ℕ)) → Walks s texts after
walk s [] after fresh number before [] mean turned fit =
    let size : number ≡ number + 0 = omega arith in
    record {
      still = fresh;
      counts = λ rest. ap (λ (ls : List (List ℕ)). ls ++ lines_to_read (naming_of s) fresh rest) (sym (nothing_counts (naming_of s) fresh));
      same = ap (λ n. read_lines s fresh n before after) size
          ∙ ap (λ (ds : List DerivationLine). read_lines s fresh (number + 0) ds after) (sym (append-nil before));
    }
walk s [] after fresh number before (l ∷ lines) mean turned fit =
    absurd (subst (λ (ls : List (List ℕ)). MeanDerivationLines (naming_of s) (names_of s) ls (l ∷ lines)) (nothing_counts (naming_of s) fresh) mean)
walk s (here ∷ texts) after fresh number before lines mean turned fit =
    walk_more (line_kind fresh (lex (mode.numbered (naming_of s)) here)) s here texts after fresh number before lines refl
    (kind_counts (naming_of s) fresh here _ refl) (walk s texts after) mean turned fit
