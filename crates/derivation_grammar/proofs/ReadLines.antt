-- A derivation after some lines of its text: what they mean.
use Rattle.std.proofs.Common.{◌≡◌, ◌<◌, ◌+◌, ℕ, Bool, true, false, List, [], ◌∷◌, ◌++◌, length, refl, sym, subst, arith, length-append}
use Rattle.std.proofs.lemmas.Slice.Zip.{all_zipped_more}
use Rattle.schema_model.specs.Schemas.{Schema}
use Rattle.schema_model.specs.Schemas.{names_of, naming_of}
use Rattle.derivation.specs.declared.measures.TheConstants.{MOST_NODES}
use Rattle.proof_grammar.specs.declared.line_kind.LineKind.TheVariants.{Certificate}
use Rattle.proof_grammar.specs.Meanings.{certificate_lines_of}
use Rattle.proof_grammar.proofs.CountedLines.{lines_to_read, Counts, CountOn, same_lines, count_past, one_line_more, count_after}
use Rattle.derivation_grammar.specs.Lines.{DerivationLine}
use Rattle.derivation_grammar.specs.Meanings.{MeansDerivationLine, MeanDerivationLines, IsInTurn, AreInTurn}
use Rattle.derivation_grammar.specs.Refusals.{AreRead}

-- ---- lines one after another
pub turned_push : (count : ℕ) (lines : List DerivationLine) (l : DerivationLine) → AreInTurn count lines
    → IsInTurn (count + length lines) l → AreInTurn count (lines ++ l ∷ [])
turned_push count [] l are is =
    let size : count + 0 ≡ count = omega arith in (subst (λ n. IsInTurn n l) size is, tt)
turned_push count (k ∷ ks) l are is =
    let size : count + length (k ∷ ks) ≡ count + 1 + length ks = omega arith in
    (are.0, turned_push (count + 1) ks l are.1 (subst (λ n. IsInTurn n l) size is))

-- ---- after some lines
pub record HasRead (s : Schema) (before : List (List ℕ)) (fresh : Bool) (lines : List DerivationLine) : Type 0 where
  pub counts : CountOn (naming_of s) before fresh
  pub mean : MeanDerivationLines (naming_of s) (names_of s) (certificate_lines_of (naming_of s) before) lines
  pub read : AreRead lines

pub at_start : (s : Schema) → HasRead s [] true []
at_start s = record {
  counts = λ more. refl;
  mean = tt;
  read = record { in_turn = tt; lines_fit = omega arith };
}

-- a line that does not count
pub line_passed_over : (s : Schema) (before : List (List ℕ)) (fresh next : Bool) (lines : List DerivationLine)
    (here : List ℕ) → HasRead s before fresh lines
    → ((more : List (List ℕ)) → lines_to_read (naming_of s) fresh (here ∷ more) ≡ lines_to_read (naming_of s) next more)
    → HasRead s (before ++ here ∷ []) next lines
line_passed_over s before fresh next lines here afterwards skips = record {
  counts = count_past (naming_of s) before fresh here afterwards.counts next skips;
  mean = subst (λ (ls : List (List ℕ)). MeanDerivationLines (naming_of s) (names_of s) ls lines)
      (sym (same_lines (naming_of s) before fresh here afterwards.counts next skips)) afterwards.mean;
  read = afterwards.read;
}

-- a line is added
pub one_more : (s : Schema) (before : List (List ℕ)) (fresh : Bool) (lines : List DerivationLine) (here : List ℕ)
    (l : DerivationLine) → HasRead s before fresh lines → Counts (naming_of s) Certificate fresh here
    → MeansDerivationLine (naming_of s) (names_of s) here l → IsInTurn (length lines) l
    → length lines < MOST_NODES → HasRead s (before ++ here ∷ []) false (lines ++ l ∷ [])
one_more s before fresh lines here l afterwards counts means is fits =
    let so_far = certificate_lines_of (naming_of s) before in
    let whole = one_line_more (naming_of s) before fresh here afterwards.counts counts in
    let size : 0 + length lines ≡ length lines = omega arith in
    record {
      counts = count_after (naming_of s) before fresh here afterwards.counts counts;
      mean = subst (λ (ls : List (List ℕ)). MeanDerivationLines (naming_of s) (names_of s) ls (lines ++ l ∷ [])) (sym whole)
          (all_zipped_more (MeansDerivationLine (naming_of s) (names_of s)) so_far lines here l afterwards.mean means);
      read = record {
        in_turn = turned_push 0 lines l afterwards.read.in_turn (subst (λ n. IsInTurn n l) (sym size) is);
        lines_fit = omega (arith, fits, length-append lines (l ∷ []));
      };
    }
