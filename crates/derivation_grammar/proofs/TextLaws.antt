-- A text is read exactly as the lines of which it is a derivation, and refused exactly as the definition says.
use Rattle.std.proofs.Common.{◌≡◌, ◌⊎◌, inl, inr, ◌<◌, ◌+◌, ◌-◌, ℕ, Bool, true, false, List, [], ◌∷◌, ◌++◌, length, Result, Ok, Err, refl, sym, ◌∙◌, ap, subst, arith, length-append, append_assoc}
use Rattle.std.specs.Prelude.{◌↔◌}
use Rattle.std.proofs.lemmas.List.{append-nil}
use Rattle.schema_model.specs.Schemas.{Schema}
use Rattle.schema_model.specs.Schemas.{names_of, naming_of}
use Rattle.lexer.specs.Modes as mode
use Rattle.lexer.specs.Lines.{line_texts, without_mark}
use Rattle.lexer.specs.Tokens.{lex}
use Rattle.schema_grammar.specs.declared.refusal.SchemaRefusal.{SchemaRefusal}
use Rattle.schema_grammar.specs.Rests.{rest_from, ◌>>=◌}
use Rattle.proof_grammar.specs.declared.line_kind.LineKind.{LineKind}
use Rattle.proof_grammar.specs.declared.line_kind.LineKind.TheVariants.{Blank, Opening, Certificate}
use Rattle.proof_grammar.specs.declared.refusal.ProofRefusal.{ProofRefusal}
use Rattle.proof_grammar.specs.CheckerStates.{diagnostic_at}
use Rattle.proof_grammar.specs.Diagnostics.{Diagnostic, LineDiagnostic, line_diagnostic_of, IsFoundAt}
use Rattle.proof_grammar.specs.Meanings.{certificate_lines_of, certificate_lines}
use Rattle.proof_grammar.specs.Refusals.{StandsAt}
use Rattle.proof_grammar.specs.Texts.{line_kind, in_line, at_line}
use Rattle.proof_grammar.proofs.CountedLines.{lines_to_read, Counts, kind_counts, nothing_counts, one_line_more}
use Rattle.derivation_grammar.specs.Lines.{DerivationLine, derivation_line}
use Rattle.derivation_grammar.specs.Meanings.{MeansDerivationLine, MeanDerivationLines, MeansDerivation}
use Rattle.derivation_grammar.specs.Refusals.{AreRead, IsBadLine, IsWrongLine, IsRefusedDerivation, RefusesDerivation}
use Rattle.derivation_grammar.specs.Texts.{add_line, read_as, read_one, finished, read_lines, read_derivation}
use Rattle.derivation_grammar.proofs.AddedLines.{Adds, adds, refused_added}
use Rattle.derivation_grammar.proofs.LineLaws.{line_there, line_back}
use Rattle.derivation_grammar.proofs.LineRefusals as refusals
use Rattle.derivation_grammar.proofs.ReadLines.{HasRead, at_start, line_passed_over, one_more}
use Rattle.derivation_grammar.proofs.WalkedLines.{walk}

-- ---- what is read
abbrev pub TextFits : Schema → List ℕ → Result (List DerivationLine) LineDiagnostic → Type 0
TextFits s text (Ok lines) = MeansDerivation s text lines
TextFits s text (Err e) = IsRefusedDerivation s text e

-- lines, after which no `yes` may come
abbrev without_more_yes : Result (List DerivationLine) Diagnostic → Result (Bool × List DerivationLine) Diagnostic
without_more_yes r = r >>= λ next. Ok (false, next)

-- what is read of a line and those after it
abbrev read_from : Schema → ℕ → List (List ℕ) → Result (Bool × List DerivationLine) Diagnostic
    → Result (List DerivationLine) LineDiagnostic
read_from s number texts r = at_line number r >>= λ next. read_lines s next.0 (number + 1) next.1 texts

abbrev FitsOn : Schema → List ℕ → ℕ → List (List ℕ) → Type 0
FitsOn s text number texts =
    (before : List (List ℕ)) (fresh : Bool) (lines : List DerivationLine) → line_texts (without_mark text) ≡ before ++ texts
    → number ≡ length before + 1 → HasRead s before fresh lines
    → TextFits s text (read_lines s fresh number lines texts)

no_texts : (s : Schema) (texts : List (List ℕ)) → MeanDerivationLines (naming_of s) (names_of s) texts [] → texts ≡ []
no_texts s [] mean = refl
no_texts s (t ∷ ts) mean = absurd mean

end_fits : (s : Schema) (text : List ℕ) (fresh : Bool) (lines : List DerivationLine) (number : ℕ)
    → number ≡ length (line_texts (without_mark text))
    → HasRead s (line_texts (without_mark text)) fresh lines
    → TextFits s text (finished number lines)
unfolding finished
end_fits s text fresh [] number count afterwards =
    inr (record { none = no_texts s (certificate_lines (naming_of s) text) afterwards.mean; at = count; is = refl })
end_fits s text fresh (l ∷ ls) number count afterwards = record {
  mean = afterwards.mean;
  in_turn = afterwards.read.in_turn;
  some = omega arith;
  lines_fit = afterwards.read.lines_fit;
}

line_fits : (k : LineKind) (s : Schema) (text : List ℕ) (number : ℕ) (here : List ℕ) (texts before : List (List ℕ))
    (fresh : Bool) (lines : List DerivationLine) → line_texts (without_mark text) ≡ before ++ here ∷ texts
    → number ≡ length before + 1 → HasRead s before fresh lines → Counts (naming_of s) k fresh here
    → FitsOn s text (number + 1) texts
    → TextFits s text (read_from s number texts (read_as k s fresh number lines here))
line_fits Blank s text number here texts before fresh lines cut count afterwards counts on =
    on (before ++ here ∷ []) fresh lines (cut ∙ sym (append_assoc before (here ∷ []) texts))
    (omega (arith, count, length-append before (here ∷ [])))
    (line_passed_over s before fresh fresh lines here afterwards counts)
line_fits Opening s text number here texts before fresh lines cut count afterwards counts on =
    on (before ++ here ∷ []) false lines (cut ∙ sym (append_assoc before (here ∷ []) texts))
    (omega (arith, count, length-append before (here ∷ [])))
    (line_passed_over s before fresh false lines here afterwards counts)
line_fits Certificate s text number here texts before fresh lines cut count afterwards counts on =
    by_cases (derivation_line (names_of s) (rest_from number 1 (lex (mode.numbered (naming_of s)) here))) refl
  where
    stands : StandsAt (naming_of s) text before here number
    stands = record {
      after = texts;
      cut = cut;
      number = count;
      counts = one_line_more (naming_of s) before fresh here afterwards.counts counts;
    }

    by_added : (l : DerivationLine) → MeansDerivationLine (naming_of s) (names_of s) here l
        → (r : Result (List DerivationLine) Diagnostic) → Adds lines l r
        → TextFits s text (read_from s number texts (without_more_yes r))
    by_added l means (Err c) first = inl (record {
      before = before;
      here = here;
      stands = stands;
      lines = lines;
      mean = afterwards.mean;
      read = afterwards.read;
      why = inr (record { line = l; means = means; wrong = first });
    })
    by_added l means (Ok next) is =
        subst (λ (ls : List DerivationLine). TextFits s text (read_lines s false (number + 1) ls texts)) (sym is.2)
        (on (before ++ here ∷ []) false (lines ++ l ∷ []) (cut ∙ sym (append_assoc before (here ∷ []) texts))
        (omega (arith, count, length-append before (here ∷ [])))
        (one_more s before fresh lines here l afterwards counts means is.0 is.1))

    by_cases : (r : Result DerivationLine SchemaRefusal)
        → derivation_line (names_of s) (rest_from number 1 (lex (mode.numbered (naming_of s)) here)) ≡ r
        → TextFits s text (read_from s number texts (in_line r >>= λ l. without_more_yes (add_line lines l)))
    by_cases (Err refusal) grammar = inl (record {
      before = before;
      here = here;
      stands = stands;
      lines = lines;
      mean = afterwards.mean;
      read = afterwards.read;
      why = inl (record {
        refusal = refusal;
        grammar = (refusals.refusal_law (naming_of s) (names_of s) number here refusal).0 grammar;
        is = refl;
      });
    })
    by_cases (Ok l) grammar =
        by_added l (line_there (naming_of s) (names_of s) number here l grammar) (add_line lines l) (adds lines l)

all_lines_fit : (s : Schema) (text : List ℕ) (number : ℕ) (texts : List (List ℕ)) → FitsOn s text number texts
unfolding read_lines read_one
all_lines_fit s text number [] before fresh lines cut count afterwards =
    let whole : line_texts (without_mark text) ≡ before = cut ∙ append-nil before in
    end_fits s text fresh lines (number - 1) (omega (arith, count, ap length whole))
    (subst (λ (ls : List (List ℕ)). HasRead s ls fresh lines) (sym whole) afterwards)
all_lines_fit s text number (here ∷ texts) before fresh lines cut count afterwards =
    line_fits (line_kind fresh (lex (mode.numbered (naming_of s)) here)) s text number here texts before fresh lines cut count afterwards
    (kind_counts (naming_of s) fresh here _ refl) (all_lines_fit s text (number + 1) texts)

pub text_fits : (s : Schema) (text : List ℕ) → TextFits s text (read_derivation s text)
unfolding read_derivation
text_fits s text = all_lines_fit s text 1 (line_texts (without_mark text)) [] true [] refl refl (at_start s)

-- ---- back
finished_some : (number : ℕ) (lines : List DerivationLine) → 0 < length lines → finished number lines ≡ Ok lines
unfolding finished
finished_some number [] some = absurd (omega (arith, some))
finished_some number (l ∷ ls) some = refl

-- what is read of a text that means lines in their turn
whole_back : (s : Schema) (text : List ℕ) (lines : List DerivationLine)
    → MeanDerivationLines (naming_of s) (names_of s) (certificate_lines (naming_of s) text) lines
    → AreRead lines
    → read_derivation s text ≡ finished (length (line_texts (without_mark text))) lines
unfolding read_derivation read_lines
whole_back s text lines mean read =
    let texts = line_texts (without_mark text) in
    let w = walk s texts [] true 1 [] lines mean read.in_turn (omega (arith, read.lines_fit)) in
    let last : 1 + length texts - 1 ≡ length texts = omega arith in
    ap (read_lines s true 1 []) (sym (append-nil texts)) ∙ w.same ∙ ap (λ n. finished n lines) last

pub derivation_back : (s : Schema) (text : List ℕ) (lines : List DerivationLine) → MeansDerivation s text lines
    → read_derivation s text ≡ Ok lines
derivation_back s text lines is =
    whole_back s text lines is.mean (record { in_turn = is.in_turn; lines_fit = is.lines_fit })
    ∙ finished_some (length (line_texts (without_mark text))) lines is.some

line_refuses : (k : LineKind) (s : Schema) (e : LineDiagnostic) (after : List (List ℕ)) (here : List ℕ) (fresh : Bool)
    (lines : List DerivationLine) → Counts (naming_of s) k fresh here → length (lines_to_read (naming_of s) fresh (here ∷ [])) ≡ 1
    → IsBadLine (naming_of s) (names_of s) here e.line e.diagnostic ⊎ IsWrongLine s lines here e.diagnostic
    → read_from s e.line after (read_as k s fresh e.line lines here) ≡ Err e
line_refuses Blank s e after here fresh lines counts one why =
    absurd (omega (arith, one, ap length (counts [] ∙ nothing_counts (naming_of s) fresh)))
line_refuses Opening s e after here fresh lines counts one why = absurd (omega (arith, one, ap length (counts [])))
line_refuses Certificate s e after here fresh lines counts one (inl bad) =
    rw ((refusals.refusal_law (naming_of s) (names_of s) e.line here bad.refusal).1 bad.grammar)
    (ap (λ c. Err (diagnostic_at e.line c)) (sym bad.is))
line_refuses Certificate s e after here fresh lines counts one (inr wrong) =
    let reads = line_back (naming_of s) (names_of s) e.line here wrong.line wrong.means in
    let refuses = refused_added lines wrong.line e.diagnostic wrong.wrong in
    rw (reads, refuses) refl

refused_back : (s : Schema) (text : List ℕ) (e : LineDiagnostic) → IsRefusedDerivation s text e
    → read_derivation s text ≡ Err e
unfolding read_derivation read_lines read_one finished
refused_back s text e (inl refused) =
    let stands = refused.stands in
    let here = refused.here in
    let texts = refused.before in
    let after_it = here ∷ stands.after in
    let w = walk s texts after_it true 1 [] refused.lines refused.mean refused.read.in_turn (omega (arith, refused.read.lines_fit)) in
    let number : 1 + length texts ≡ e.line = omega (arith, stands.number) in
    let one : length (lines_to_read (naming_of s) w.still (here ∷ [])) ≡ 1 = omega (
      arith,
      ap length (sym stands.counts ∙ w.counts (here ∷ [])),
      length-append (certificate_lines_of (naming_of s) texts) (here ∷ []),
      length-append (certificate_lines_of (naming_of s) texts) (lines_to_read (naming_of s) w.still (here ∷ [])),
    ) in
    ap (read_lines s true 1 []) stands.cut
    ∙ w.same
    ∙ ap (λ n. read_lines s w.still n refused.lines after_it) number
    ∙ line_refuses (line_kind w.still (lex (mode.numbered (naming_of s)) here)) s e stands.after here w.still refused.lines
    (kind_counts (naming_of s) w.still here _ refl) one refused.why
refused_back s text e (inr refused) =
    whole_back s text [] (subst (λ (ls : List (List ℕ)). MeanDerivationLines (naming_of s) (names_of s) ls []) (sym refused.none) tt)
    (record { in_turn = tt; lines_fit = omega arith })
    ∙ (λ i. Err (record { line = sym refused.at i; diagnostic = sym refused.is i }))

-- ---- the laws
pub reading_law : (s : Schema) (text : List ℕ) (lines : List DerivationLine)
    → (read_derivation s text ≡ Ok lines) ↔ MeansDerivation s text lines
reading_law s text lines = (λ h. subst (TextFits s text) h (text_fits s text), derivation_back s text lines)

pub refusal_law : (s : Schema) (text : List ℕ) (e : LineDiagnostic)
    → (read_derivation s text ≡ Err e) ↔ IsRefusedDerivation s text e
refusal_law s text e = (λ h. subst (TextFits s text) h (text_fits s text), refused_back s text e)

pub read_or_refused : (s : Schema) (text : List ℕ)
    → ((lines : List DerivationLine) × MeansDerivation s text lines) ⊎ ((e : LineDiagnostic) × IsRefusedDerivation s text e)
read_or_refused s text = by_cases (read_derivation s text) (text_fits s text)
  where
    by_cases : (r : Result (List DerivationLine) LineDiagnostic) → TextFits s text r
        → ((lines : List DerivationLine) × MeansDerivation s text lines) ⊎ ((e : LineDiagnostic) × IsRefusedDerivation s text e)
    by_cases (Ok lines) is = inl (lines, is)
    by_cases (Err e) is = inr (e, is)

pub one_outcome : (s : Schema) (text : List ℕ)
    → ((ks ls : List DerivationLine) → MeansDerivation s text ks → MeansDerivation s text ls → ks ≡ ls)
    × ((c e : LineDiagnostic) → IsRefusedDerivation s text c → IsRefusedDerivation s text e → c ≡ e)
    × ((ls : List DerivationLine) (e : LineDiagnostic) → MeansDerivation s text ls → IsRefusedDerivation s text e → ⊥)
one_outcome s text = (
  λ ks ls first second.
      let same : ◌≡◌ {A = Result (List DerivationLine) LineDiagnostic} (Ok ks) (Ok ls) = sym (derivation_back s text ks first) ∙ derivation_back s text ls second in cc,
  λ c e first second.
      let same : ◌≡◌ {A = Result (List DerivationLine) LineDiagnostic} (Err c) (Err e) = sym (refused_back s text c first) ∙ refused_back s text e second in cc,
  λ ls e means refused.
      let same : ◌≡◌ {A = Result (List DerivationLine) LineDiagnostic} (Ok ls) (Err e) = sym (derivation_back s text ls means) ∙ refused_back s text e refused in cc,
)

-- what the code finds
pub refuses_there : (s : Schema) (text : List ℕ) (e : ProofRefusal) → IsFoundAt e (read_derivation s text)
    → RefusesDerivation s text e
refuses_there s text e h = (refusal_law s text (line_diagnostic_of e)).0 h
