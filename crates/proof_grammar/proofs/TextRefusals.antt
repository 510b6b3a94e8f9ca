-- A certificate is refused exactly as it goes wrong.
use Rattle.std.proofs.Common.{◌≡◌, ◌⊎◌, ⊎_elim, ◌+◌, ◌-◌, inl, inr, ℕ, Bool, true, List, [], ◌∷◌, length, Err, refl, sym, ◌∙◌, ap, subst, arith, length-append}
use Rattle.std.specs.Prelude.{slice_index}
use Rattle.std.proofs.lemmas.List.{nil_from_length}
use Rattle.schema_model.specs.Schemas.{Schema}
use Rattle.schema_model.specs.Schemas.{names_of, naming_of}
use Rattle.derivation.specs.Trees.{Tree}
use Rattle.lexer.specs.Modes as mode
use Rattle.lexer.specs.Lines.{line_texts, without_mark}
use Rattle.lexer.specs.Tokens.{lex}
use Rattle.proof_grammar.specs.declared.line_kind.LineKind.{LineKind}
use Rattle.proof_grammar.specs.declared.line_kind.LineKind.TheVariants.{Blank, Opening, Certificate}
use Rattle.proof_grammar.specs.CheckerStates.{CheckerStateValue, diagnostic_at}
use Rattle.proof_grammar.specs.Diagnostics.{LineDiagnostic, line_diagnostic_of, IsFoundAt}
use Rattle.proof_grammar.specs.declared.refusal.ProofRefusal.{ProofRefusal}
use Rattle.proof_grammar.specs.Lines.{Line}
use Rattle.proof_grammar.specs.Meanings.{certificate_lines_of}
use Rattle.proof_grammar.specs.Refusals.{StandsAt, IsBadLine, IsWrongLine, IsRefusedCertificate, RefusesProof}
use Rattle.proof_grammar.specs.Spelling.{uses}
use Rattle.proof_grammar.specs.Texts.{read_as, line_kind, read_one, read_certificate_lines, read_proof}
use Rattle.proof_grammar.proofs.CertificateLaws.{TextFits, text_fits, end_back}
use Rattle.proof_grammar.proofs.CountedLines.{lines_to_read, Counts, kind_counts, line_of_attributes, nothing_counts}
use Rattle.proof_grammar.proofs.DepthLemmas.{nodes_size}
use Rattle.proof_grammar.proofs.EnteredRefusals.{refused_entered}
use Rattle.proof_grammar.proofs.LineLaws.{line_back}
use Rattle.proof_grammar.proofs.LineRefusals as refusals
use Rattle.proof_grammar.proofs.PositionLemmas.{same_position}
use Rattle.proof_grammar.proofs.ReadLines.{read_from, HasReadLines}
use Rattle.proof_grammar.proofs.WalkedLines.{read_lines_walked}

-- what is refused goes wrong so
pub refused_there : (s : Schema) (text : List ℕ) (e : LineDiagnostic) → read_proof s text ≡ Err e
    → IsRefusedCertificate s text e
refused_there s text e h = subst (TextFits s text) h (text_fits s text)

-- ---- from what goes wrong
-- a line that stands in a text counts
not_passed : (s : Schema) (text : List ℕ) (before : List (List ℕ)) (here : List ℕ) (at : ℕ) (fresh : Bool)
    (lines : List Line) (trees : List Tree) (state : CheckerStateValue) → HasReadLines s text before fresh lines trees state
    → StandsAt (naming_of s) text before here at → lines_to_read (naming_of s) fresh (here ∷ []) ≡ [] → ⊥
not_passed s text before here at fresh lines trees state afterwards stands none =
    omega (
      arith,
      ap length (sym stands.counts ∙ afterwards.counts (here ∷ [])),
      length-append (certificate_lines_of (naming_of s) before) (here ∷ []),
      length-append (certificate_lines_of (naming_of s) before) (lines_to_read (naming_of s) fresh (here ∷ [])),
      ap length none,
    )

line_refuses : (k : LineKind) (s : Schema) (text : List ℕ) (e : LineDiagnostic) (before after : List (List ℕ))
    (here : List ℕ) (fresh : Bool) (lines : List Line) (trees : List Tree) (state : CheckerStateValue)
    → HasReadLines s text before fresh lines trees state → StandsAt (naming_of s) text before here e.line → Counts (naming_of s) k fresh here
    → IsBadLine (naming_of s) (names_of s) here e.line e.diagnostic ⊎ IsWrongLine s lines trees here e.diagnostic
    → read_from s e.line after (read_as k s fresh e.line state here) ≡ Err e
line_refuses Blank s text e before after here fresh lines trees state afterwards stands counts why =
    absurd (not_passed s text before here e.line fresh lines trees state afterwards stands
    (counts [] ∙ nothing_counts (naming_of s) fresh))
line_refuses Opening s text e before after here fresh lines trees state afterwards stands counts why =
    absurd (not_passed s text before here e.line fresh lines trees state afterwards stands (counts []))
line_refuses Certificate s text e before after here fresh lines trees state afterwards stands counts (inl bad) =
    rw ((refusals.refusal_law (naming_of s) (names_of s) e.line here bad.refusal).1 bad.grammar)
    (ap (λ c. Err (diagnostic_at e.line c)) (sym bad.is))
line_refuses Certificate s text e before after here fresh lines trees state afterwards stands counts (inr wrong) =
    let own = line_of_attributes s here wrong.line wrong.means in
    let reads = line_back (naming_of s) (names_of s) e.line here wrong.line wrong.means in
    let refuses = refused_entered s e.line lines trees state wrong.line e.diagnostic afterwards.follows own wrong.wrong in
    rw (reads, refuses) refl

-- what goes wrong so is refused
pub refused_back : (s : Schema) (text : List ℕ) (e : LineDiagnostic) → IsRefusedCertificate s text e
    → read_proof s text ≡ Err e
unfolding read_proof read_certificate_lines read_one
refused_back s text e (inl refused) =
    let stands = refused.stands in
    let here = refused.here in
    let after_it = here ∷ stands.after in
    let walk = read_lines_walked s text refused.before after_it refused.lines refused.trees stands.cut refused.mean refused.read in
    ap (read_certificate_lines s true 1 (record { lines = []; unused = [] })) stands.cut
    ∙ walk.same
    ∙ ap (λ n. read_certificate_lines s walk.fresh n walk.state after_it) (sym stands.number)
    ∙ line_refuses (line_kind walk.fresh (lex (mode.numbered (naming_of s)) here)) s text e refused.before stands.after here walk.fresh
    refused.lines refused.trees walk.state walk.afterwards stands (kind_counts (naming_of s) walk.fresh here _ refl) refused.why
refused_back s text e (inr refused) =
    let size = nodes_size s [] refused.lines refused.trees refused.read.nodes in
    end_back s text refused.lines refused.trees (Err e) refused.mean refused.read (λ fresh state afterwards. ⊎_elim
    (λ empty. let at : e.line ≡ length (line_texts (without_mark text)) + 1 - 1 = omega (arith, empty.at) in
    let none = nil_from_length refused.trees (omega (arith, size, ap length empty.none)) in
    inl (none, λ i. diagnostic_at (at i) (empty.is i)))
    (λ never.
    let i = never.number - 1 in
    let number : i + 1 ≡ never.number = omega (arith, never.not_empty) in
    let position = afterwards.positions i (omega (arith, never.not_last, never.not_empty, size, afterwards.size)) in
    let at : slice_index state.lines i ≡ e.line =
    same_position (naming_of s) text position.before never.before position.here never.here (slice_index state.lines i) e.line position.stands
    never.stands (omega (arith, position.count, never.is_number)) in
    inr (record {
      at = i;
      inside = omega (arith, never.not_last, number, size);
      unused = ap (λ n. uses n refused.lines) number ∙ never.unused;
      earlier = λ k low high. never.first k low (omega (arith, high, number));
      is = λ j. diagnostic_at (sym at j) (never.is j);
    }))
    refused.why)

-- a refusal of the reading is one of the text
pub refuses_there : (s : Schema) (text : List ℕ) (e : ProofRefusal) → IsFoundAt e (read_proof s text)
    → RefusesProof s text e
refuses_there s text e h = refused_there s text (line_diagnostic_of e) h
