-- A part of a line is read, or refused by its first diagnostic, by the shape that is reached.
use Rattle.std.proofs.Common.{◌≡◌, ◌≤◌, ◌+◌, ◌⊎◌, inl, inr, ⊎_elim, ℕ, zero, suc, true, false, List, [], ◌∷◌, length, take, slice_get, Option, Some, None, Ok, Err, Result, refl, sym, ◌∙◌, ap, subst, arith}
use Rattle.std.proofs.lemmas.Option.{none-some, same_Some}
use Rattle.lexer.specs.declared.token.LexError.{LexError}
use Rattle.lexer.specs.Tokens.{Mark}
use Rattle.schema_grammar.specs.declared.format.Format.TheVariants as format
use Rattle.schema_grammar.specs.declared.refusal.SchemaRefusal.{SchemaRefusal}
use Rattle.schema_grammar.specs.declared.refusal.SchemaRefusalKind.TheVariants as kind
use Rattle.schema_grammar.specs.declared.refusal.What.{What}
use Rattle.schema_grammar.specs.DiagnosticKinds.{DiagnosticKind, expected, number_of, IsNoLater, diagnostic_kind, diagnostic_of_flaw}
use Rattle.schema_grammar.specs.Diagnostics.{DiagnosesOfWord, Carries, IsFirst, span_at}
use Rattle.schema_grammar.specs.Refusals.{refusal, refused_by}
use Rattle.schema_grammar.proofs.DiagnosticLaws.{Carries-map, flaw_carries, flaw_kind}
use Rattle.proof_grammar.specs.LineDiagnostics.{TokenForm, Names, token_form, token_forms}
use Rattle.proof_grammar.proofs.FormShapes.{Shape, Ends, is_final, runs, takes_words, shape_after, wanted_by}

abbrev pub form : Names → Mark → TokenForm
form names m = token_form names m.kind m.word

-- ---- what is wrong, by shapes
-- where a shape is reached, a word is no name, or the grammar can't go on at a token or at the line's end
abbrev pub WrongAt : Names → Option LexError → DiagnosticKind → Option Shape → Option Mark → Type 0
WrongAt names stop n None m = ⊥
WrongAt names stop n (Some s) None = (n ≡ expected) × (stop ≡ None) × (is_final s ≡ false)
WrongAt names stop n (Some s) (Some m) =
    ((takes_words s ≡ true) × DiagnosesOfWord format.Plain names.attributes m n) ⊎ ((n ≡ expected) × (shape_after s (form names m) ≡ None))

-- the same at position p of a line that is read from shape o on
abbrev pub TokenWrong : Option Shape → Names → List Mark → Option LexError → ℕ → DiagnosticKind → Type 0
TokenWrong o names ms stop p n = (p ≤ length ms) × WrongAt names stop n (runs o (take p (token_forms names ms))) (slice_get ms p)

-- at position p, after the last token, stand bytes that are no token
abbrev pub Flawed : List Mark → Option LexError → ℕ → DiagnosticKind → Type 0
Flawed ms stop p n = (s : LexError) × (stop ≡ Some s) × (p ≡ length ms) × (n ≡ diagnostic_of_flaw s.flaw)

-- either of the two
abbrev pub Wrong : Shape → Names → List Mark → Option LexError → ℕ → DiagnosticKind → Type 0
Wrong s names ms stop p n = TokenWrong (Some s) names ms stop p n ⊎ Flawed ms stop p n

-- what is wanted at a position
abbrev pub ShapeWants : Names → Shape → List Mark → ℕ → What → Type 0
ShapeWants names s ms p w = (t : Shape) × (runs (Some s) (take p (token_forms names ms)) ≡ Some t) × (w ≡ wanted_by t)

-- what a reading says of the tokens from here on
abbrev pub Refused : Shape → Names → ℕ → ℕ → List Mark → Option LexError → SchemaRefusal → Type 0
Refused s names line next_column ms stop e = IsFirst (Wrong s names ms stop) (ShapeWants names s ms)
    (span_at line next_column ms stop) e

abbrev pub Judged : {L : Type 0} → Shape → Names → ℕ → ℕ → List Mark → Option LexError → Result L SchemaRefusal → Type 0
Judged s names line next_column ms stop (Ok l) = Ends s (token_forms names ms) × (stop ≡ None) ×
    ((p : ℕ) (n : DiagnosticKind) → Wrong s names ms stop p n → ⊥)
Judged s names line next_column ms stop (Err e) = Refused s names line next_column ms stop e

-- no word of a side that is wrong
abbrev pub IsRight : Shape → Names → Mark → Type 0
IsRight s names m = (n : DiagnosticKind) → takes_words s ≡ true → DiagnosesOfWord format.Plain names.attributes m n → ⊥

-- ---- one token later
-- where a token leads on, what is wrong comes later
wrong_later : (s t : Shape) (names : Names) (m : Mark) (ms : List Mark) (stop : Option LexError)
    → shape_after s (form names m) ≡ Some t → IsRight s names m → (p : ℕ) (n : DiagnosticKind) → Wrong s names (m ∷ ms) stop p n
    → (q : ℕ) × (p ≡ suc q) × Wrong t names ms stop q n
wrong_later s t names m ms stop goes right zero n (inl (low, inl word)) = absurd (right n word.0 word.1)
wrong_later s t names m ms stop goes right zero n (inl (low, inr six)) = absurd (none-some t (sym six.1 ∙ goes))
wrong_later s t names m ms stop goes right (suc p) n (inl here) =
    let moved = subst (λ o. WrongAt names stop n (runs o (take p (token_forms names ms))) (slice_get ms p)) goes here.1 in
    (p, refl, inl (omega (arith, here.0), moved))
wrong_later s t names m ms stop goes right p n (inr flaw) =
    (length ms, flaw.2, inr (flaw.0, flaw.1, refl, flaw.3))

-- a token by which the reading goes on
pub goes_on : {L : Type 0} (s t : Shape) (names : Names) (line next_column : ℕ) (m : Mark) (ms : List Mark)
    (stop : Option LexError) (r : Result L SchemaRefusal) → shape_after s (form names m) ≡ Some t → IsRight s names m
    → Judged t names line (m.column + m.length) ms stop r → Judged s names line next_column (m ∷ ms) stop r
goes_on s t names line next_column m ms stop (Ok l) goes right rest = (
  (rest.0.0, ap (λ o. runs o (token_forms names ms)) goes ∙ rest.0.1, rest.0.2),
  rest.1,
  λ p n wrong. let later = wrong_later s t names m ms stop goes right p n wrong in rest.2 later.0 n later.2,
)
goes_on s t names line next_column m ms stop (Err e) goes right rest = record {
  position = suc rest.position;
  stands = ⊎_elim (λ here. inl (
    omega (arith, here.0),
    subst (λ o. WrongAt names stop (diagnostic_kind e.kind) (runs o (take rest.position (token_forms names ms)))
        (slice_get ms rest.position)) (sym goes) here.1,
  ))
      (λ flaw. inr (flaw.0, flaw.1, omega (arith, flaw.2), flaw.3)) rest.stands;
  carries = Carries-map (ShapeWants names t ms rest.position) (ShapeWants names s (m ∷ ms) (suc rest.position))
      (λ w wants. (wants.0, ap (λ o. runs o (take rest.position (token_forms names ms))) goes ∙ wants.1, wants.2)) e.kind rest.carries;
  there = rest.there;
  least = λ p n wrong.
      let later = wrong_later s t names m ms stop goes right p n wrong in
      ⊎_elim (λ less. inl (omega (arith, less, later.1))) (λ same. inr (ap suc same.0 ∙ sym later.1, same.1))
      (rest.least later.0 n later.2);
}

-- ---- the reading ends here
-- the first diagnostic stands here
pub first_here : (s : Shape) (names : Names) (line next_column : ℕ) (ms : List Mark) (stop : Option LexError)
    (e : SchemaRefusal) → Wrong s names ms stop 0 (diagnostic_kind e.kind) → Carries (ShapeWants names s ms 0) e.kind
    → e.span ≡ span_at line next_column ms stop 0
    → ((n : DiagnosticKind) → Wrong s names ms stop 0 n → number_of (diagnostic_kind e.kind) ≤ number_of n)
    → Refused s names line next_column ms stop e
first_here s names line next_column ms stop e stands carries there small = record {
  position = 0;
  stands = stands;
  carries = carries;
  there = there;
  least = least;
}
  where
    least : (p : ℕ) (n : DiagnosticKind) → Wrong s names ms stop p n
        → IsNoLater 0 (diagnostic_kind e.kind) p n
    least zero n wrong = inr (refl, small n wrong)
    least (suc p) n wrong = inl (omega arith)

-- a token at which the grammar can't go on
pub stuck_here : (s : Shape) (names : Names) (line next_column : ℕ) (m : Mark) (ms : List Mark)
    (stop : Option LexError) (w : What) → shape_after s (form names m) ≡ None → IsRight s names m → w ≡ wanted_by s
    → Refused s names line next_column (m ∷ ms) stop (refusal line m.column m.length (kind.Expected w))
stuck_here s names line next_column m ms stop w cannot right wants =
    first_here s names line next_column (m ∷ ms) stop (refusal line m.column m.length (kind.Expected w))
    (inl (omega arith, inr (refl, cannot))) (s, refl, wants) refl
    (λ n wrong. ⊎_elim (λ here. ⊎_elim (λ word. absurd (right n word.0 word.1)) (λ six. omega (arith, ap number_of six.0)) here.1)
    (λ flaw. absurd (omega (arith, flaw.2))) wrong)

-- the line's end at which it can't
pub end_here : (s : Shape) (names : Names) (line next_column : ℕ) (w : What) → is_final s ≡ false
    → w ≡ wanted_by s
    → Refused s names line next_column [] None (refusal line next_column 0 (kind.Expected w))
end_here s names line next_column w open_end wants =
    first_here s names line next_column [] None (refusal line next_column 0 (kind.Expected w))
    (inl (omega arith, (refl, refl, open_end))) (s, refl, wants) refl
    (λ n wrong. ⊎_elim (λ here. omega (arith, ap number_of here.1.0)) (λ flaw. absurd (none-some flaw.0 flaw.1)) wrong)

-- bytes that are no token
pub flaw_here : (s : Shape) (names : Names) (line next_column : ℕ) (stop : LexError)
    → Refused s names line next_column [] (Some stop) (refused_by line stop)
flaw_here s names line next_column stop =
    first_here s names line next_column [] (Some stop) (refused_by line stop)
    (inr (stop, refl, refl, flaw_kind stop.flaw)) (flaw_carries (ShapeWants names s [] 0) stop.flaw) refl
    (λ n wrong. ⊎_elim (λ here. absurd (none-some stop (sym here.1.1)))
    (λ flaw. let same = ap (λ (x : LexError). diagnostic_of_flaw x.flaw) (same_Some stop flaw.0 flaw.1) in
    omega (arith, ap number_of (flaw_kind stop.flaw ∙ same ∙ sym flaw.3))) wrong)
