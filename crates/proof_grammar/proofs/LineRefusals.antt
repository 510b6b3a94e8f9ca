-- A line is refused exactly by its first diagnostic, where its reading is judged; so it is with lines of
-- certificates.
use Rattle.std.specs.Prelude.{◌↔◌, slice_get}
use Rattle.std.proofs.Common.{◌≡◌, ◌<◌, ◌⊎◌, inl, inr, ⊎_elim, ℕ, zero, suc, true, List, [], ◌∷◌, length, take, Option, Some, None, Ok, Err, Result, refl, sym, ◌∙◌, ap, subst, arith}
use Rattle.std.proofs.lemmas.Bool.{true≢false, false_from_ne_true}
use Rattle.std.proofs.lemmas.List.{length-map, take_all}
use Rattle.std.proofs.lemmas.Option.{none-some, same_Some, slice_get_within, slice_get_cases}
use Rattle.schema_model.specs.declared.naming.Naming.{Naming}
use Rattle.lexer.specs.Modes as mode
use Rattle.lexer.specs.declared.token.LexError.{LexError}
use Rattle.lexer.specs.Tokens.{Mark, lex}
use Rattle.schema_grammar.specs.declared.refusal.SchemaRefusal.{SchemaRefusal}
use Rattle.schema_grammar.specs.declared.refusal.What.{What}
use Rattle.schema_grammar.specs.declared.refusal.What.TheVariants as what
use Rattle.schema_grammar.specs.DiagnosticKinds.{DiagnosticKind, expected, diagnostic_kind}
use Rattle.schema_grammar.specs.Diagnostics.{span_at}
use Rattle.schema_grammar.specs.Rests.{rest_from}
use Rattle.schema_grammar.proofs.DiagnosticLaws.{Carries-map}
use Rattle.schema_grammar.proofs.OneRefusal.{OneWant, one_first}
use Rattle.proof_grammar.specs.Lines.{certificate_line}
use Rattle.proof_grammar.specs.LineDiagnostics.{with_none, TokenForm, Names, token_forms, certificate_names, a_number, a_colon, an_arrow, an_empty, a_with, a_rule, a_word, AreLine, BeginLine, CannotGoOn, SideWordDiagnostic, TokensDiagnostic, FormsWant, TokensWant, RefusesTokens, RefusesCertificateLine}
use Rattle.proof_grammar.proofs.FormLines.{begins_from, begins_on, begins_to, final_line, line_ends, names_at, wants_from}
use Rattle.proof_grammar.proofs.FormShapes.{heading, lhs, rhs, by, wide, narrow, ending, Shape, at_number, at_start, at_side, past, at_rule, at_with, is_final, runs, takes_words, then_turn, shape_after, wanted_by}
use Rattle.proof_grammar.proofs.JudgedLines.{form, Judged, ShapeWants, TokenWrong, Wrong, WrongAt}
use Rattle.proof_grammar.proofs.JudgedRules.{line_judged}

-- ---- one thing is wanted
-- a token of the wanted form leads on, and words of the grammar stand where no other word can
abbrev Takes : Shape → What → Type 0
Takes s what.Number = (t : Shape) × (shape_after s a_number ≡ Some t)
Takes s what.Colon = (t : Shape) × (shape_after s a_colon ≡ Some t)
Takes s what.Arrow = (t : Shape) × (shape_after s an_arrow ≡ Some t)
Takes s what.Side = (t : Shape) × (shape_after s an_empty ≡ Some t)
Takes s what.With = (t : Shape) × (shape_after s a_with ≡ Some t) × (takes_words s ≡ true → ⊥)
Takes s what.Rule = (t : Shape) × (shape_after s (a_rule with_none) ≡ Some t) × (takes_words s ≡ true → ⊥)
Takes s what.LineEnd = is_final s ≡ true
Takes s _ = ⊥

one_wanted : (s : Shape) (w : What) → Takes s w → w ≡ wanted_by s
one_wanted s what.Name takes = absurd takes
one_wanted s what.Scheme takes = absurd takes
one_wanted s what.Type takes = absurd takes
one_wanted (at_number a) what.Number takes = refl
one_wanted (at_side k) what.Side takes = refl
one_wanted (at_side k) what.With takes = absurd (takes.2 refl)
one_wanted (at_side k) what.Rule takes = absurd (takes.2 refl)
one_wanted (past true k) what.With takes = absurd (takes.2 refl)
one_wanted (past true k) what.Rule takes = absurd (takes.2 refl)
one_wanted (past words heading) what.Colon takes = refl
one_wanted (past words lhs) what.Arrow takes = refl
one_wanted (past words rhs) what.Colon takes = refl
one_wanted (past words wide) what.Colon takes = refl
one_wanted (past words by) what.LineEnd takes = refl
one_wanted (past words narrow) what.LineEnd takes = refl
one_wanted (past words ending) what.LineEnd takes = refl
one_wanted at_rule what.Rule takes = refl
one_wanted (at_with k) what.With takes = refl
one_wanted _ _ takes = cc

-- what is wanted is what the shape wants that is reached
wanted_at : (fs : List TokenForm) (w : What) → FormsWant fs w
    → (s : Shape) × (runs (Some at_start) fs ≡ Some s) × (w ≡ wanted_by s)
wanted_at fs what.Number wants =
    let on = begins_on fs a_number wants in (on.0, on.2, one_wanted on.0 what.Number (on.1, on.3))
wanted_at fs what.Colon wants =
    let on = begins_on fs a_colon wants in (on.0, on.2, one_wanted on.0 what.Colon (on.1, on.3))
wanted_at fs what.Arrow wants =
    let on = begins_on fs an_arrow wants in (on.0, on.2, one_wanted on.0 what.Arrow (on.1, on.3))
wanted_at fs what.Side wants =
    let on = begins_on fs an_empty wants in (on.0, on.2, one_wanted on.0 what.Side (on.1, on.3))
wanted_at fs what.With wants =
    let on = begins_on fs a_with wants.0 in
    (on.0, on.2, one_wanted on.0 what.With (on.1, on.3, λ takes. wants.1 ((names_at fs on.0 on.2).0 takes)))
wanted_at fs what.Rule wants =
    let on = begins_on fs (a_rule with_none) wants.0 in
    (on.0, on.2, one_wanted on.0 what.Rule (on.1, on.3, λ takes. wants.1 ((names_at fs on.0 on.2).0 takes)))
wanted_at fs what.LineEnd wants =
    let ends = line_ends fs wants in (ends.0, ends.1, one_wanted ends.0 what.LineEnd ends.2)
wanted_at fs _ wants = absurd wants

one_want : (fs : List TokenForm) → OneWant (FormsWant fs)
one_want fs w v wants other =
    let first = wanted_at fs w wants in
    let again = wanted_at fs v other in
    first.2 ∙ ap wanted_by (same_Some first.0 again.0 (sym first.1 ∙ again.1)) ∙ sym again.2

-- ---- the two kinds of diagnostics are one
runs_next : (names : Names) (o : Option Shape) (ms : List Mark) (p : ℕ) (m : Mark) → slice_get ms p ≡ Some m
    → runs o (take (suc p) (token_forms names ms)) ≡ then_turn (runs o (take p (token_forms names ms))) (form names m)
runs_next names o [] p m at = cc
runs_next names o (k ∷ ms) zero m at = ap (λ (x : Mark). then_turn o (form names x)) (same_Some k m at)
runs_next names o (k ∷ ms) (suc p) m at = runs_next names (then_turn o (form names k)) ms p m at

diagnostic_there : (names : Names) (ms : List Mark) (stop : Option LexError) (p : ℕ) (n : DiagnosticKind)
    → Wrong at_start names ms stop p n → TokensDiagnostic names ms stop p n
diagnostic_there names ms stop p n (inr flaw) = inr flaw
diagnostic_there names ms stop p n (inl (low, wrong)) =
    inl (by_cases (runs (Some at_start) (take p (token_forms names ms))) (slice_get ms p) refl refl wrong)
  where
    by_cases : (o : Option Shape) (k : Option Mark) → runs (Some at_start) (take p (token_forms names ms)) ≡ o → slice_get ms p ≡ k
        → WrongAt names stop n o k → SideWordDiagnostic names ms p n ⊎ ((n ≡ expected) × CannotGoOn (token_forms names ms) stop p)
    by_cases None k reached at wrong = absurd wrong
    by_cases (Some s) (Some m) reached at (inl (takes, word)) =
        inl (m, at, (names_at (take p (token_forms names ms)) s reached).0 takes, word)
    by_cases (Some s) (Some m) reached at (inr (six, cannot)) = inr (
      six,
      record {
        before = begins_from (take p (token_forms names ms)) s reached;
        here = inl (
          omega (arith, length-map ms (form names), slice_get_within ms p m at),
          λ begins.
              let on = begins_to (take (suc p) (token_forms names ms)) begins in
              none-some on.0 (sym (runs_next names (Some at_start) ms p m at ∙ ap (λ o. then_turn o (form names m)) reached ∙ cannot)
              ∙ on.1),
        );
      },
    )
    by_cases (Some s) None reached at (six, ended, open_end) =
        let same : p ≡ length (token_forms names ms) = ⊎_elim (λ inside. absurd (none-some inside.0 (sym at ∙ inside.2)))
        (λ past. omega (arith, low, past.0, length-map ms (form names))) (slice_get_cases ms p).1 in
        let whole = take_all p (token_forms names ms) (omega (arith, same)) in
        inr (
          six,
          record {
            before = begins_from (take p (token_forms names ms)) s reached;
            here = inr (
              same,
              ended,
              λ is.
                  let ends = line_ends (token_forms names ms) is in
                  let one = same_Some ends.0 s (sym ends.1 ∙ sym (ap (runs (Some at_start)) whole) ∙ reached) in
                  true≢false (sym ends.2 ∙ ap is_final one ∙ open_end),
            );
          },
        )

diagnostic_back : (names : Names) (ms : List Mark) (stop : Option LexError) (p : ℕ) (n : DiagnosticKind)
    → TokensDiagnostic names ms stop p n → Wrong at_start names ms stop p n
diagnostic_back names ms stop p n (inr flaw) = inr flaw
diagnostic_back names ms stop p n (inl (inl (m, at, takes, word))) =
    let on = begins_on (take p (token_forms names ms)) a_word takes in
    let inside = slice_get_within ms p m at in
    inl (omega (arith, inside), rw (on.2, at) (inl ((names_at (take p (token_forms names ms)) on.0 on.2).1 takes, word)))
diagnostic_back names ms stop p n (inl (inr (six, stuck))) =
    let there = begins_to (take p (token_forms names ms)) stuck.before in
    inl (by_cases there.0 (slice_get ms p) there.1 refl stuck.here)
  where
    by_cases : (s : Shape) (k : Option Mark) → runs (Some at_start) (take p (token_forms names ms)) ≡ Some s → slice_get ms p ≡ k
        → ((p < length (token_forms names ms)) × (BeginLine (take (suc p) (token_forms names ms)) → ⊥))
        ⊎ ((p ≡ length (token_forms names ms)) × (stop ≡ None) × (AreLine (token_forms names ms) → ⊥))
        → TokenWrong (Some at_start) names ms stop p n
    by_cases s (Some m) reached at (inl (less, cannot)) =
        let none : (o : Option Shape) → shape_after s (form names m) ≡ o → shape_after s (form names m) ≡ None = elim [
          | None ↦ λ e. e
          | Some t ↦ λ e. absurd (cannot (begins_from (take (suc p) (token_forms names ms)) t
              (runs_next names (Some at_start) ms p m at ∙ ap (λ o. then_turn o (form names m)) reached ∙ e)))
        ] in
        (omega (arith, less, length-map ms (form names)), rw (reached, at) (inr (six, none (shape_after s (form names m)) refl)))
    by_cases s None reached at (inl (less, cannot)) =
        absurd (⊎_elim (λ inside. none-some inside.0 (sym at ∙ inside.2)) (λ past. omega (arith, less, past.0, length-map ms (form names)))
        (slice_get_cases ms p).1)
    by_cases s (Some m) reached at (inr (same, ended, cannot)) =
        absurd (omega (arith, same, length-map ms (form names), slice_get_within ms p m at))
    by_cases s None reached at (inr (same, ended, cannot)) =
        let whole = take_all p (token_forms names ms) (omega (arith, same)) in
        let open_end = false_from_ne_true (is_final s) (λ final.
        cannot (final_line (token_forms names ms) s (sym (ap (runs (Some at_start)) whole) ∙ reached) final)) in
        (omega (arith, same, length-map ms (form names)), rw (reached, at) (six, ended, open_end))

-- ---- the law
pub judged_refuses : {L : Type 0} (names : Names) (at : ℕ) (ms : List Mark) (stop : Option LexError) (r : Result L SchemaRefusal)
    (e : SchemaRefusal) → Judged at_start names at 1 ms stop r → (r ≡ Err e) ↔ RefusesTokens names at ms stop e
judged_refuses names at ms stop (Ok l) e judged = (
  λ is. cc,
  λ refuses. absurd (judged.2 refuses.position (diagnostic_kind e.kind)
      (diagnostic_back names ms stop refuses.position (diagnostic_kind e.kind) refuses.stands)),
)
judged_refuses names at ms stop (Err f) e first =
    let refuses : RefusesTokens names at ms stop f = record {
      position = first.position;
      stands = diagnostic_there names ms stop first.position (diagnostic_kind f.kind) first.stands;
      carries = Carries-map (ShapeWants names at_start ms first.position) (TokensWant names ms first.position)
          (λ w wants. subst (FormsWant (take first.position (token_forms names ms))) (sym wants.2)
          (wants_from (take first.position (token_forms names ms)) wants.0 wants.1)) f.kind first.carries;
      there = first.there;
      least = λ p n diagnostic. first.least p n (diagnostic_back names ms stop p n diagnostic);
    } in (
      λ is. let same : f ≡ e = cc in subst (RefusesTokens names at ms stop) same refuses,
      λ other. ap Err (one_first (TokensDiagnostic names ms stop) (TokensWant names ms) (span_at at 1 ms stop) f e
          (λ p. one_want (take p (token_forms names ms))) refuses other),
    )

pub refusal_law : (naming : Naming) (names : List (List ℕ)) (number : ℕ) (text : List ℕ) (e : SchemaRefusal)
    → (certificate_line names (rest_from number 1 (lex (mode.numbered naming) text)) ≡ Err e)
    ↔ RefusesCertificateLine naming names number text e
refusal_law naming names number text e =
    let l = lex (mode.numbered naming) text in
    judged_refuses (certificate_names names) number l.marks l.stop _ e (line_judged names number 1 l.marks l.stop)
