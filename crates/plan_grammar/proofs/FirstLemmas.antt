-- First diagnostics: at the first position, or at a later one.
use Rattle.std.proofs.Common.{◌≡◌, ◌≤◌, ℕ, zero, suc, Some, None, refl, ap, inl, inr, ⊎_elim, arith}
use Rattle.lexer.specs.declared.token.LexError.{LexError}
use Rattle.plan_grammar.specs.declared.refusal.PlanRefusal.{PlanRefusal}
use Rattle.plan_grammar.specs.Diagnostics.{FlawDiagnostic, IsFirstOf}
use Rattle.plan_grammar.specs.Refusals.{plan_diagnostic_kind}
use Rattle.schema_grammar.specs.DiagnosticKinds.{DiagnosticKind, number_of, IsNoLater}

pub first_here : (Diagnostic : ℕ → DiagnosticKind → Type 0) (Stands : ℕ → PlanRefusal → Type 0) (e : PlanRefusal) → Diagnostic 0 (plan_diagnostic_kind e) → Stands 0 e
    → ((n : DiagnosticKind) → Diagnostic 0 n → number_of (plan_diagnostic_kind e) ≤ number_of n) → IsFirstOf Diagnostic Stands e
first_here Diagnostic Stands e diagnostic there small = record { position = 0; diagnostic = diagnostic; there = there; least = least }
  where
    least : (p : ℕ) (n : DiagnosticKind) → Diagnostic p n → IsNoLater 0 (plan_diagnostic_kind e) p n
    least zero n h = inr (refl, small n h)
    least (suc p) n h = inl (omega arith)

pub first_later : (Diagnostic : ℕ → DiagnosticKind → Type 0) (Stands : ℕ → PlanRefusal → Type 0) (e : PlanRefusal) → ((n : DiagnosticKind) → Diagnostic 0 n → ⊥)
    → IsFirstOf (λ p n. Diagnostic (suc p) n) (λ p f. Stands (suc p) f) e → IsFirstOf Diagnostic Stands e
first_later Diagnostic Stands e fine later = record { position = suc later.position; diagnostic = later.diagnostic; there = later.there; least = least }
  where
    least : (p : ℕ) (n : DiagnosticKind) → Diagnostic p n → IsNoLater (suc later.position) (plan_diagnostic_kind e) p n
    least zero n h = absurd (fine n h)
    least (suc p) n h = ⊎_elim (λ less. inl (omega (arith, less))) (λ same. inr (ap suc same.0, same.1)) (later.least p n h)

pub later_fine : (Diagnostic : ℕ → DiagnosticKind → Type 0) → ((n : DiagnosticKind) → Diagnostic 0 n → ⊥) → ((p : ℕ) (n : DiagnosticKind) → Diagnostic (suc p) n → ⊥) → (p : ℕ) (n : DiagnosticKind) → Diagnostic p n → ⊥
later_fine Diagnostic here later zero n h = here n h
later_fine Diagnostic here later (suc p) n h = later p n h

-- ---- bytes that are no token
pub no_flaw : (n : DiagnosticKind) → FlawDiagnostic None n → ⊥
no_flaw n h = none h.0 h.1
  where
    none : (s : LexError) → None ≡ Some s → ⊥
    none s e = cc
