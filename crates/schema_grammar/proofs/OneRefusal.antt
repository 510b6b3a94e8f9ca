-- A text has one refusal at most: the first diagnostic, and what it carries.
use Rattle.std.proofs.Common.{◌≡◌, ◌<◌, ◌≤◌, ◌⊎◌, ℕ, zero, suc, true, List, [], ◌∷◌, ◌++◌, take, Option, Some, None, Ok, Err, Result, refl, sym, ◌∙◌, ap, subst, arith}
use Rattle.lexer.specs.declared.token.TokenKind.{TokenKind}
use Rattle.lexer.specs.declared.token.TokenKind.TheVariants as token
use Rattle.lexer.specs.Tokens.{Mark}
use Rattle.schema_grammar.specs.declared.format.Format.{Format}
use Rattle.schema_grammar.specs.declared.line_kind.LineKind.{LineKind}
use Rattle.schema_grammar.specs.declared.line_kind.LineKind.TheVariants as begins
use Rattle.schema_grammar.specs.declared.refusal.SchemaRefusal.{SchemaRefusal}
use Rattle.schema_grammar.specs.declared.refusal.SchemaRefusalKind.{SchemaRefusalKind}
use Rattle.schema_grammar.specs.declared.refusal.SchemaRefusalKind.TheVariants as kind
use Rattle.schema_grammar.specs.declared.refusal.Span.{Span}
use Rattle.schema_grammar.specs.declared.refusal.What.{What}
use Rattle.schema_grammar.specs.declared.refusal.What.TheVariants as what
use Rattle.schema_grammar.specs.DiagnosticKinds.{DiagnosticKind, number_of, IsNoLater, diagnostic_kind}
use Rattle.schema_grammar.specs.Diagnostics.{Wants, AtFirst, NamesWant, ColumnsWant, HeadWants, TextLineWants, Carries, IsFirst, kinds}
use Rattle.schema_grammar.specs.Words.{line_kind}
use Rattle.schema_grammar.proofs.KindLemmas.{kind_from_number}
use Rattle.schema_grammar.proofs.ShapeLemmas.{Shape, at_start, in_left, past_empty, past_arrow, in_right, past_end, bind, runs, is_final, wanted_by, runs-append, begins_to, line_ends}

-- one thing at most is wanted
abbrev pub OneWant : (What → Type 0) → Type 0
OneWant Wanted = (w v : What) → Wanted w → Wanted v → w ≡ v

-- a kind of refusal is the kind of its diagnostic, and what it carries
same_kind : (Wanted : What → Type 0) (k l : SchemaRefusalKind) → OneWant Wanted → Carries Wanted k → Carries Wanted l → diagnostic_kind k ≡ diagnostic_kind l → k ≡ l
same_kind Wanted (kind.Expected w) (kind.Expected v) one h g e = ap (λ x. kind.Expected x) (one w v h g)
same_kind Wanted kind.NoScale kind.NoType one h g e = let wrong = one what.Number what.Type h g in cc
same_kind Wanted kind.NoType kind.NoScale one h g e = let wrong = one what.Number what.Type g h in cc
same_kind Wanted k kind.StrangeByte one h g e = cc
same_kind Wanted k l one h g e = cc

pub same_refusal : (e f : SchemaRefusal) → e.span ≡ f.span → e.kind ≡ f.kind → e ≡ f
same_refusal e f span why =
    let at : Span → SchemaRefusal = λ s. record { span = s; kind = e.kind } in
    let of : SchemaRefusalKind → SchemaRefusal = λ k. record { span = f.span; kind = k } in
    ap at span ∙ ap of why

-- two first diagnostics stand at one position, and are of one kind
pub both_least : (p q : ℕ) (n m : DiagnosticKind) → IsNoLater p n q m → IsNoLater q m p n → (p ≡ q) × (n ≡ m)
both_least p q n m one other =
    let same = both p q (number_of n) (number_of m) one other in (same.0, kind_from_number n m same.1)
  where
    both : (p q n m : ℕ) → (p < q) ⊎ ((p ≡ q) × (n ≤ m)) → (q < p) ⊎ ((q ≡ p) × (m ≤ n)) → (p ≡ q) × (n ≡ m)
    both p q n m one other = omega arith

pub one_first : (Diagnostic : ℕ → DiagnosticKind → Type 0) (Wanted : ℕ → What → Type 0) (span : ℕ → Span) (e f : SchemaRefusal) → ((p : ℕ) → OneWant (Wanted p))
    → IsFirst Diagnostic Wanted span e → IsFirst Diagnostic Wanted span f → e ≡ f
one_first Diagnostic Wanted span e f one first second =
    let same = both_least first.position second.position (diagnostic_kind e.kind) (diagnostic_kind f.kind) (first.least second.position (diagnostic_kind f.kind) second.stands) (second.least first.position (diagnostic_kind e.kind) first.stands) in
    let carries : Carries (Wanted first.position) f.kind = subst (λ (p : ℕ). Carries (Wanted p) f.kind) (sym same.0) second.carries in
    same_refusal e f (first.there ∙ ap span same.0 ∙ sym second.there) (same_kind (Wanted first.position) e.kind f.kind (one first.position) first.carries carries same.1)

pub same_carried : (Wanted : What → Type 0) (e f : SchemaRefusal) → OneWant Wanted → Carries Wanted e.kind → Carries Wanted f.kind → diagnostic_kind e.kind ≡ diagnostic_kind f.kind → e.kind ≡ f.kind
same_carried Wanted e f = same_kind Wanted e.kind f.kind

-- what reads or refuses by the first diagnostic, refuses by no other
pub one_refused : {X : Type 0} (Fits : Result X SchemaRefusal → Type 0) (Diagnostic : ℕ → DiagnosticKind → Type 0)
    (Wanted : ℕ → What → Type 0) (span : ℕ → Span)
    → ((x : X) → Fits (Ok x) → (p : ℕ) (n : DiagnosticKind) → Diagnostic p n → ⊥)
    → ((g : SchemaRefusal) → Fits (Err g) → IsFirst Diagnostic Wanted span g)
    → ((p : ℕ) → OneWant (Wanted p)) → (r : Result X SchemaRefusal) (e : SchemaRefusal) → Fits r
    → IsFirst Diagnostic Wanted span e → r ≡ Err e
one_refused Fits Diagnostic Wanted span none other one (Ok x) e fits first =
    absurd (none x fits first.position (diagnostic_kind e.kind) first.stands)
one_refused Fits Diagnostic Wanted span none other one (Err g) e fits first =
    ap Err (one_first Diagnostic Wanted span g e one (other g fits) first)

-- ---- what is wanted
abbrev wanted_after : Option Shape → Option What
wanted_after None = None
wanted_after (Some s) = Some (wanted_by s)

wanted_at : (ks : List TokenKind) (w : What) → Wants ks w → wanted_after (runs at_start ks) ≡ Some w
wanted_at ks what.Side begins =
    let leads = begins_to (ks ++ token.Empty ∷ []) begins in
    by_cases leads.shape (runs at_start ks) (sym (runs-append at_start ks (token.Empty ∷ [])) ∙ leads.leads)
  where
    by_cases : (last : Shape) (o : Option Shape) → bind o (λ t. runs t (token.Empty ∷ [])) ≡ Some last
        → wanted_after o ≡ Some what.Side
    by_cases last (Some at_start) e = refl
    by_cases last (Some past_arrow) e = refl
    by_cases last o e = cc
wanted_at ks what.Arrow begins =
    let leads = begins_to (ks ++ token.Arrow ∷ []) begins in
    by_cases leads.shape (runs at_start ks) (sym (runs-append at_start ks (token.Arrow ∷ [])) ∙ leads.leads)
  where
    by_cases : (last : Shape) (o : Option Shape) → bind o (λ t. runs t (token.Arrow ∷ [])) ≡ Some last
        → wanted_after o ≡ Some what.Arrow
    by_cases last (Some in_left) e = refl
    by_cases last (Some past_empty) e = refl
    by_cases last o e = cc
wanted_at ks what.LineEnd line =
    let ends = line_ends ks line in ap wanted_after ends.leads ∙ by_cases ends.last ends.final
  where
    by_cases : (s : Shape) → is_final s ≡ true → Some (wanted_by s) ≡ Some what.LineEnd
    by_cases in_right final = refl
    by_cases past_end final = refl
    by_cases s final = cc
wanted_at ks w h = absurd h

pub one_want : (ks : List TokenKind) → OneWant (Wants ks)
one_want ks w v h g = let first = wanted_at ks w h in let second = wanted_at ks v g in cc

pub AtFirst-one : (first : What) (position : ℕ) → OneWant (AtFirst first position)
AtFirst-one first position w v one other = grind arith

-- of what is wanted after the first token
later-one : (Wants : ℕ → What → Type 0) → ((later : ℕ) → OneWant (Wants later)) → (p : ℕ)
    → OneWant (λ w. (later : ℕ) × (p ≡ suc later) × Wants later w)
later-one Wants each p w v (later, is, one) (other, again, two) =
    let same : other ≡ later = omega arith in each later w v one (subst (λ (k : ℕ). Wants k v) same two)

columns-one : (k : LineKind) (later : ℕ) → OneWant (ColumnsWant k later)
columns-one k zero w v one two = one ∙ sym two
columns-one k (suc later) w v one two = AtFirst-one what.Name later w v one two

pub one_text_line : (f : Format) (ms : List Mark) (p : ℕ) → OneWant (TextLineWants f ms p)
one_text_line f [] p w v h g = absurd h
one_text_line f (m ∷ ms) p w v h g = by_kind (line_kind f m.kind m.word) h g
  where
    by_kind : (k : LineKind) → HeadWants m ms k p w → HeadWants m ms k p v → w ≡ v
    by_kind (begins.Names purpose) one two = later-one NamesWant (AtFirst-one what.Name) p w v one two
    by_kind begins.Decimal one two = later-one (ColumnsWant begins.Decimal) (columns-one begins.Decimal) p w v one two
    by_kind begins.Other one two = later-one (ColumnsWant begins.Other) (columns-one begins.Other) p w v one two
    by_kind begins.Dependency one two = one_want (take p (kinds (m ∷ ms))) w v one two
