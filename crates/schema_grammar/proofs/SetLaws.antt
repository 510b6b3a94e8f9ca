-- A set is read as what it means, or refused by its first diagnostic.
use Rattle.std.specs.Prelude.{◌↔◌}
use Rattle.std.proofs.Common.{◌≡◌, ◌⊎◌, inl, inr, ℕ, zero, suc, true, false, List, [], length, Option, Some, None, Ok, Err, Result, refl, sym, ◌∙◌, ap, subst, arith, ⊎_elim}
use Rattle.std.specs.List.{slice_get}
use Rattle.std.proofs.lemmas.List.{nil_from_length}
use Rattle.std.proofs.lemmas.Option.{slice_get_within}
use Rattle.attr_sets.specs.Attributes.{Attributes, none}
use Rattle.schema_model.specs.declared.naming.Naming.{Naming}
use Rattle.dep_model.specs.Dependencies.{Dependency, right_of}
use Rattle.lexer.specs.Modes as mode
use Rattle.lexer.specs.declared.token.LexError.{LexError}
use Rattle.lexer.specs.declared.token.TokenKind.{TokenKind}
use Rattle.lexer.specs.declared.token.TokenKind.TheVariants as token
use Rattle.lexer.specs.Tokens.{Mark, lex}
use Rattle.schema_grammar.specs.declared.refusal.SchemaRefusal.{SchemaRefusal}
use Rattle.schema_grammar.specs.declared.refusal.What.TheVariants as what
use Rattle.schema_grammar.specs.declared.symbol.Sign.TheVariants as sign
use Rattle.schema_grammar.specs.declared.format.Format.TheVariants as format
use Rattle.schema_grammar.specs.DiagnosticKinds.{DiagnosticKind, diagnostic_kind}
use Rattle.schema_grammar.specs.Diagnostics.{span_at}
use Rattle.schema_grammar.specs.Grammar.{Reached, after_sign}
use Rattle.schema_grammar.specs.Meanings.{IsSide}
use Rattle.schema_grammar.specs.Reading.{follow_rest}
use Rattle.schema_grammar.specs.Rests.{◌>>=◌, rest_from}
use Rattle.schema_grammar.specs.Words.{is_word_token}
use Rattle.schema_grammar.specs.Sets.{MeansSet, BeginsEmpty, IsOutOfPlace, SetDiagnostic, SetWants, FitsSet, RefusesSet, read_set}
use Rattle.schema_grammar.proofs.DiagnosticLaws.{Judges, LineDiagnostic, Judged, judge, left_whole}
use Rattle.schema_grammar.proofs.GoalLaws.{AfterSignRest, marks_make, side_read, no_stop}
use Rattle.schema_grammar.proofs.OneRefusal.{one_refused, AtFirst-one}
use Rattle.schema_grammar.proofs.RefusalLemmas.{and_then-ok}
use Rattle.schema_grammar.proofs.ShapeLemmas.{Shape, past_arrow, in_right, past_end, advance_shape, is_final, wanted_by, stuck_first, stuck_later}

-- ---- what a set means
abbrev from_arrow : Reached
from_arrow = after_sign sign.Functional none

abbrev set_of : Result Dependency SchemaRefusal → Result Attributes SchemaRefusal
set_of r = r >>= (λ d. Ok (right_of d))

pub set-law : (naming : Naming) (declared : List (List ℕ)) (text : List ℕ) (x : Attributes) → (read_set naming declared text ≡ Ok x) ↔ MeansSet naming declared text x
set-law naming declared text x = (there, back)
  where
    there : read_set naming declared text ≡ Ok x → MeansSet naming declared text x
    there e =
        let two = and_then-ok (follow_rest format.Plain declared from_arrow (rest_from 1 1 (lex (mode.goal naming) text)))
        (λ d. Ok (right_of d)) x e in
        let whole = no_stop format.Plain declared 1 from_arrow 1 (lex (mode.goal naming) text) two.x two.first in
        let here : follow_rest format.Plain declared from_arrow
        (rest_from 1 1 (record { marks = (lex (mode.goal naming) text).marks; stop = None })) ≡ Ok two.x =
        ap (λ l. follow_rest format.Plain declared from_arrow (rest_from 1 1 l)) (sym whole) ∙ two.first in
        let more : AfterSignRest format.Plain declared sign.Functional none (lex (mode.goal naming) text).marks two.x =
        marks_make format.Plain declared 1 1 from_arrow _ two.x here in
        let is : right_of two.x ≡ x = (let second = two.second in cc) in
        let same : more.y ≡ x = sym (ap right_of more.states) ∙ is in
        record { marks = (lex (mode.goal naming) text).marks; tokens = whole; side = subst (IsSide format.Plain declared (lex (mode.goal naming) text).marks) same more.right_side }

    back : MeansSet naming declared text x → read_set naming declared text ≡ Ok x
    back means =
        ap (λ l. set_of (follow_rest format.Plain declared from_arrow (rest_from 1 1 l))) means.tokens
        ∙ ap set_of (side_read format.Plain declared 1 sign.Functional none x 1 means.marks means.side)

-- ---- how it is refused
-- one token is not both a word and another one
word_there : (ms : List Mark) (p : ℕ) (m n : Mark) → slice_get ms p ≡ Some m → slice_get ms p ≡ Some n
    → is_word_token m.kind ≡ true → is_word_token n.kind ≡ false → ⊥
word_there ms p m n is there word other =
    let same : m ≡ n = let e = sym is ∙ there in cc in
    let wrong = sym word ∙ ap (λ (x : Mark). is_word_token x.kind) same ∙ other in cc

-- a token is out of place, or there is none
abbrev IsAmiss : List Mark → Option LexError → ℕ → Type 0
IsAmiss ms stop position =
    ((m : Mark) × (slice_get ms position ≡ Some m) × IsOutOfPlace ms position m.kind) ⊎
    ((position ≡ 0) × (ms ≡ []) × (stop ≡ None))

-- how far a side is read before a position: not begun, words, or `()`
abbrev IsRead : List Mark → ℕ → Shape → Type 0
IsRead ms zero s = s ≡ past_arrow
IsRead ms (suc position) s = ((s ≡ in_right) × (BeginsEmpty ms → ⊥)) ⊎ ((s ≡ past_end) × BeginsEmpty ms)

side_judges : (ms : List Mark) (stop : Option LexError) → Judges ms stop (IsRead ms) (IsAmiss ms stop) SetWants
side_judges ms stop = record {
  wants = wants;
  goes_on = λ p s t m is read turned. goes_on p s t m m.kind is refl read turned;
  stuck = λ p s m is read none. inl (m, is, out p s m.kind read none);
  ends = ends;
  open_end = open_end;
  flawed = λ p x all is amiss. ⊎_elim (λ here. absurd (omega (arith, slice_get_within ms p here.0 here.1)))
      (λ none. let wrong = none.2 in cc) amiss;
  inside = λ p amiss. ⊎_elim (λ here. omega (arith, slice_get_within ms p here.0 here.1))
      (λ none. omega (arith, none.0)) amiss;
}
  where
    wants : (p : ℕ) (s : Shape) → IsRead ms p s → SetWants p (wanted_by s)
    wants zero s read = inl (refl, ap wanted_by read)
    wants (suc p) s (inl read) = inr (omega arith, ap wanted_by read.0)
    wants (suc p) s (inr read) = inr (omega arith, ap wanted_by read.0)

    first_word : (m : Mark) → slice_get ms 0 ≡ Some m → is_word_token m.kind ≡ true → (t : Shape) → t ≡ in_right
        → (IsAmiss ms stop 0 → ⊥) × IsRead ms 1 t
    first_word m is word t turned = (
      ⊎_elim (λ out. word_there ms 0 m out.0 is out.1 word out.2.0)
          (λ none. omega (arith, slice_get_within ms 0 m is, ap length none.1)),
      inl (turned, λ begins. word_there ms 0 m begins.first is begins.there word (ap is_word_token begins.is_empty)),
    )

    later_word : (p : ℕ) (m : Mark) → slice_get ms (suc p) ≡ Some m → is_word_token m.kind ≡ true → (BeginsEmpty ms → ⊥)
        → (t : Shape) → t ≡ in_right → (IsAmiss ms stop (suc p) → ⊥) × IsRead ms (suc (suc p)) t
    later_word p m is word named t turned = (
      ⊎_elim (λ out. ⊎_elim (λ other. word_there ms (suc p) m out.0 is out.1 word other) named out.2)
          (λ none. omega (arith, none.0)),
      inl (turned, named),
    )

    goes_on : (p : ℕ) (s t : Shape) (m : Mark) (k : TokenKind) → slice_get ms p ≡ Some m → m.kind ≡ k
        → IsRead ms p s → advance_shape s k ≡ Some t
        → (IsAmiss ms stop p → ⊥) × IsRead ms (suc p) t
    goes_on zero s t m token.Identifier is kind read turned = first_word m is (ap is_word_token kind) t cc
    goes_on zero s t m token.Quoted is kind read turned = first_word m is (ap is_word_token kind) t cc
    goes_on zero s t m token.Empty is kind read turned = (
      ⊎_elim (λ out. out.2.1 cc) (λ none. omega (arith, slice_get_within ms 0 m is, ap length none.1)),
      inr (cc, record { first = m; there = is; is_empty = kind }),
    )
    goes_on zero s t m k is kind read turned = cc
    goes_on (suc p) s t m token.Identifier is kind (inl read) turned = later_word p m is (ap is_word_token kind) read.1 t cc
    goes_on (suc p) s t m token.Quoted is kind (inl read) turned = later_word p m is (ap is_word_token kind) read.1 t cc
    goes_on (suc p) s t m k is kind (inl read) turned = cc
    goes_on (suc p) s t m k is kind (inr read) turned = cc

    out : (p : ℕ) (s : Shape) (k : TokenKind) → IsRead ms p s → advance_shape s k ≡ None → IsOutOfPlace ms p k
    out zero s k read none = (stuck_first k (ap (λ (x : Shape). advance_shape x k) (sym read) ∙ none), (λ empty. cc))
    out (suc p) s k (inl read) none = inl (stuck_later k (ap (λ (x : Shape). advance_shape x k) (sym read.0) ∙ none))
    out (suc p) s k (inr read) none = inr read.1

    ends : (p : ℕ) (s : Shape) → p ≡ length ms → IsRead ms p s → is_final s ≡ true → IsAmiss ms stop p → ⊥
    ends p s all read final (inl here) = omega (arith, slice_get_within ms p here.0 here.1)
    ends zero s all read final (inr none) = cc
    ends (suc p) s all read final (inr none) = omega (arith, none.0)

    open_end : (p : ℕ) (s : Shape) → p ≡ length ms → stop ≡ None → IsRead ms p s → is_final s ≡ false
        → IsAmiss ms stop p
    open_end zero s all none read unfinished = inr (refl, nil_from_length ms (sym all), none)
    open_end (suc p) s all none (inl read) unfinished = cc
    open_end (suc p) s all none (inr read) unfinished = cc

-- a set is refused by its first diagnostic, and read where there is none
pub set-diagnostic-law : (naming : Naming) (declared : List (List ℕ)) (text : List ℕ) → FitsSet naming declared text (read_set naming declared text)
set-diagnostic-law naming declared text =
    fits (follow_rest format.Plain declared from_arrow (rest_from 1 1 (lex (mode.goal naming) text)))
    (judge (side_judges marks stop) format.Plain declared 1 1 marks 0 1 from_arrow
    (left_whole 1 1 marks stop) refl (λ p n less. absurd (omega arith)))
  where
    marks : List Mark
    marks = (lex (mode.goal naming) text).marks

    stop : Option LexError
    stop = (lex (mode.goal naming) text).stop

    to : (p : ℕ) (n : DiagnosticKind) → LineDiagnostic (IsAmiss marks stop) format.Plain declared marks stop p n
        → SetDiagnostic naming declared text p n
    to p n (inl (inl (m, is, word))) = inl (inl (m, is, inl word))
    to p n (inl (inr (six, inl (m, is, out)))) = inl (inl (m, is, inr (six, out)))
    to p n (inl (inr (six, inr none))) = inl (inr (six, none.0, none.1, none.2))
    to p n (inr flaw) = inr flaw

    from : (p : ℕ) (n : DiagnosticKind) → SetDiagnostic naming declared text p n
        → LineDiagnostic (IsAmiss marks stop) format.Plain declared marks stop p n
    from p n (inl (inl (m, is, inl word))) = inl (inl (m, is, word))
    from p n (inl (inl (m, is, inr (six, out)))) = inl (inr (six, inl (m, is, out)))
    from p n (inl (inr (six, first, nothing, none))) = inl (inr (six, inr (first, nothing, none)))
    from p n (inr flaw) = inr flaw

    fits : (res : Result Dependency SchemaRefusal)
        → Judged (LineDiagnostic (IsAmiss marks stop) format.Plain declared marks stop) SetWants
        (span_at 1 1 marks stop) res
        → FitsSet naming declared text (set_of res)
    fits (Ok d) none = λ p n diagnostic. none p n (from p n diagnostic)
    fits (Err e) first = record {
      position = first.position;
      stands = to first.position (diagnostic_kind e.kind) first.stands;
      carries = first.carries;
      there = first.there;
      least = λ p n diagnostic. first.least p n (from p n diagnostic);
    }

pub set_refused : (naming : Naming) (declared : List (List ℕ)) (text : List ℕ) (e : SchemaRefusal) → read_set naming declared text ≡ Err e → RefusesSet naming declared text e
set_refused naming declared text e h = subst (FitsSet naming declared text) h (set-diagnostic-law naming declared text)

-- a set is refused so exactly where the definition refuses it so
pub set-refusal-law : (naming : Naming) (declared : List (List ℕ)) (text : List ℕ) (e : SchemaRefusal) → (read_set naming declared text ≡ Err e) ↔ RefusesSet naming declared text e
set-refusal-law naming declared text e = (
  set_refused naming declared text e,
  λ first.
      one_refused (FitsSet naming declared text) _ _ _ (λ x none. none) (λ g first. first)
      (AtFirst-one what.Side) _ e (set-diagnostic-law naming declared text) first,
)
