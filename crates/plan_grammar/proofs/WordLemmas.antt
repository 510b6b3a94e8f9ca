-- The attributes of a line: read where nothing is wrong with them, or refused by the first diagnostic.
use Rattle.std.proofs.Common.{◌≡◌, ◌<◌, ◌≤◌, ◌+◌, ℕ, Bool, true, false, cond, List, [], ◌∷◌, length, Option, Some, None, Result, Ok, Err, refl, sym, ap, ◌∙◌, ◌⊎◌, inl, inr, ⊎_elim, arith}
use Rattle.std.specs.Prelude.{All}
use Rattle.std.proofs.lemmas.Bool.{false≢true, true≢false}
use Rattle.std.proofs.lemmas.List.Elements.{All-nil, All-cons}
use Rattle.attr_sets.specs.Attributes.{Attributes, only, union}
use Rattle.schema_model.specs.Schemas.{attribute_named}
use Rattle.lexer.specs.declared.token.LexError.{LexError}
use Rattle.lexer.specs.declared.token.TokenKind.{TokenKind}
use Rattle.lexer.specs.declared.token.TokenKind.TheVariants as token
use Rattle.lexer.specs.Tokens.{Mark}
use Rattle.schema_grammar.specs.declared.format.Format.TheVariants as format
use Rattle.schema_grammar.specs.declared.refusal.SchemaRefusalKind.TheVariants as kind
use Rattle.schema_grammar.specs.DiagnosticKinds.{DiagnosticKind, reserved_name, unknown_name, number_of}
use Rattle.schema_grammar.specs.Diagnostics.{span_at}
use Rattle.schema_grammar.specs.Meanings.{IsAttribute, attributes_of_words}
use Rattle.schema_grammar.specs.Refusals.{refused_by, at}
use Rattle.schema_grammar.specs.Words.{is_word_token, is_reserved_token, known_attribute, look_up}
use Rattle.schema_grammar.specs.Rests.{◌>>=◌}
use Rattle.schema_grammar.proofs.DiagnosticLaws.{flaw_carries, flaw_kind, flaw_least}
use Rattle.schema_grammar.proofs.SideLemmas.{union-only, union-none, attributes_of_words-cons}
use Rattle.plan_grammar.specs.declared.refusal.PlanRefusal.{PlanRefusal}
use Rattle.plan_grammar.specs.declared.refusal.PlanRefusal.TheVariants as plan
use Rattle.plan_grammar.specs.Refusals.{plan_diagnostic_kind}
use Rattle.plan_grammar.specs.Diagnostics.{WordDiagnostic, WordsDiagnostic, SpansPosition, IsFirstOf, wanted_after}
use Rattle.plan_grammar.specs.Reading.{of_text, other_token, attribute_of_token, read_words}
use Rattle.plan_grammar.proofs.FirstLemmas.{first_here, first_later, later_fine, no_flaw}

-- ---- kinds of tokens
is_empty : TokenKind → Bool
is_empty token.Empty = true
is_empty token.Identifier = false
is_empty token.Quoted = false
is_empty token.Arrow = false
is_empty token.DoubleArrow = false
is_empty token.Colon = false
is_empty (token.Number n) = false

no_empty : (k : TokenKind) → is_empty k ≡ false → k ≡ token.Empty → ⊥
unfolding is_empty
no_empty k other same = true≢false (sym (ap is_empty same) ∙ other)

-- ---- one token
-- what a token of the attributes stands for, or what is wrong with it
module _ (names : List (List ℕ)) (line after : ℕ) (m : Mark) (ms : List Mark) (stop : Option LexError) where
  pub record IsNamed (a : ℕ) : Type 0 where
    pub word : is_word_token m.kind ≡ true
    pub not_reserved : is_reserved_token format.Plain m.kind m.word ≡ false
    pub lookup : attribute_named names m.word ≡ Some a

  abbrev pub TokenFits : Bool → Result ℕ PlanRefusal → Type 0
  TokenFits first (Ok a) = IsNamed a
  TokenFits first (Err e) = WordDiagnostic names first m (plan_diagnostic_kind e) × SpansPosition line (span_at line after (m ∷ ms) stop) (wanted_after first) 0 e
      × ((n : DiagnosticKind) → WordDiagnostic names first m n → number_of (plan_diagnostic_kind e) ≤ number_of n)

  word_fits : (first : Bool) → is_word_token m.kind ≡ true → TokenFits first (of_text (at line m.column m.length (look_up format.Plain names m.kind m.word)))
  unfolding look_up
  word_fits first is = by_cases (is_reserved_token format.Plain m.kind m.word) (attribute_named names m.word) refl refl
    where
      small : (first : Bool) (low n : DiagnosticKind) → number_of low ≤ number_of unknown_name
          → (n ≡ reserved_name → number_of low ≤ number_of reserved_name ⊎ (is_reserved_token format.Plain m.kind m.word ≡ false))
          → WordDiagnostic names first m n → number_of low ≤ number_of n
      small first low n most other h =
          ⊎_elim
          (λ word. ⊎_elim
          (λ three. ⊎_elim (λ le. omega (arith, le, ap number_of three.0)) (λ not_reserved. absurd (true≢false (sym three.1 ∙ not_reserved))) (other three.0))
          (λ five. omega (arith, most, ap number_of five.0))
          word.1)
          (λ rest. ⊎_elim (λ ten. omega (arith, most, ap number_of ten.2)) (λ six. omega (arith, most, ap number_of six.2)) rest)
          h

      by_cases : (b : Bool) (o : Option ℕ) → is_reserved_token format.Plain m.kind m.word ≡ b → attribute_named names m.word ≡ o
          → TokenFits first (of_text (at line m.column m.length (cond b (Err kind.ReservedName) (known_attribute o))))
      by_cases true o reserved lookup = (inl (is, inl (refl, reserved)), (refl, tt), λ n h. small first reserved_name n (omega arith) (λ three. inl (omega arith)) h)
      by_cases false None not_reserved lookup = (inl (is, inr (refl, lookup)), (refl, tt), λ n h. small first unknown_name n (omega arith) (λ three. inr not_reserved) h)
      by_cases false (Some a) not_reserved lookup = record { word = is; not_reserved = not_reserved; lookup = lookup }

  empty_fits : m.kind ≡ token.Empty → TokenFits true (Err (plan.EmptyScheme line))
  empty_fits is = (
    inr (inl (refl, is, refl)),
    refl,
    λ n h. ⊎_elim
        (λ word. absurd (apart is word.0))
        (λ rest. ⊎_elim (λ ten. omega (arith, ap number_of ten.2)) (λ six. absurd (six.1 refl is)) rest)
        h,
  )
    where
      apart : m.kind ≡ token.Empty → is_word_token m.kind ≡ true → ⊥
      apart e w = true≢false (sym w ∙ ap is_word_token e)

  other_fits : (first : Bool) → is_word_token m.kind ≡ false → (first ≡ true → m.kind ≡ token.Empty → ⊥) → TokenFits first (Err (other_token line first m))
  other_fits first word empty = (
    inr (inr (word, empty, refl)),
    (refl, refl),
    λ n h. ⊎_elim
        (λ is. absurd (true≢false (sym is.0 ∙ word)))
        (λ rest. ⊎_elim (λ ten. absurd (empty ten.0 ten.1)) (λ six. omega (arith, ap number_of six.2)) rest)
        h,
  )

  pub token_fits : (first : Bool) (k : TokenKind) → m.kind ≡ k → TokenFits first (attribute_of_token names line first m k)
  unfolding is_empty
  token_fits first token.Identifier is = word_fits first (ap is_word_token is)
  token_fits first token.Quoted is = word_fits first (ap is_word_token is)
  token_fits true token.Empty is = empty_fits is
  token_fits false token.Empty is = other_fits false (ap is_word_token is) (λ t _. absurd (false≢true t))
  token_fits first token.Arrow is = other_fits first (ap is_word_token is) (λ _. no_empty m.kind (ap is_empty is))
  token_fits first token.DoubleArrow is = other_fits first (ap is_word_token is) (λ _. no_empty m.kind (ap is_empty is))
  token_fits first token.Colon is = other_fits first (ap is_word_token is) (λ _. no_empty m.kind (ap is_empty is))
  token_fits first (token.Number n) is = other_fits first (ap is_word_token is) (λ _. no_empty m.kind (ap is_empty is))

-- ---- all tokens
-- the tokens are words that name attributes
pub record AreWords (names : List (List ℕ)) (first : Bool) (x : Attributes) (ms : List Mark) (stop : Option LexError) (y : Attributes) : Type 0 where
  pub each : All (IsAttribute format.Plain names) ms
  pub ended : stop ≡ None
  pub not_empty : first ≡ true → 0 < length ms
  pub members : y ≡ union x (attributes_of_words names ms)
  pub fine : (p : ℕ) (n : DiagnosticKind) → WordsDiagnostic names first ms stop p n → ⊥

abbrev pub WordsFit : List (List ℕ) → ℕ → Bool → Attributes → ℕ → List Mark → Option LexError → Result Attributes PlanRefusal → Type 0
WordsFit names line first x after ms stop (Ok y) = AreWords names first x ms stop y
WordsFit names line first x after ms stop (Err e) = IsFirstOf (WordsDiagnostic names first ms stop) (SpansPosition line (span_at line after ms stop) (wanted_after first)) e

named_fine : (names : List (List ℕ)) (line after : ℕ) (first : Bool) (m : Mark) (ms : List Mark) (stop : Option LexError) (a : ℕ) (n : DiagnosticKind) → IsNamed names line after m ms stop a → WordDiagnostic names first m n → ⊥
named_fine names line after first m ms stop a n is h =
    ⊎_elim
    (λ word. ⊎_elim
    (λ three. true≢false (sym three.1 ∙ is.not_reserved))
    (λ five. unknown (sym five.1 ∙ is.lookup))
    word.1)
    (λ rest. ⊎_elim (λ ten. true≢false (sym is.word ∙ ap is_word_token ten.1)) (λ six. true≢false (sym is.word ∙ six.0)) rest)
    h
  where
    unknown : None ≡ Some a → ⊥
    unknown e = cc

-- a word, and then what follows it
words_after : (names : List (List ℕ)) (line after : ℕ) (first : Bool) (x : Attributes) (m : Mark) (ms : List Mark) (stop : Option LexError) (a : ℕ) (r : Result Attributes PlanRefusal)
    → IsNamed names line after m ms stop a → WordsFit names line false (union x (only a)) (m.column + m.length) ms stop r → WordsFit names line first x after (m ∷ ms) stop r
words_after names line after first x m ms stop a (Ok y) is fit = record {
  each = All-cons (IsAttribute format.Plain names) m ms (record { word = is.word; not_reserved = is.not_reserved; index = a; known = is.lookup }) fit.each;
  ended = fit.ended;
  not_empty = λ _. omega arith;
  members = fit.members ∙ union-only x (attributes_of_words names ms) a ∙ ap (λ (z : Attributes). union x z) (sym (attributes_of_words-cons names m ms a is.lookup));
  fine = later_fine (WordsDiagnostic names first (m ∷ ms) stop) (λ n h. named_fine names line after first m ms stop a n is h) fit.fine;
}
words_after names line after first x m ms stop a (Err e) is fit =
    first_later (WordsDiagnostic names first (m ∷ ms) stop) (SpansPosition line (span_at line after (m ∷ ms) stop) (wanted_after first)) e
    (λ n h. named_fine names line after first m ms stop a n is h) fit

words_join : (names : List (List ℕ)) (line after : ℕ) (first : Bool) (x : Attributes) (m : Mark) (ms : List Mark) (stop : Option LexError) (r : Result ℕ PlanRefusal)
    → ((a : ℕ) → WordsFit names line false (union x (only a)) (m.column + m.length) ms stop (read_words names line false (union x (only a)) ms stop))
    → TokenFits names line after m ms stop first r
    → WordsFit names line first x after (m ∷ ms) stop (r >>= (λ a. read_words names line false (union x (only a)) ms stop))
words_join names line after first x m ms stop (Ok a) later fit =
    words_after names line after first x m ms stop a (read_words names line false (union x (only a)) ms stop) fit (later a)
words_join names line after first x m ms stop (Err e) later fit =
    first_here (WordsDiagnostic names first (m ∷ ms) stop) (SpansPosition line (span_at line after (m ∷ ms) stop) (wanted_after first)) e fit.0 fit.1 fit.2

stopped_fit : (names : List (List ℕ)) (line : ℕ) (first : Bool) (after : ℕ) (s : LexError)
    → IsFirstOf (WordsDiagnostic names first [] (Some s)) (SpansPosition line (span_at line after [] (Some s)) (wanted_after first)) (plan.Text (refused_by line s))
stopped_fit names line first after s =
    first_here (WordsDiagnostic names first [] (Some s)) (SpansPosition line (span_at line after [] (Some s)) (wanted_after first)) (plan.Text (refused_by line s))
    (refl, inr (s, refl, flaw_kind s.flaw)) (refl, flaw_carries (λ w. w ≡ wanted_after first 0) s.flaw)
    (λ n h. ⊎_elim (λ ended. absurd (stopped ended.0)) (λ flaw. flaw_least s flaw.0 n flaw.1 flaw.2) h.1)
  where
    stopped : Some s ≡ None → ⊥
    stopped e = cc

pub words_fit : (names : List (List ℕ)) (line : ℕ) (first : Bool) (x : Attributes) (after : ℕ) (ms : List Mark) (stop : Option LexError)
    → WordsFit names line first x after ms stop (read_words names line first x ms stop)
unfolding read_words
words_fit names line true x after [] None =
    first_here (WordsDiagnostic names true [] None) (SpansPosition line (span_at line after [] None) (wanted_after true)) (plan.EmptyScheme line)
    (refl, inl (refl, refl, refl)) refl
    (λ n h. ⊎_elim (λ ended. omega (arith, ap number_of ended.2)) (λ flaw. absurd (no_flaw n flaw)) h.1)
words_fit names line false x after [] None = record {
  each = All-nil (IsAttribute format.Plain names);
  ended = refl;
  not_empty = λ first. absurd (false≢true first);
  members = sym (union-none x (attributes_of_words names []) refl);
  fine = λ p n h. ⊎_elim (λ ended. false≢true ended.1) (λ flaw. no_flaw n flaw) h.1;
}
words_fit names line true x after [] (Some s) = stopped_fit names line true after s
words_fit names line false x after [] (Some s) = stopped_fit names line false after s
words_fit names line true x after (m ∷ ms) stop =
    words_join names line after true x m ms stop (attribute_of_token names line true m m.kind)
    (λ a. words_fit names line false (union x (only a)) (m.column + m.length) ms stop) (token_fits names line after m ms stop true m.kind refl)
words_fit names line false x after (m ∷ ms) stop =
    words_join names line after false x m ms stop (attribute_of_token names line false m m.kind)
    (λ a. words_fit names line false (union x (only a)) (m.column + m.length) ms stop) (token_fits names line after m ms stop false m.kind refl)
