-- What stands after the word `table`: read where nothing is wrong with it, or refused by the first diagnostic.
use Rattle.std.proofs.Common.{◌≡◌, ◌<◌, ◌≤◌, ◌+◌, ℕ, Bool, true, false, cond, List, [], ◌∷◌, length, Option, Some, None, Result, Ok, Err, refl, sym, ap, ◌∙◌, inl, inr, ⊎_elim, arith}
use Rattle.std.specs.Prelude.{All}
use Rattle.std.specs.List.{list_any}
use Rattle.std.proofs.lemmas.Bool.{true≢false}
use Rattle.attr_sets.specs.Attributes.{Attributes, none}
use Rattle.lexer.specs.declared.token.LexError.{LexError}
use Rattle.lexer.specs.declared.token.TokenKind.{TokenKind}
use Rattle.lexer.specs.declared.token.TokenKind.TheVariants as token
use Rattle.lexer.specs.Tokens.{Mark, is_colon}
use Rattle.lexer.proofs.KindLemmas.{colon_kind}
use Rattle.schema_grammar.specs.declared.format.Format.TheVariants as format
use Rattle.schema_grammar.specs.declared.refusal.SchemaRefusalKind.{SchemaRefusalKind}
use Rattle.schema_grammar.specs.declared.refusal.SchemaRefusalKind.TheVariants as kind
use Rattle.schema_grammar.specs.declared.refusal.What.TheVariants as what
use Rattle.schema_grammar.specs.DiagnosticKinds.{DiagnosticKind, diagnostic_kind, number_of}
use Rattle.schema_grammar.specs.Diagnostics.{Carries, span_at}
use Rattle.schema_grammar.specs.Meanings.{IsAttribute, attributes_of_words}
use Rattle.schema_grammar.specs.Refusals.{refusal, refused_by, at}
use Rattle.schema_grammar.specs.Rests.{◌>>=◌}
use Rattle.schema_grammar.proofs.DiagnosticLaws.{flaw_carries, flaw_kind, flaw_least}
use Rattle.table_names.specs.TableNames.{is_given}
use Rattle.plan_printer.specs.NamedPlans.{PlannedTable}
use Rattle.plan_grammar.specs.declared.refusal.PlanRefusal.{PlanRefusal}
use Rattle.plan_grammar.specs.declared.refusal.PlanRefusal.TheVariants as plan
use Rattle.plan_grammar.specs.Meanings.{is_kept_word}
use Rattle.plan_grammar.specs.Diagnostics.{ColonDiagnostic, IsFirstOf, LabelDiagnostic, NamedDiagnostic, SpansPosition, is_label, wanted_name, wanted_named}
use Rattle.plan_grammar.specs.Reading.{name_of_token, of_text, read_colon, read_named, read_words, table_of}
use Rattle.plan_grammar.proofs.FirstLemmas.{first_here, first_later, later_fine, no_flaw}
use Rattle.plan_grammar.proofs.WordLemmas.{WordsFit, words_fit}

-- ---- after the name
-- `:` and attributes
pub record AreNamed (names : List (List ℕ)) (name : List ℕ) (ms : List Mark) (stop : Option LexError) (t : PlannedTable) : Type 0 where
  pub colon : Mark
  pub words : List Mark
  pub whole : ms ≡ colon ∷ words
  pub is_colon : colon.kind ≡ token.Colon
  pub ended : stop ≡ None
  pub not_empty : 0 < length words
  pub each : All (IsAttribute format.Plain names) words
  pub members : t.scheme ≡ attributes_of_words names words
  pub named : t.name ≡ Some name
  pub fine : (p : ℕ) (n : DiagnosticKind) → ColonDiagnostic names ms stop p n → ⊥

abbrev pub ColonFits : List (List ℕ) → ℕ → List ℕ → ℕ → List Mark → Option LexError → Result PlannedTable PlanRefusal → Type 0
ColonFits names line name after ms stop (Ok t) = AreNamed names name ms stop t
ColonFits names line name after ms stop (Err e) =
    IsFirstOf (ColonDiagnostic names ms stop) (SpansPosition line (span_at line after ms stop) wanted_named) e

colon_fine : (names : List (List ℕ)) (m : Mark) (ms : List Mark) (stop : Option LexError) (n : DiagnosticKind)
    → is_colon m.kind ≡ true → ColonDiagnostic names (m ∷ ms) stop 0 n → ⊥
colon_fine names m ms stop n is h = true≢false (sym is ∙ h.0)

after_colon : (names : List (List ℕ)) (line : ℕ) (name : List ℕ) (after : ℕ) (m : Mark) (ms : List Mark)
    (stop : Option LexError) (r : Result Attributes PlanRefusal) → is_colon m.kind ≡ true
    → WordsFit names line true none (m.column + m.length) ms stop r
    → ColonFits names line name after (m ∷ ms) stop (table_of (Some name) r)
after_colon names line name after m ms stop (Ok x) is fit = record {
  colon = m;
  words = ms;
  whole = refl;
  is_colon = colon_kind m.kind is;
  ended = fit.ended;
  not_empty = fit.not_empty refl;
  each = fit.each;
  members = fit.members;
  named = refl;
  fine = later_fine (ColonDiagnostic names (m ∷ ms) stop) (λ n h. colon_fine names m ms stop n is h) fit.fine;
}
after_colon names line name after m ms stop (Err e) is fit =
    first_later (ColonDiagnostic names (m ∷ ms) stop) (SpansPosition line (span_at line after (m ∷ ms) stop) wanted_named) e
    (λ n h. colon_fine names m ms stop n is h) fit

colon_case : (names : List (List ℕ)) (line : ℕ) (name : List ℕ) (after : ℕ) (m : Mark) (ms : List Mark)
    (stop : Option LexError) (b : Bool) → is_colon m.kind ≡ b
    → ColonFits names line name after (m ∷ ms) stop
    (cond b (table_of (Some name) (read_words names line true none ms stop))
    (Err (plan.Text (refusal line m.column m.length (kind.Expected what.Colon)))))
colon_case names line name after m ms stop true is =
    after_colon names line name after m ms stop (read_words names line true none ms stop) is
    (words_fit names line true none (m.column + m.length) ms stop)
colon_case names line name after m ms stop false other =
    first_here (ColonDiagnostic names (m ∷ ms) stop) (SpansPosition line (span_at line after (m ∷ ms) stop) wanted_named)
    (plan.Text (refusal line m.column m.length (kind.Expected what.Colon)))
    (other, refl) (refl, refl) (λ n h. omega (arith, ap number_of h.1))

pub colon_fits : (names : List (List ℕ)) (line : ℕ) (name : List ℕ) (after : ℕ) (ms : List Mark) (stop : Option LexError)
    → ColonFits names line name after ms stop (read_colon names line name after ms stop)
unfolding read_colon
colon_fits names line name after [] None =
    first_here (ColonDiagnostic names [] None) (SpansPosition line (span_at line after [] None) wanted_named)
    (plan.Text (refusal line after 0 (kind.Expected what.Colon)))
    (refl, inl (refl, refl)) (refl, refl)
    (λ n h. ⊎_elim (λ ended. omega (arith, ap number_of ended.1)) (λ flaw. absurd (no_flaw n flaw)) h.1)
colon_fits names line name after [] (Some s) =
    first_here (ColonDiagnostic names [] (Some s)) (SpansPosition line (span_at line after [] (Some s)) wanted_named)
    (plan.Text (refused_by line s))
    (refl, inr (s, refl, flaw_kind s.flaw)) (refl, flaw_carries (λ w. w ≡ wanted_named 0) s.flaw)
    (λ n h. ⊎_elim (λ ended. absurd (stopped ended.0)) (λ flaw. flaw_least s flaw.0 n flaw.1 flaw.2) h.1)
  where
    stopped : Some s ≡ None → ⊥
    stopped e = cc
colon_fits names line name after (m ∷ ms) stop = colon_case names line name after m ms stop (is_colon m.kind) refl

-- ---- the name
label_kind : (k : TokenKind) → is_label k ≡ true → k ≡ token.Identifier
label_kind token.Identifier is = refl
label_kind token.Quoted is = cc
label_kind (token.Number n) is = cc
label_kind token.Arrow is = cc
label_kind token.DoubleArrow is = cc
label_kind token.Empty is = cc
label_kind token.Colon is = cc

-- a token gives a name, or what is wrong with it
module _ (earlier : List (Option (List ℕ))) (m : Mark) where
  pub record IsName (name : List ℕ) : Type 0 where
    pub is_word : m.kind ≡ token.Identifier
    pub not_kept : is_kept_word m.word ≡ false
    pub new : list_any (is_given m.word) earlier ≡ false
    pub is : name ≡ m.word

  abbrev NameFits : Result (List ℕ) SchemaRefusalKind → Type 0
  NameFits (Ok name) = IsName name
  NameFits (Err why) = LabelDiagnostic earlier m (diagnostic_kind why) × Carries (λ w. w ≡ wanted_name 0) why
      × ((n : DiagnosticKind) → LabelDiagnostic earlier m n → number_of (diagnostic_kind why) ≤ number_of n)

  word_case : (b c : Bool) → is_kept_word m.word ≡ b → list_any (is_given m.word) earlier ≡ c
      → m.kind ≡ token.Identifier
      → NameFits (cond b (Err kind.ReservedName) (cond c (Err kind.DoubleName) (Ok m.word)))
  word_case true c kept given is = (
    inr (ap is_label is, inl (refl, kept)),
    tt,
    λ n h. ⊎_elim (λ six. absurd (true≢false (sym (ap is_label is) ∙ six.0)))
        (λ word. ⊎_elim (λ three. omega (arith, ap number_of three.0)) (λ four. omega (arith, ap number_of four.0)) word.1) h,
  )
  word_case false true kept given is = (
    inr (ap is_label is, inr (refl, given)),
    tt,
    λ n h. ⊎_elim (λ six. absurd (true≢false (sym (ap is_label is) ∙ six.0)))
        (λ word. ⊎_elim (λ three. absurd (true≢false (sym three.1 ∙ kept))) (λ four. omega (arith, ap number_of four.0)) word.1) h,
  )
  word_case false false kept given is = record { is_word = is; not_kept = kept; new = given; is = refl }

  other_case : is_label m.kind ≡ false → NameFits (Err (kind.Expected what.Name))
  other_case other = (
    inl (other, refl),
    refl,
    λ n h. ⊎_elim (λ six. omega (arith, ap number_of six.1)) (λ word. absurd (true≢false (sym word.0 ∙ other))) h,
  )

  name_fits : (k : TokenKind) → m.kind ≡ k → NameFits (name_of_token earlier m k)
  name_fits token.Identifier is = word_case (is_kept_word m.word) (list_any (is_given m.word) earlier) refl refl is
  name_fits token.Quoted is = other_case (ap is_label is)
  name_fits (token.Number n) is = other_case (ap is_label is)
  name_fits token.Arrow is = other_case (ap is_label is)
  name_fits token.DoubleArrow is = other_case (ap is_label is)
  name_fits token.Empty is = other_case (ap is_label is)
  name_fits token.Colon is = other_case (ap is_label is)

-- ---- both
-- a name, `:` and attributes
pub record IsNamedTable (names : List (List ℕ)) (earlier : List (Option (List ℕ))) (ms : List Mark) (stop : Option LexError)
    (t : PlannedTable) : Type 0 where
  pub label : Mark
  pub rest : List Mark
  pub whole : ms ≡ label ∷ rest
  pub name : IsName earlier label label.word
  pub after : AreNamed names label.word rest stop t
  pub fine : (p : ℕ) (n : DiagnosticKind) → NamedDiagnostic names earlier ms stop p n → ⊥

abbrev pub NamedFits : List (List ℕ) → ℕ → List (Option (List ℕ)) → ℕ → List Mark → Option LexError → Result PlannedTable PlanRefusal → Type 0
NamedFits names line earlier after ms stop (Ok t) = IsNamedTable names earlier ms stop t
NamedFits names line earlier after ms stop (Err e) =
    IsFirstOf (NamedDiagnostic names earlier ms stop) (SpansPosition line (span_at line after ms stop) wanted_name) e

name_fine : (earlier : List (Option (List ℕ))) (m : Mark) (n : DiagnosticKind) → IsName earlier m m.word → LabelDiagnostic earlier m n → ⊥
name_fine earlier m n is h =
    ⊎_elim (λ six. true≢false (sym (ap is_label is.is_word) ∙ six.0))
    (λ word. ⊎_elim (λ three. true≢false (sym three.1 ∙ is.not_kept)) (λ four. true≢false (sym four.1 ∙ is.new)) word.1) h

after_name : (names : List (List ℕ)) (line : ℕ) (earlier : List (Option (List ℕ))) (after : ℕ) (m : Mark) (ms : List Mark)
    (stop : Option LexError) (r : Result PlannedTable PlanRefusal) → IsName earlier m m.word
    → ColonFits names line m.word (m.column + m.length) ms stop r → NamedFits names line earlier after (m ∷ ms) stop r
after_name names line earlier after m ms stop (Ok t) is fit = record {
  label = m;
  rest = ms;
  whole = refl;
  name = is;
  after = fit;
  fine = later_fine (NamedDiagnostic names earlier (m ∷ ms) stop) (λ n h. name_fine earlier m n is h) fit.fine;
}
after_name names line earlier after m ms stop (Err e) is fit =
    first_later (NamedDiagnostic names earlier (m ∷ ms) stop) (SpansPosition line (span_at line after (m ∷ ms) stop) wanted_name) e
    (λ n h. name_fine earlier m n is h) fit

name_join : (names : List (List ℕ)) (line : ℕ) (earlier : List (Option (List ℕ))) (after : ℕ) (m : Mark) (ms : List Mark)
    (stop : Option LexError) (r : Result (List ℕ) SchemaRefusalKind) → NameFits earlier m r
    → NamedFits names line earlier after (m ∷ ms) stop
    (of_text (at line m.column m.length r) >>= (λ name. read_colon names line name (m.column + m.length) ms stop))
name_join names line earlier after m ms stop (Ok name) fit =
    let named : IsName earlier m m.word = record { is_word = fit.is_word; not_kept = fit.not_kept; new = fit.new; is = refl } in
    rw fit.is
    (after_name names line earlier after m ms stop (read_colon names line m.word (m.column + m.length) ms stop) named
    (colon_fits names line m.word (m.column + m.length) ms stop))
name_join names line earlier after m ms stop (Err why) fit =
    first_here (NamedDiagnostic names earlier (m ∷ ms) stop) (SpansPosition line (span_at line after (m ∷ ms) stop) wanted_name)
    (plan.Text (refusal line m.column m.length why)) fit.0 (refl, fit.1) fit.2

pub named_fits : (names : List (List ℕ)) (line : ℕ) (earlier : List (Option (List ℕ))) (after : ℕ) (ms : List Mark) (stop : Option LexError)
    → NamedFits names line earlier after ms stop (read_named names earlier line after ms stop)
unfolding read_named
named_fits names line earlier after [] None =
    first_here (NamedDiagnostic names earlier [] None) (SpansPosition line (span_at line after [] None) wanted_name)
    (plan.Text (refusal line after 0 (kind.Expected what.Name)))
    (refl, inl (refl, refl)) (refl, refl)
    (λ n h. ⊎_elim (λ ended. omega (arith, ap number_of ended.1)) (λ flaw. absurd (no_flaw n flaw)) h.1)
named_fits names line earlier after [] (Some s) =
    first_here (NamedDiagnostic names earlier [] (Some s)) (SpansPosition line (span_at line after [] (Some s)) wanted_name)
    (plan.Text (refused_by line s))
    (refl, inr (s, refl, flaw_kind s.flaw)) (refl, flaw_carries (λ w. w ≡ wanted_name 0) s.flaw)
    (λ n h. ⊎_elim (λ ended. absurd (stopped ended.0)) (λ flaw. flaw_least s flaw.0 n flaw.1 flaw.2) h.1)
  where
    stopped : Some s ≡ None → ⊥
    stopped e = cc
named_fits names line earlier after (m ∷ ms) stop =
    name_join names line earlier after m ms stop (name_of_token earlier m m.kind) (name_fits earlier m m.kind refl)
