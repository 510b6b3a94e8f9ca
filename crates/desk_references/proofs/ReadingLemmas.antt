-- A list of columns as far as its tokens were read: it is read where nothing is wrong, or refused by its first
-- diagnostic.
use Rattle.std.specs.Prelude.{AllPairs, Contains}
use Rattle.std.specs.List.{AllZip, slice_get}
use Rattle.std.proofs.Common.{inl, inr, ◌≡◌, ◌<◌, ◌≤◌, ◌+◌, ◌⊎◌, ℕ, zero, suc, true, List, [], ◌∷◌, ◌++◌, length, take, get_or, Option, Some, None, refl, sym, ap, subst, ◌∙◌, ⊎_elim, arith}
use Rattle.std.proofs.Math.Seq.{take-length, take-suc}
use Rattle.std.proofs.lemmas.Bool.{cases_order}
use Rattle.std.proofs.lemmas.List.{length-append, nil_from_length}
use Rattle.std.proofs.lemmas.Option.{get_or_from_slice_get, slice_get_within}
use Rattle.dep_model.proofs.PairLemmas.{no_pairs, pairs_append}
use Rattle.desk_references.specs.ColumnLists.{ColumnDiagnostic, MeansColumns, NamesColumnAt, RefusesColumns}
use Rattle.desk_references.specs.ColumnSteps.{IsRefusedNext, NamesNext}
use Rattle.desk_references.specs.declared.columns.TheConstants.{MOST_LISTED_COLUMNS}
use Rattle.desk_references.proofs.ZipLemmas.{zip_length, zip_push}
use Rattle.lexer.specs.Modes as mode
use Rattle.lexer.specs.Tokens.{Lexed, Mark, lex}
use Rattle.lexer.specs.declared.token.LexError.{LexError}
use Rattle.schema_grammar.specs.DiagnosticKinds.{DiagnosticKind, diagnostic_kind, expected, number_of}
use Rattle.schema_grammar.specs.Diagnostics.{Carries, NamesDiagnostic, NamesWant, TokenDiagnostic, span_at}
use Rattle.schema_grammar.specs.Refusals.{kind_of_flaw, refusal, refused_by}
use Rattle.schema_grammar.specs.Rests.{Rest, rest_from}
use Rattle.schema_grammar.specs.Words.{is_word_token}
use Rattle.schema_grammar.specs.declared.refusal.SchemaRefusal.{SchemaRefusal}
use Rattle.schema_grammar.specs.declared.refusal.SchemaRefusalKind.{SchemaRefusalKind}
use Rattle.schema_grammar.specs.declared.refusal.SchemaRefusalKind.TheVariants as kind
use Rattle.schema_grammar.specs.declared.refusal.Span.{Span}
use Rattle.schema_grammar.specs.declared.refusal.What.TheVariants as what
use Rattle.schema_grammar.proofs.DiagnosticLaws.{IsLeft, first_at, flaw_carries, flaw_kind, flaw_least, left_next, left_whole}
use Rattle.schema_model.specs.declared.naming.Naming.TheVariants.{Any}
use Rattle.std.specs.List.{All}
use Rattle.tokens.specs.Views.{HasEnded, IsLed, IsStopped}

-- words that name columns are words
all_more : (P : Mark → Type 0) (w : Mark) (ms : List Mark) → P w → All P ms → All P (w ∷ ms)
all_more P w ms first rest zero d l = first
all_more P w ms first rest (suc i) d l = rest i d (omega (arith, l))

are_words : (names : List (List ℕ)) (ms : List Mark) (xs : List ℕ) → AllZip (NamesColumnAt names) ms xs
    → All (λ (w : Mark). is_word_token w.kind ≡ true) ms
are_words names [] xs h = λ i d l. absurd (omega (arith, l))
are_words names (w ∷ ms) [] h = absurd h
are_words names (w ∷ ms) (x ∷ xs) h =
    all_more (λ (v : Mark). is_word_token v.kind ≡ true) w ms h.0.word (are_words names ms xs h.1)

abbrev pub lexed : List ℕ → Lexed
lexed text = lex (mode.goal Any) text

abbrev pub Wrong : List (List ℕ) → List ℕ → ℕ → DiagnosticKind → Type 0
Wrong names text = NamesDiagnostic (ColumnDiagnostic names) (lexed text).marks (lexed text).stop

abbrev pub span : List ℕ → ℕ → Span
span text = span_at 1 1 (lexed text).marks (lexed text).stop

-- the tokens so far name these columns, and nothing is wrong with them
pub record AreRead (names : List (List ℕ)) (text : List ℕ) (columns : List ℕ) (rest : Rest) : Type 0 where
  pub left : IsLeft 1 1 (lexed text).marks (lexed text).stop (length columns) rest.next_column rest.marks
  pub stop : rest.stop ≡ (lexed text).stop
  pub line : rest.line ≡ 1
  pub named : AllZip (NamesColumnAt names) (take (length columns) (lexed text).marks) columns
  pub room : length columns ≤ MOST_LISTED_COLUMNS
  pub apart : AllPairs (λ (one other : ℕ). one ≡ other → ⊥) columns
  pub before : (q : ℕ) (why : DiagnosticKind) → q < length columns → Wrong names text q why → ⊥

pub none_read : (names : List (List ℕ)) (text : List ℕ) (rest : Rest) → rest ≡ rest_from 1 1 (lexed text) → AreRead names text [] rest
none_read names text rest is = subst (AreRead names text []) (sym is) (record {
  left = left_whole 1 1 (lexed text).marks (lexed text).stop;
  stop = refl;
  line = refl;
  named = tt;
  room = omega arith;
  apart = no_pairs (λ (one other : ℕ). one ≡ other → ⊥);
  before = λ q why low. absurd (omega (arith, low));
})

module _ (names : List (List ℕ)) (text : List ℕ) (columns : List ℕ) (rest : Rest) (read : AreRead names text columns rest) where
  abbrev whole : List Mark
  whole = (lexed text).marks

  abbrev k : ℕ
  k = length columns

  -- no token is left
  all_read : rest.marks ≡ [] → k ≡ length whole
  all_read none = let size = read.left.size in omega (arith, size, ap length none)

  place : (ms : List Mark) (o : Option LexError) → rest.marks ≡ ms → rest.stop ≡ o → span text k ≡ span_at 1 rest.next_column ms o 0
  place ms o marks stop =
      read.left.spans 0 k (omega arith)
      ∙ ap (λ (x : List Mark). span_at 1 rest.next_column x (lexed text).stop 0) marks
      ∙ ap (λ (x : Option LexError). span_at 1 rest.next_column ms x 0) (sym read.stop ∙ stop)

  -- ---- the end
  pub columns_are : HasEnded rest → 0 < k → MeansColumns names text columns
  columns_are ended some = record {
    marks = whole;
    tokens = ap (λ (o : Option LexError). record { marks = whole; stop = o }) (sym read.stop ∙ ended.stop);
    each = subst (λ (ms : List Mark). AllZip (NamesColumnAt names) ms columns)
        (ap (λ (n : ℕ). take n whole) (all_read ended.marks) ∙ take-length whole) read.named;
    some = some;
    within_limit = read.room;
    apart = read.apart;
  }

  pub no_column : HasEnded rest → k ≡ 0 → RefusesColumns names text (refusal rest.line rest.next_column 0 (kind.Expected what.Name))
  no_column ended none =
      let nothing : whole ≡ [] = nil_from_length whole (sym (all_read ended.marks) ∙ none) in
      let stop : (lexed text).stop ≡ None = sym read.stop ∙ ended.stop in
      first_at (Wrong names text) NamesWant (span text) _ k read.before
      (inl (inr (refl, none, nothing, stop)))
      (inl (none, refl))
      (ap (λ (line : ℕ). record { line = line; column = rest.next_column; length = 0 }) read.line ∙ sym (place [] None ended.marks ended.stop))
      (λ why wrong. ended_least why wrong stop)
    where
      ended_least : (why : DiagnosticKind) → Wrong names text k why → (lexed text).stop ≡ None → 6 ≤ number_of why
      ended_least why (inl (inl (m, is, words, rest_of_it))) none = absurd (omega (arith, all_read ended.marks, slice_get_within whole k m is))
      ended_least why (inl (inr (six, at, nothing, ends))) none = omega (arith, ap number_of six)
      ended_least why (inr (s, is, at, flawed)) none = let wrong = sym none ∙ is in cc

  -- ---- bytes that are no token
  pub stopped_at : (e : SchemaRefusal) → IsStopped rest e → RefusesColumns names text e
  stopped_at e stopped =
      let s : LexError = stopped.by in
      let stop : (lexed text).stop ≡ Some s = sym read.stop ∙ stopped.stop in
      let whole_line : refused_by rest.line s ≡ refused_by 1 s = ap (λ (line : ℕ). refused_by line s) read.line in
      subst (RefusesColumns names text) (sym (stopped.refusal ∙ whole_line))
      (first_at (Wrong names text) NamesWant (span text) (refused_by 1 s) k read.before
      (inr (s, stop, all_read stopped.marks, flaw_kind s.flaw))
      (flaw_carries (NamesWant k) s.flaw)
      (sym (place [] (Some s) stopped.marks stopped.stop))
      (λ why wrong. flaw_first why wrong s stop))
    where
      flaw_first : (why : DiagnosticKind) → Wrong names text k why → (s : LexError) → (lexed text).stop ≡ Some s
          → number_of (diagnostic_kind (kind_of_flaw s.flaw)) ≤ number_of why
      flaw_first why (inl (inl (m, is, words, more))) s stop = absurd (omega (arith, all_read stopped.marks, slice_get_within whole k m is))
      flaw_first why (inl (inr (six, position, nothing, none))) s stop = let wrong = sym none ∙ stop in cc
      flaw_first why (inr (t, is, position, number)) s stop = flaw_least s t why (sym stop ∙ is) number

  -- ---- a token
  module _ (m : Mark) (after : Rest) (led : IsLed rest m after) where
    here : slice_get whole k ≡ Some m
    here = read.left.marks 0 k (omega arith) ∙ ap (λ (ms : List Mark). slice_get ms 0) led.marks

    inside : k < length whole
    inside = slice_get_within whole k m here

    taken : take (suc k) whole ≡ take k whole ++ m ∷ []
    taken = take-suc whole k m inside ∙ ap (λ (x : Mark). take k whole ++ x ∷ []) (get_or_from_slice_get whole k m m here)

    -- what is wrong here is wrong with the token
    of_token : (why : DiagnosticKind) → Wrong names text k why → TokenDiagnostic (ColumnDiagnostic names) (take k whole) m why
    of_token why (inl (inl (other, is, all, wrong))) =
        subst (λ (x : Mark). TokenDiagnostic (ColumnDiagnostic names) (take k whole) x why) (same other (sym is ∙ here)) wrong
      where
        same : (x : Mark) → Some x ≡ Some m → x ≡ m
        same x e = cc
    of_token why (inl (inr (six, position, nothing, none))) = absurd (omega (arith, inside, ap length nothing))
    of_token why (inr (s, is, position, number)) = absurd (omega (arith, inside, position))

    pub refused_at : (why : SchemaRefusalKind) → IsRefusedNext names (take k whole) m why
        → RefusesColumns names text (refusal rest.line m.column m.length why)
    refused_at why refused =
        first_at (Wrong names text) NamesWant (span text) _ k read.before
        (inl (inl (m, here, are_words names (take k whole) columns read.named, refused.stands)))
        (subst (λ (n : ℕ). Carries (NamesWant n) why) (length_taken) refused.carries)
        (ap (λ (line : ℕ). record { line = line; column = m.column; length = m.length }) read.line
        ∙ sym (place (m ∷ after.marks) (lexed text).stop led.marks read.stop))
        (λ other wrong. refused.least other (of_token other wrong))
      where
        length_taken : length (take k whole) ≡ k
        length_taken = zip_length (NamesColumnAt names) (take k whole) columns read.named

    pub one_more : (column : ℕ) → NamesNext names (take k whole) columns m column → AreRead names text (columns ++ column ∷ []) after
    one_more column next = record {
      left = subst (λ (n : ℕ). IsLeft 1 1 whole (lexed text).stop n after.next_column after.marks) (sym grown)
          (subst (λ (c : ℕ). IsLeft 1 1 whole (lexed text).stop (suc k) c after.marks) (sym led.column)
          (left_next 1 1 whole (lexed text).stop k rest.next_column m after.marks
          (subst (IsLeft 1 1 whole (lexed text).stop k rest.next_column) led.marks read.left)));
      stop = sym led.stop ∙ read.stop;
      line = led.line ∙ read.line;
      named = subst (λ (n : ℕ). AllZip (NamesColumnAt names) (take n whole) (columns ++ column ∷ [])) (sym grown)
          (subst (λ (ms : List Mark). AllZip (NamesColumnAt names) ms (columns ++ column ∷ [])) (sym taken)
          (zip_push (NamesColumnAt names) (take k whole) columns m column read.named next.named));
      room = omega (arith, grown, next.room);
      apart = pairs_append (λ (one other : ℕ). one ≡ other → ⊥) columns (column ∷ []) read.apart one_pair
          (λ one other one_in other_in same. next.new (subst (Contains columns) (same ∙ only_one other other_in) one_in));
      before = λ q why low wrong. elim (cases_order q k) [
        | inl same ↦ next.nothing_wrong why (of_token why (subst (λ (p : ℕ). Wrong names text p why) same wrong))
        | inr (inl less) ↦ read.before q why less wrong
        | inr (inr more) ↦ absurd (omega (arith, low, more, grown))
      ];
    }
      where
        grown : length (columns ++ column ∷ []) ≡ suc k
        grown = length-append columns (column ∷ []) ∙ omega arith

        one_pair : AllPairs (λ (one other : ℕ). one ≡ other → ⊥) (column ∷ [])
        one_pair i j d before low = absurd (omega (arith, before, low))

        only_one : (other : ℕ) → Contains (column ∷ []) other → other ≡ column
        only_one other (i, low, at) = first other i low at
          where
            first : (o i : ℕ) → i < 1 → get_or (column ∷ []) i o ≡ o → o ≡ column
            first o zero l e = sym e
            first o (suc i) l e = absurd (omega (arith, l))
