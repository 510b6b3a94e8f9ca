-- A list of names is read where nothing is wrong, or refused by its first diagnostic.
use Rattle.std.proofs.Common.{◌≡◌, ◌<◌, ◌≤◌, ◌+◌, ◌⊎◌, inl, inr, ℕ, suc, Bool, true, false, cond, List, [], ◌∷◌, ◌++◌, length, take, Option, Some, None, Ok, Err, Result, refl, sym, ◌∙◌, ap, subst, arith, append_assoc, length-append, ⊎_elim}
use Rattle.std.specs.Prelude.{map, nat_le}
use Rattle.std.specs.List.{slice_get, All}
use Rattle.std.specs.Option.{is_some}
use Rattle.std.proofs.lemmas.Bool.{cases_lt, cases_order, leb-true, leb-false}
use Rattle.std.proofs.Math.Seq.{take-suc}
use Rattle.std.proofs.lemmas.List.{append-nil, map-append, nil_from_length}
use Rattle.std.proofs.lemmas.List.Elements.{All-nil, All-push}
use Rattle.std.proofs.lemmas.Option.{slice_get_within, get_or_from_slice_get}
use Rattle.attr_sets.specs.declared.set.TheConstants.{MOST_ATTRIBUTES}
use Rattle.attr_sets.specs.Attributes.{only}
use Rattle.schema_model.specs.declared.column_type.ColumnType.{ColumnType}
use Rattle.schema_model.specs.Schemas.{attribute_named}
use Rattle.lexer.specs.declared.token.LexError.{LexError}
use Rattle.lexer.specs.Tokens.{Mark}
use Rattle.schema_grammar.specs.declared.line_kind.Purpose.{Purpose}
use Rattle.schema_grammar.specs.declared.line_kind.Purpose.TheVariants as purpose
use Rattle.schema_grammar.specs.declared.refusal.SchemaRefusal.{SchemaRefusal}
use Rattle.schema_grammar.specs.declared.refusal.SchemaRefusalKind.{SchemaRefusalKind}
use Rattle.schema_grammar.specs.declared.refusal.SchemaRefusalKind.TheVariants as kind
use Rattle.schema_grammar.specs.declared.refusal.What.TheVariants as what
use Rattle.schema_grammar.specs.declared.format.Format.{Format}
use Rattle.schema_grammar.specs.DiagnosticKinds.{DiagnosticKind, expected, number_of, diagnostic_kind, diagnostic_of_flaw}
use Rattle.schema_grammar.specs.Diagnostics.{NewNameDiagnostic, NameDiagnostic, DiagnosesOfWord, TokenDiagnostic, NamesDiagnostic, NamesWant, Carries, span_at, FitsNames}
use Rattle.schema_grammar.specs.Declarations.{Declarations, add_name, add_nullable, declare, allow, name_step, what_after_names, list_names}
use Rattle.schema_grammar.specs.Refusals.{at, refused_by, refusal, kind_of_flaw}
use Rattle.schema_grammar.specs.Words.{is_word_token, is_reserved_token, look_up, known_attribute}
use Rattle.schema_grammar.proofs.WordLemmas.{name_step-word, name_step-other}
use Rattle.schema_grammar.specs.Rests.{◌>>=◌}
use Rattle.schema_grammar.proofs.DiagnosticLaws.{flaw_carries, flaw_least, Carries-map, first_at, IsLeft, left_whole, left_next, Judged, flaw_kind}
use Rattle.schema_grammar.proofs.KindLemmas.{same_number}

-- what is wrong with one token
abbrev TokenFault : (Mark → DiagnosticKind → Type 0) → Mark → DiagnosticKind → Type 0
TokenFault Wrong m n =
    ((is_word_token m.kind ≡ true) × Wrong m n) ⊎ ((n ≡ expected) × (is_word_token m.kind ≡ false))

-- what a token in a line of names gives: after it `Next` holds of what is declared
abbrev NameFits : (Mark → DiagnosticKind → Type 0) → (Declarations → Type 0) → Bool → Mark
    → Result Declarations SchemaRefusalKind → Type 0
NameFits Wrong Next any_name m (Ok next) =
    Next next × (is_word_token m.kind ≡ true) × ((n : DiagnosticKind) → TokenFault Wrong m n → ⊥)
NameFits Wrong Next any_name m (Err why) =
    TokenFault Wrong m (diagnostic_kind why) ×
    ((n : DiagnosticKind) → TokenFault Wrong m n → number_of (diagnostic_kind why) ≤ number_of n)
    × Carries (λ w. w ≡ what_after_names any_name) why

-- a token is no word
no_word : (f : Format) (p : Purpose) (d : Declarations) (Wrong : Mark → DiagnosticKind → Type 0)
    (Next : Declarations → Type 0) (any_name : Bool) (m : Mark) → is_word_token m.kind ≡ false
    → NameFits Wrong Next any_name m (name_step f p d any_name m.kind m.word)
no_word f p d Wrong Next any_name m is =
    rw (name_step-other f p d any_name m.kind m.word is) (
      inr (refl, is),
      (λ n fault. ⊎_elim (λ (word : (is_word_token m.kind ≡ true) × Wrong m n). let wrong = sym word.0 ∙ is in cc)
          (λ other. omega (arith, ap number_of other.0)) fault),
      refl,
    )

abbrev words_in : List Mark → List (List ℕ)
words_in ms = map (λ w. w.word) ms

-- what is declared after these words of the line, by what they are for
abbrev Reached : Declarations → Purpose → List Mark → Declarations → Type 0
Reached d (purpose.Columns column) before now =
    (now.names ≡ d.names ++ words_in before) × (length now.names ≡ length d.names + length before)
Reached d purpose.Nullable before now = now.names ≡ d.names

new_name_fits : (f : Format) (column : ColumnType) (d now : Declarations) (before : List Mark) (any_name : Bool) (m : Mark)
    → Reached d (purpose.Columns column) before now
    → NameFits (NewNameDiagnostic f d before) (Reached d (purpose.Columns column) (before ++ m ∷ [])) any_name m
    (name_step f (purpose.Columns column) now any_name m.kind m.word)
unfolding declare
new_name_fits f column d now before any_name m reached = by_cases (is_word_token m.kind) refl
  where
    Wrong : Mark → DiagnosticKind → Type 0
    Wrong = NewNameDiagnostic f d before

    Next : Declarations → Type 0
    Next = Reached d (purpose.Columns column) (before ++ m ∷ [])

    next : Next (add_name now m.word column)
    next = (
      ap (λ t. t ++ m.word ∷ []) reached.0 ∙ append_assoc d.names (words_in before) (m.word ∷ [])
          ∙ ap (λ t. d.names ++ t) (sym (map-append (λ (x : Mark). x.word) before (m ∷ []))),
      let more = length-append now.names (m.word ∷ []) in
          let words = length-append before (m ∷ []) in
          let same = reached.1 in omega arith,
    )

    word : is_word_token m.kind ≡ true → (a b c : Bool) → is_reserved_token f m.kind m.word ≡ a
        → is_some (attribute_named (d.names ++ words_in before) m.word) ≡ b → nat_le MOST_ATTRIBUTES (length now.names) ≡ c
        → NameFits Wrong Next any_name m
        (cond a (Err kind.ReservedName)
        (cond b (Err kind.DoubleName) (cond c (Err kind.TooManyAttributes) (Ok (add_name now m.word column)))))
    word is true b c reserved double full =
        (inl (is, inl (inl (refl, reserved))), (λ n diagnostic. grind (arith, same_number)), tt)
    word is false true c not_reserved double full =
        (inl (is, inl (inr (refl, double))), (λ n diagnostic. grind (arith, same_number)), tt)
    word is false false true not_reserved new full =
        let size = reached.1 in
        let most = leb-true _ _ full in
        (inl (is, inr (refl, omega arith)), (λ n diagnostic. grind (arith, same_number)), tt)
    word is false false false not_reserved new full =
        let size = reached.1 in
        (next, is, λ n diagnostic. let room = leb-false _ _ full in grind arith)

    by_cases : (b : Bool) → is_word_token m.kind ≡ b
        → NameFits Wrong Next any_name m (name_step f (purpose.Columns column) now any_name m.kind m.word)
    by_cases true is =
        rw (name_step-word f (purpose.Columns column) now any_name m.kind m.word is)
        (word is (is_reserved_token f m.kind m.word) (is_some (attribute_named now.names m.word))
        (nat_le MOST_ATTRIBUTES (length now.names)) refl
        (ap (λ t. is_some (attribute_named t m.word)) (sym reached.0)) refl)
    by_cases false is = no_word f (purpose.Columns column) now Wrong Next any_name m is

known_name_fits : (f : Format) (d now : Declarations) (before : List Mark) (any_name : Bool) (m : Mark)
    → Reached d purpose.Nullable before now
    → NameFits (DiagnosesOfWord f d.names) (Reached d purpose.Nullable (before ++ m ∷ [])) any_name m
    (name_step f purpose.Nullable now any_name m.kind m.word)
unfolding allow look_up
known_name_fits f d now before any_name m reached = by_cases (is_word_token m.kind) refl
  where
    word : is_word_token m.kind ≡ true → (r : Bool) (o : Option ℕ) → is_reserved_token f m.kind m.word ≡ r
        → attribute_named d.names m.word ≡ o
        → NameFits (DiagnosesOfWord f d.names) (Reached d purpose.Nullable (before ++ m ∷ [])) any_name m
        (cond r (Err kind.ReservedName) (known_attribute o) >>= (λ a. Ok (add_nullable now (only a))))
    word is true o reserved lookup =
        (inl (is, (is, inl (refl, reserved))), (λ n diagnostic. grind (arith, same_number)), tt)
    word is false None not_reserved lookup =
        (inl (is, (is, inr (refl, lookup))), (λ n diagnostic. grind (arith, same_number)), tt)
    word is false (Some a) not_reserved lookup = (reached, is, λ n diagnostic. grind arith)

    by_cases : (b : Bool) → is_word_token m.kind ≡ b
        → NameFits (DiagnosesOfWord f d.names) (Reached d purpose.Nullable (before ++ m ∷ [])) any_name m
        (name_step f purpose.Nullable now any_name m.kind m.word)
    by_cases true is =
        rw (name_step-word f purpose.Nullable now any_name m.kind m.word is)
        (word is (is_reserved_token f m.kind m.word) (attribute_named now.names m.word) refl
        (ap (λ t. attribute_named t m.word) (sym reached)))
    by_cases false is =
        no_word f purpose.Nullable now (DiagnosesOfWord f d.names) (Reached d purpose.Nullable (before ++ m ∷ [])) any_name m is

name_fits : (f : Format) (p : Purpose) (d now : Declarations) (before : List Mark) (any_name : Bool) (m : Mark)
    → Reached d p before now
    → NameFits (NameDiagnostic f d p before) (Reached d p (before ++ m ∷ [])) any_name m
    (name_step f p now any_name m.kind m.word)
name_fits f (purpose.Columns column) d now before any_name m reached = new_name_fits f column d now before any_name m reached
name_fits f purpose.Nullable d now before any_name m reached = known_name_fits f d now before any_name m reached

-- names are read where nothing is wrong, or refused by the first diagnostic, after so many of the words
judge_names : (f : Format) (p : Purpose) (d : Declarations) (line first : ℕ) (whole : List Mark)
    (stop : Option LexError)
    (words : List Mark) (k from : ℕ) (any_name : Bool) (now : Declarations)
    → IsLeft line first whole stop k from words → Reached d p (take k whole) now
    → All (λ w. is_word_token w.kind ≡ true) (take k whole) → NamesWant k (what_after_names any_name)
    → ((q : ℕ) (n : DiagnosticKind) → q < k → NamesDiagnostic (NameDiagnostic f d p) whole stop q n → ⊥)
    → Judged (NamesDiagnostic (NameDiagnostic f d p) whole stop) NamesWant (span_at line first whole stop)
    (list_names f p line now any_name from words stop)
unfolding list_names
judge_names f p d line first whole stop [] k from any_name now left reached each want before =
    by_cases any_name stop refl want
  where
    all : k ≡ length whole
    all = let size = left.size in omega arith

    there : span_at line first whole stop k ≡ span_at line from [] stop 0
    there = left.spans 0 k (omega arith)

    ended : (q : ℕ) (n : DiagnosticKind) → k ≤ q → NamesDiagnostic (NameDiagnostic f d p) whole stop q n
        → ((n ≡ expected) × (q ≡ 0)) ⊎ ((s : LexError) × (stop ≡ Some s) × (n ≡ diagnostic_of_flaw s.flaw))
    ended q n on (inl (inl (m, is, each_word, diagnostic))) =
        absurd (omega (arith, all, slice_get_within whole q m is))
    ended q n on (inl (inr (six, position, nothing, none))) = inl (six, position)
    ended q n on (inr (s, is, position, number)) = inr (s, is, number)

    by_cases : (any_name : Bool) (o : Option LexError) → stop ≡ o → NamesWant k (what_after_names any_name)
        → Judged (NamesDiagnostic (NameDiagnostic f d p) whole stop) NamesWant (span_at line first whole stop)
        (list_names f p line now any_name from [] o)
    by_cases true None is want = λ q n diagnostic. ⊎_elim (λ (earlier : q < k). before q n earlier diagnostic)
        (λ (later : k ≤ q).
        ⊎_elim (λ none. ⊎_elim (λ here. let wrong = here.1 in cc) (λ on. omega (arith, on.0, none.1)) want)
        (λ flaw. let wrong = flaw.1 in cc) (ended q n later diagnostic))
        (cases_lt q k)
    by_cases false None is want =
        let here : k ≡ 0 = ⊎_elim (λ here. here.0) (λ on. let wrong = on.1 in cc) want in
        first_at _ NamesWant _ (refusal line from 0 (kind.Expected what.Name)) k before
        (inl (inr (refl, here, nil_from_length whole (sym all ∙ here), is))) want
        (sym (there ∙ ap (λ o. span_at line from [] o 0) is))
        (λ n diagnostic. ⊎_elim (λ none. omega (arith, ap number_of none.0)) (λ flaw. let wrong = flaw.1 in cc)
        (ended k n (omega arith) diagnostic))
    by_cases any_name (Some s) is want =
        first_at _ NamesWant _ (refused_by line s) k before (inr (s, is, all, flaw_kind s.flaw))
        (flaw_carries (NamesWant k) s.flaw)
        (sym (there ∙ ap (λ o. span_at line from [] o 0) is)) least
      where
        least : (n : DiagnosticKind) → NamesDiagnostic (NameDiagnostic f d p) whole stop k n → number_of (diagnostic_kind (kind_of_flaw s.flaw)) ≤ number_of n
        least n (inl (inl (m, here, each_word, diagnostic))) =
            absurd (omega (arith, all, slice_get_within whole k m here))
        least n (inl (inr (six, position, nothing, none))) = cc
        least n (inr (t, here, position, number)) = flaw_least s t n (sym is ∙ here) number
judge_names f p d line first whole stop (w ∷ words) k from any_name now left reached each want before =
    by_cases (name_step f p now any_name w.kind w.word) (name_fits f p d now (take k whole) any_name w reached)
    (λ next on each_word none. judge_names f p d line first whole stop words (suc k)
    (w.column + w.length) true next (left_next line first whole stop k from w words left) on each_word
    (inr (omega arith, refl)) none)
  where
    is : slice_get whole k ≡ Some w
    is = left.marks 0 k (omega arith)

    less : k < length whole
    less = slice_get_within whole k w is

    taken : take (suc k) whole ≡ take k whole ++ w ∷ []
    taken = take-suc whole k w less ∙ ap (λ x. take k whole ++ x ∷ []) (get_or_from_slice_get whole k w w is)

    at_word : (n : DiagnosticKind) → NamesDiagnostic (NameDiagnostic f d p) whole stop k n
        → TokenDiagnostic (NameDiagnostic f d p) (take k whole) w n
    at_word n (inl (inl (m, here, all, diagnostic))) =
        subst (λ (x : Mark). TokenDiagnostic (NameDiagnostic f d p) (take k whole) x n)
        (let same : m ≡ w = cc (here, is) in same) diagnostic
    at_word n (inl (inr (six, position, nothing, none))) = absurd (omega (arith, less, ap length nothing))
    at_word n (inr (s, here, position, number)) = absurd (omega (arith, less))

    by_cases : (o : Result Declarations SchemaRefusalKind)
        → NameFits (NameDiagnostic f d p (take k whole)) (Reached d p (take k whole ++ w ∷ [])) any_name w o
        → ((next : Declarations) → Reached d p (take (suc k) whole) next
        → All (λ x. is_word_token x.kind ≡ true) (take (suc k) whole)
        → ((q : ℕ) (n : DiagnosticKind) → q < suc k → NamesDiagnostic (NameDiagnostic f d p) whole stop q n → ⊥)
        → Judged (NamesDiagnostic (NameDiagnostic f d p) whole stop) NamesWant (span_at line first whole stop)
        (list_names f p line next true (w.column + w.length) words stop))
        → Judged (NamesDiagnostic (NameDiagnostic f d p) whole stop) NamesWant (span_at line first whole stop)
        (at line w.column w.length o
        >>= (λ next. list_names f p line next true (w.column + w.length) words stop))
    by_cases (Ok next) (on, word, none) rest = rest next
        (subst (λ (before : List Mark). Reached d p before next) (sym taken) on)
        (rw taken (All-push (λ x. is_word_token x.kind ≡ true) (take k whole) w each word))
        (λ q n small diagnostic. elim (cases_order q k) [
          | inl here ↦ none n (at_word n
              (subst (λ (r : ℕ). NamesDiagnostic (NameDiagnostic f d p) whole stop r n) here diagnostic))
          | inr (inl earlier) ↦ before q n earlier diagnostic
          | inr (inr later) ↦ absurd (omega arith)
        ])
    by_cases (Err why) (stands, least, carries) rest =
        first_at _ NamesWant _ (refusal line w.column w.length why) k before
        (inl (inl (w, is, each, stands)))
        (Carries-map (λ x. x ≡ what_after_names any_name) (NamesWant k)
        (λ x same. subst (NamesWant k) (sym same) want) why carries)
        (sym (left.spans 0 k (omega arith))) (λ n diagnostic. least n (at_word n diagnostic))

-- a line of names is refused by its first diagnostic, and read where there is none
pub names-law : (f : Format) (p : Purpose) (d : Declarations) (line next_column : ℕ) (words : List Mark) (stop : Option LexError)
    → FitsNames (NameDiagnostic f d p) line next_column words stop (list_names f p line d false next_column words stop)
names-law f p d line next_column words stop =
    fits (list_names f p line d false next_column words stop)
    (judge_names f p d line next_column words stop words 0 next_column false d
    (left_whole line next_column words stop) (nothing p) (All-nil (λ w. is_word_token w.kind ≡ true))
    (inl (refl, refl)) (λ q n less. absurd (omega arith)))
  where
    nothing : (p : Purpose) → Reached d p [] d
    nothing (purpose.Columns column) = (sym (append-nil d.names), omega arith)
    nothing purpose.Nullable = refl

    fits : (res : Result Declarations SchemaRefusal)
        → Judged (NamesDiagnostic (NameDiagnostic f d p) words stop) NamesWant (span_at line next_column words stop) res
        → FitsNames (NameDiagnostic f d p) line next_column words stop res
    fits (Ok whole) none = none
    fits (Err e) first = first
