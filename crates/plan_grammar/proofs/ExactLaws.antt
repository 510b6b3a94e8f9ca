-- A plan text has one meaning or one refusal, and never both.
use Rattle.std.proofs.Common.{◌≡◌, ◌<◌, ◌≤◌, ◌+◌, ℕ, suc, Bool, true, false, cond, not, ◌||◌, ◌⊎◌, List, [], ◌∷◌, ◌++◌, length, Option, Some, None, refl, sym, ap, subst, ◌∙◌, inl, inr, ⊎_elim, arith}
use Rattle.std.specs.Prelude.{All, codes}
use Rattle.std.proofs.lemmas.List.{length_push}
use Rattle.std.proofs.lemmas.Slice.Eq.{bytes_eq-Decides}
use Rattle.std.specs.List.{list_any}
use Rattle.std.proofs.lemmas.Bool.{false≢true, true≢false, ltb-true, and_parts, not-true, cases_order}
use Rattle.std.proofs.lemmas.List.Elements.{All-head, All-tail}
use Rattle.std.proofs.lemmas.List.Folds.{list_any-from_Any}
use Rattle.attr_sets.specs.Attributes.{Attributes, below, IsFirstFrom}
use Rattle.dep_model.specs.Projections.{Covers}
use Rattle.schema_model.specs.declared.naming.Naming.{Naming}
use Rattle.schema_grammar.specs.Words.{is_word_token}
use Rattle.lexer.specs.Lines.{line_texts, without_mark}
use Rattle.lexer.specs.Tokens.{Mark, Lexed, is_colon}
use Rattle.lexer.specs.declared.token.TokenKind.{TokenKind}
use Rattle.lexer.specs.declared.token.TokenKind.TheVariants as token
use Rattle.schema_grammar.specs.declared.format.Format.TheVariants as format
use Rattle.schema_grammar.specs.declared.refusal.SchemaRefusal.{SchemaRefusal}
use Rattle.schema_grammar.specs.declared.refusal.SchemaRefusalKind.{SchemaRefusalKind}
use Rattle.schema_grammar.specs.declared.refusal.SchemaRefusalKind.TheVariants as kind
use Rattle.schema_grammar.specs.declared.refusal.Span.{Span}
use Rattle.schema_grammar.specs.declared.refusal.What.{What}
use Rattle.schema_grammar.specs.DiagnosticKinds.{DiagnosticKind, empty_scheme, not_covered, too_many_schemes, diagnostic_kind}
use Rattle.schema_grammar.specs.Diagnostics.{span_at}
use Rattle.schema_grammar.specs.Meanings.{HasTokens, IsAttribute, attributes_of_words}
use Rattle.schema_grammar.proofs.OneRefusal.{both_least, same_carried, same_refusal}
use Rattle.plan_grammar.specs.declared.refusal.PlanRefusal.{PlanRefusal}
use Rattle.plan_grammar.specs.declared.refusal.PlanRefusal.TheVariants as plan
use Rattle.plans.specs.declared.bounds.TheConstants.{MOST_SCHEMES}
use Rattle.table_names.specs.TableNames.{is_given}
use Rattle.plan_printer.specs.NamedPlans.{NamedSchemes, PlannedTable, led_by_table}
use Rattle.plan_grammar.specs.LineTokens.{is_keyword, is_scheme, is_table, lex_line}
use Rattle.plan_grammar.specs.Meanings.{IsTableLine, MeansTable, MeansTableLines, MeansPlan, OpensScheme, OpensTable, is_kept_word}
use Rattle.plan_grammar.specs.Refusals.{plan_diagnostic_kind}
use Rattle.plan_grammar.specs.Diagnostics.{ColonDiagnostic, FirstTokenDiagnostic, LabelDiagnostic, NamedDiagnostic, RestDiagnostic, WordDiagnostic, WordsDiagnostic, TableLineDiagnostic, SpansPosition, IsFirstOf, IsFine, RefusesTableLines, is_label, line_wanted, name_given, names_with, opens_line, uncovered_attributes, RefusesPlan}
use Rattle.plan_grammar.proofs.FirstLemmas.{later_fine, no_flaw}
use Rattle.plan_grammar.proofs.LineLemmas.{lines_beside}

-- ---- one refusal
-- the kinds that only plans have
abbrev is_plan_kind : DiagnosticKind → Bool
is_plan_kind empty_scheme = true
is_plan_kind not_covered = true
is_plan_kind too_many_schemes = true
is_plan_kind why = false

not_plan_kind : (k : SchemaRefusalKind) → is_plan_kind (diagnostic_kind k) ≡ false
not_plan_kind (kind.Expected what) = refl
not_plan_kind k = refl

other_kinds : (k : SchemaRefusalKind) (why : DiagnosticKind) → is_plan_kind why ≡ true → diagnostic_kind k ≡ why → ⊥
other_kinds k why of_plan same = true≢false (sym of_plan ∙ ap is_plan_kind (sym same) ∙ not_plan_kind k)

same_there : (line : ℕ) (span : ℕ → Span) (want : ℕ → What) (p : ℕ) (e f : PlanRefusal) → SpansPosition line span want p e → SpansPosition line span want p f → plan_diagnostic_kind e ≡ plan_diagnostic_kind f → e ≡ f
same_there line span want p (plan.Text a) (plan.Text b) first second same =
    ap (λ (t : SchemaRefusal). plan.Text t)
    (same_refusal a b (first.0 ∙ sym second.0) (same_carried (λ w. w ≡ want p) a b (λ w v h g. h ∙ sym g) first.1 second.1 same))
same_there line span want p (plan.Text a) (plan.EmptyScheme l) first second same = absurd (other_kinds a.kind empty_scheme refl same)
same_there line span want p (plan.Text a) (plan.TooManySchemes l) first second same = absurd (other_kinds a.kind too_many_schemes refl same)
same_there line span want p (plan.Text a) (plan.NotCovered b) first second same = absurd second
same_there line span want p (plan.EmptyScheme l) (plan.Text b) first second same = absurd (other_kinds b.kind empty_scheme refl (sym same))
same_there line span want p (plan.EmptyScheme l) (plan.EmptyScheme m) first second same = ap (λ (n : ℕ). plan.EmptyScheme n) (first ∙ sym second)
same_there line span want p (plan.EmptyScheme l) (plan.TooManySchemes m) first second same = cc
same_there line span want p (plan.EmptyScheme l) (plan.NotCovered b) first second same = absurd second
same_there line span want p (plan.TooManySchemes l) (plan.Text b) first second same = absurd (other_kinds b.kind too_many_schemes refl (sym same))
same_there line span want p (plan.TooManySchemes l) (plan.EmptyScheme m) first second same = cc
same_there line span want p (plan.TooManySchemes l) (plan.TooManySchemes m) first second same = ap (λ (n : ℕ). plan.TooManySchemes n) (first ∙ sym second)
same_there line span want p (plan.TooManySchemes l) (plan.NotCovered b) first second same = absurd second
same_there line span want p (plan.NotCovered a) f first second same = absurd first

one_first : (Diagnostic : ℕ → DiagnosticKind → Type 0) (line : ℕ) (span : ℕ → Span) (want : ℕ → What) (e f : PlanRefusal)
    → IsFirstOf Diagnostic (SpansPosition line span want) e → IsFirstOf Diagnostic (SpansPosition line span want) f → e ≡ f
one_first Diagnostic line span want e f first second =
    let same = both_least first.position second.position (plan_diagnostic_kind e) (plan_diagnostic_kind f) (first.least second.position (plan_diagnostic_kind f) second.diagnostic) (second.least first.position (plan_diagnostic_kind e) first.diagnostic) in
    same_there line span want first.position e f first.there (subst (λ (p : ℕ). SpansPosition line span want p f) (sym same.0) second.there) same.1

pub one_refusal : (naming : Naming) (names : List (List ℕ)) (number : ℕ) (earlier : List (Option (List ℕ))) (lines : List (List ℕ)) (e f : PlanRefusal) → RefusesTableLines naming names number earlier lines e → RefusesTableLines naming names number earlier lines f → e ≡ f
one_refusal naming names number earlier [] e f first second = absurd first
one_refusal naming names number earlier (line ∷ lines) e f (inl first) (inl second) =
    one_first (TableLineDiagnostic names earlier (lex_line naming line).marks (lex_line naming line).stop) number (span_at number 1 (lex_line naming line).marks (lex_line naming line).stop) (line_wanted (lex_line naming line).marks) e f first second
one_refusal naming names number earlier (line ∷ lines) e f (inl first) (inr second) = absurd (second.0 first.position (plan_diagnostic_kind e) first.diagnostic)
one_refusal naming names number earlier (line ∷ lines) e f (inr first) (inl second) = absurd (first.0 second.position (plan_diagnostic_kind f) second.diagnostic)
one_refusal naming names number earlier (line ∷ lines) e f (inr first) (inr second) =
    one_refusal naming names (number + 1) (names_with earlier (lex_line naming line).marks) lines e f first.1 second.1

-- ---- one meaning
marks_of : (l : Lexed) (ms ns : List Mark) → HasTokens l ms → HasTokens l ns → ms ≡ ns
marks_of l ms ns first second = ap (λ (x : Lexed). x.marks) (sym first ∙ second)

-- a line of a table has a first token
first_of : (names : List (List ℕ)) (earlier : List (Option (List ℕ))) (ms : List Mark) (t : PlannedTable) → IsTableLine names earlier ms t → 0 < length ms
first_of names earlier ms t is =
    ⊎_elim
    (λ scheme. omega (arith, ap (λ (l : List Mark). length l) scheme.whole))
    (λ table. omega (arith, ap (λ (l : List Mark). length l) table.whole))
    is.opens

blank_table : (naming : Naming) (names : List (List ℕ)) (earlier : List (Option (List ℕ))) (line : List ℕ) (t : PlannedTable) → HasTokens (lex_line naming line) [] → MeansTable naming names earlier line t → ⊥
blank_table naming names earlier line t blank is =
    omega (arith, first_of names earlier is.marks t is.is_line, ap (λ (ms : List Mark). length ms) (marks_of (lex_line naming line) [] is.marks blank is.tokens))

-- the word `scheme` is not the word `table`
words_apart : (k : TokenKind) (word : List ℕ) → is_scheme k word ≡ true → is_table k word ≡ true → ⊥
unfolding is_keyword
words_apart token.Identifier word scheme table =
    let one = (bytes_eq-Decides word (codes "scheme")).0 scheme in
    let other = (bytes_eq-Decides word (codes "table")).0 table in
    let lengths : 6 ≡ 5 = ap (λ (w : List ℕ). length w) (sym one ∙ other) in
    omega (arith, lengths)
words_apart token.Quoted word scheme table = cc
words_apart (token.Number n) word scheme table = cc
words_apart token.Arrow word scheme table = cc
words_apart token.DoubleArrow word scheme table = cc
words_apart token.Empty word scheme table = cc
words_apart token.Colon word scheme table = cc

scheme_or_table : (ms words others : List Mark) (earlier : List (Option (List ℕ))) (name other : Option (List ℕ))
    → OpensScheme ms words name → OpensTable earlier ms others other → ⊥
scheme_or_table ms words others earlier name other scheme table =
    let same : scheme.head ∷ words ≡ table.head ∷ table.label ∷ table.colon ∷ others = sym scheme.whole ∙ table.whole in
    let heads : scheme.head ≡ table.head = cc in
    words_apart table.head.kind table.head.word
    (subst (λ (m : Mark). is_scheme m.kind m.word ≡ true) heads scheme.scheme) table.table

-- what stands before the attributes tells where they begin, and the name
one_opening : (earlier before : List (Option (List ℕ))) (ms words others : List Mark) (name other : Option (List ℕ))
    → OpensScheme ms words name ⊎ OpensTable earlier ms words name → OpensScheme ms others other ⊎ OpensTable before ms others other
    → (words ≡ others) × (name ≡ other)
one_opening earlier before ms words others name other (inl first) (inl second) =
    let same : first.head ∷ words ≡ second.head ∷ others = sym first.whole ∙ second.whole in
    let tails : words ≡ others = cc in
    (tails, first.unnamed ∙ sym second.unnamed)
one_opening earlier before ms words others name other (inl first) (inr second) =
    absurd (scheme_or_table ms words others before name other first second)
one_opening earlier before ms words others name other (inr first) (inl second) =
    absurd (scheme_or_table ms others words earlier other name second first)
one_opening earlier before ms words others name other (inr first) (inr second) =
    let same : first.head ∷ first.label ∷ first.colon ∷ words ≡ second.head ∷ second.label ∷ second.colon ∷ others = sym first.whole ∙ second.whole in
    let tails : words ≡ others = cc in
    let labels : first.label ≡ second.label = cc in
    (tails, first.named ∙ ap (λ (m : Mark). Some m.word) labels ∙ sym second.named)

one_table : (naming : Naming) (names : List (List ℕ)) (earlier before : List (Option (List ℕ))) (line : List ℕ) (t u : PlannedTable) → MeansTable naming names earlier line t → MeansTable naming names before line u → t ≡ u
one_table naming names earlier before line t u first second =
    let same : first.marks ≡ second.marks = marks_of (lex_line naming line) first.marks second.marks first.tokens second.tokens in
    let opening = one_opening earlier before second.marks first.is_line.words second.is_line.words t.name u.name
    (subst (λ (ms : List Mark). OpensScheme ms first.is_line.words t.name ⊎ OpensTable earlier ms first.is_line.words t.name) same first.is_line.opens)
    second.is_line.opens in
    let schemes : t.scheme ≡ u.scheme =
    first.is_line.members ∙ ap (λ (ws : List Mark). attributes_of_words names ws) opening.0 ∙ sym second.is_line.members in
    ap (λ (name : Option (List ℕ)). record { name = name; scheme = t.scheme }) opening.1
    ∙ ap (λ (x : Attributes). record { name = u.name; scheme = x }) schemes

pub one_meaning : (naming : Naming) (names : List (List ℕ)) (earlier before : List (Option (List ℕ))) (lines : List (List ℕ)) (xs ys : NamedSchemes) → MeansTableLines naming names earlier lines xs → MeansTableLines naming names before lines ys → xs ≡ ys
one_meaning naming names earlier before [] xs ys first second = first ∙ sym second
one_meaning naming names earlier before (line ∷ lines) xs ys (inl first) (inl second) = one_meaning naming names earlier before lines xs ys first.1 second.1
one_meaning naming names earlier before (line ∷ lines) xs ys (inl first) (inr second) = absurd (blank_table naming names before line second.0 first.0 second.2)
one_meaning naming names earlier before (line ∷ lines) xs ys (inr first) (inl second) = absurd (blank_table naming names earlier line first.0 second.0 first.2)
one_meaning naming names earlier before (line ∷ lines) xs ys (inr first) (inr second) =
    first.4 ∙ ap (λ (t : PlannedTable). led_by_table t first.1) (one_table naming names earlier before line first.0 second.0 first.2 second.2)
    ∙ ap (λ (others : NamedSchemes). led_by_table second.0 others)
    (one_meaning naming names (earlier ++ first.0.name ∷ []) (before ++ second.0.name ∷ []) lines first.1 second.1 first.3 second.3) ∙ sym second.4

-- ---- never both
attribute_fine : (names : List (List ℕ)) (first : Bool) (m : Mark) (n : DiagnosticKind) → IsAttribute format.Plain names m → WordDiagnostic names first m n → ⊥
attribute_fine names first m n is h =
    ⊎_elim
    (λ word. ⊎_elim (λ three. true≢false (sym three.1 ∙ is.not_reserved)) (λ five. unknown (sym five.1 ∙ is.known)) word.1)
    (λ rest. ⊎_elim (λ ten. true≢false (sym is.word ∙ ap is_word_token ten.1)) (λ six. true≢false (sym is.word ∙ six.0)) rest)
    h
  where
    unknown : None ≡ Some is.index → ⊥
    unknown e = cc

words_fine : (names : List (List ℕ)) (first : Bool) (ms : List Mark) → All (IsAttribute format.Plain names) ms → (first ≡ true → 0 < length ms) → (p : ℕ) (n : DiagnosticKind) → WordsDiagnostic names first ms None p n → ⊥
words_fine names first [] each not_empty p n h = ⊎_elim (λ ended. omega (arith, not_empty ended.1)) (λ flaw. no_flaw n flaw) h.1
words_fine names first (m ∷ ms) each not_empty p n h =
    later_fine (WordsDiagnostic names first (m ∷ ms) None) (λ k g. attribute_fine names first m k (All-head (IsAttribute format.Plain names) m ms each) g)
    (λ q k g. words_fine names false ms (All-tail (IsAttribute format.Plain names) m ms each) (λ never. absurd (false≢true never)) q k g) p n h

opens_fine : (a b : Bool) → a ≡ true → (a || b) ≡ false → ⊥
opens_fine true b is none = true≢false none
opens_fine false b is none = false≢true is

table_opens : (a b : Bool) → b ≡ true → (a || b) ≡ false → ⊥
table_opens true b is none = true≢false none
table_opens false b is none = true≢false (sym is ∙ none)

head_fine : (earlier : ℕ) (m : Mark) (n : DiagnosticKind) → (opens_line m.kind m.word ≡ false → ⊥) → earlier < MOST_SCHEMES → FirstTokenDiagnostic earlier m n → ⊥
head_fine earlier m n opens room h = ⊎_elim (λ other. opens other.0) (λ many. omega (arith, many.1, room)) h

colon_fine : (names : List (List ℕ)) (colon : Mark) (words : List Mark) → colon.kind ≡ token.Colon → All (IsAttribute format.Plain names) words → 0 < length words
    → (p : ℕ) (n : DiagnosticKind) → ColonDiagnostic names (colon ∷ words) None p n → ⊥
colon_fine names colon words is each not_empty =
    later_fine (ColonDiagnostic names (colon ∷ words) None)
    (λ n h. true≢false (sym (ap is_colon is) ∙ h.0))
    (words_fine names true words each (λ _. not_empty))

label_fine : (earlier : List (Option (List ℕ))) (m : Mark) (n : DiagnosticKind) → m.kind ≡ token.Identifier → is_kept_word m.word ≡ false
    → list_any (is_given m.word) earlier ≡ false → LabelDiagnostic earlier m n → ⊥
label_fine earlier m n is not_kept new h =
    ⊎_elim (λ six. true≢false (sym (ap is_label is) ∙ six.0))
    (λ word. ⊎_elim (λ three. true≢false (sym three.1 ∙ not_kept)) (λ four. true≢false (sym four.1 ∙ new)) word.1) h

scheme_line_fine : (names : List (List ℕ)) (earlier : List (Option (List ℕ))) (ms words : List Mark) (name : Option (List ℕ)) → OpensScheme ms words name
    → All (IsAttribute format.Plain names) words → 0 < length words → length earlier < MOST_SCHEMES → IsFine names earlier ms None
scheme_line_fine names earlier ms words name is each not_empty room =
    subst (λ (ns : List Mark). IsFine names earlier ns None) (sym is.whole)
    (later_fine (TableLineDiagnostic names earlier (is.head ∷ words) None)
    (λ n h. head_fine (length earlier) is.head n (opens_fine (is_scheme is.head.kind is.head.word) (is_table is.head.kind is.head.word) is.scheme) room h)
    (λ p n h. words_fine names true words each (λ _. not_empty) p n
    (subst (λ (b : Bool). RestDiagnostic b names earlier words None p n) (not_table is.head is.scheme (is_table is.head.kind is.head.word) refl) h)))
  where
    not_table : (m : Mark) → is_scheme m.kind m.word ≡ true → (b : Bool) → is_table m.kind m.word ≡ b → is_table m.kind m.word ≡ false
    not_table m scheme true table = absurd (words_apart m.kind m.word scheme table)
    not_table m scheme false table = table

table_line_fine : (names : List (List ℕ)) (earlier : List (Option (List ℕ))) (ms words : List Mark) (name : Option (List ℕ)) → OpensTable earlier ms words name
    → All (IsAttribute format.Plain names) words → 0 < length words → length earlier < MOST_SCHEMES → IsFine names earlier ms None
table_line_fine names earlier ms words name is each not_empty room =
    subst (λ (ns : List Mark). IsFine names earlier ns None) (sym is.whole)
    (later_fine (TableLineDiagnostic names earlier (is.head ∷ is.label ∷ is.colon ∷ words) None)
    (λ n h. head_fine (length earlier) is.head n (table_opens (is_scheme is.head.kind is.head.word) (is_table is.head.kind is.head.word) is.table) room h)
    (λ p n h. later_fine (NamedDiagnostic names earlier (is.label ∷ is.colon ∷ words) None)
    (λ k g. label_fine earlier is.label k is.is_word is.not_kept is.new g)
    (colon_fine names is.colon words is.is_colon each not_empty) p n
    (subst (λ (b : Bool). RestDiagnostic b names earlier (is.label ∷ is.colon ∷ words) None p n) is.table h)))

table_fine : (names : List (List ℕ)) (earlier : List (Option (List ℕ))) (ms : List Mark) (t : PlannedTable) → IsTableLine names earlier ms t → length earlier < MOST_SCHEMES → IsFine names earlier ms None
table_fine names earlier ms t is room =
    ⊎_elim
    (λ scheme. scheme_line_fine names earlier ms is.words t.name scheme is.each is.not_empty room)
    (λ table. table_line_fine names earlier ms is.words t.name table is.each is.not_empty room)
    is.opens

-- the name of a line, where it means a table
scheme_given : (m : Mark) (words : List Mark) → is_table m.kind m.word ≡ false → name_given (m ∷ words) ≡ None
scheme_given m [] other = refl
scheme_given m (w ∷ words) other = ap (λ (b : Bool). cond b (Some w.word) None) other

line_given : (names : List (List ℕ)) (earlier : List (Option (List ℕ))) (ms : List Mark) (t : PlannedTable) → IsTableLine names earlier ms t → names_with earlier ms ≡ earlier ++ t.name ∷ []
line_given names earlier ms t is =
    ⊎_elim
    (λ scheme. ap (λ (l : List Mark). names_with earlier l) scheme.whole
    ∙ ap (λ (name : Option (List ℕ)). earlier ++ name ∷ [])
    (scheme_given scheme.head is.words (not_table scheme.head scheme.scheme (is_table scheme.head.kind scheme.head.word) refl) ∙ sym scheme.unnamed))
    (λ table. ap (λ (l : List Mark). names_with earlier l) table.whole
    ∙ ap (λ (name : Option (List ℕ)). earlier ++ name ∷ [])
    (ap (λ (b : Bool). cond b (Some table.label.word) None) table.table ∙ sym table.named))
    is.opens
  where
    not_table : (m : Mark) → is_scheme m.kind m.word ≡ true → (b : Bool) → is_table m.kind m.word ≡ b → is_table m.kind m.word ≡ false
    not_table m scheme true table = absurd (words_apart m.kind m.word scheme table)
    not_table m scheme false table = table

pub never_both : (naming : Naming) (names : List (List ℕ)) (number : ℕ) (earlier : List (Option (List ℕ))) (lines : List (List ℕ)) (plan : NamedSchemes) (e : PlanRefusal) → MeansTableLines naming names earlier lines plan → length earlier + length plan.names ≤ MOST_SCHEMES
    → RefusesTableLines naming names number earlier lines e → ⊥
never_both naming names number earlier [] plan e means within_limit refused = refused
never_both naming names number earlier (line ∷ lines) plan e (inl blank) within_limit (inl first) =
    no_flaw (plan_diagnostic_kind e) (subst (λ (l : Lexed). TableLineDiagnostic names earlier l.marks l.stop first.position (plan_diagnostic_kind e)) blank.0 first.diagnostic).1
never_both naming names number earlier (line ∷ lines) plan e (inl blank) within_limit (inr later) =
    let same : names_with earlier (lex_line naming line).marks ≡ earlier = ap (λ (l : Lexed). names_with earlier l.marks) blank.0 in
    never_both naming names (number + 1) earlier lines plan e blank.1 within_limit (subst (λ (before : List (Option (List ℕ))). RefusesTableLines naming names (number + 1) before lines e) same later.1)
never_both naming names number earlier (line ∷ lines) plan e (inr adds) within_limit (inl first) =
    let count : length plan.names ≡ suc (length adds.1.names) = ap (λ (p : NamedSchemes). length p.names) adds.4 in
    table_fine names earlier adds.2.marks adds.0 adds.2.is_line (omega (arith, within_limit, count)) first.position (plan_diagnostic_kind e)
    (subst (λ (l : Lexed). TableLineDiagnostic names earlier l.marks l.stop first.position (plan_diagnostic_kind e)) adds.2.tokens first.diagnostic)
never_both naming names number earlier (line ∷ lines) plan e (inr adds) within_limit (inr later) =
    let count : length plan.names ≡ suc (length adds.1.names) = ap (λ (p : NamedSchemes). length p.names) adds.4 in
    let given : names_with earlier (lex_line naming line).marks ≡ earlier ++ adds.0.name ∷ [] =
    ap (λ (l : Lexed). names_with earlier l.marks) adds.2.tokens ∙ line_given names earlier adds.2.marks adds.0 adds.2.is_line in
    never_both naming names (number + 1) (earlier ++ adds.0.name ∷ []) lines adds.1 e adds.3
    (omega (arith, within_limit, count, length_push earlier adds.0.name))
    (subst (λ (before : List (Option (List ℕ))). RefusesTableLines naming names (number + 1) before lines e) given later.1)

-- ---- plans
Covers-none_left_out : (n : ℕ) (schemes : List Attributes) (a : ℕ) → Covers n schemes → IsFirstFrom (uncovered_attributes n schemes) 0 a → ⊥
Covers-none_left_out n schemes a covers least =
    let parts = and_parts (below n a) (not (list_any (λ scheme. scheme a) schemes)) least.member in
    true≢false (sym (list_any-from_Any (λ scheme. scheme a) schemes (covers a (ltb-true a n parts.0))) ∙ not-true (list_any (λ scheme. scheme a) schemes) parts.1)

one_least : (x : Attributes) (a b : ℕ) → IsFirstFrom x 0 a → IsFirstFrom x 0 b → a ≡ b
one_least x a b first second =
    ⊎_elim
    (λ same. same)
    (λ apart. ⊎_elim
    (λ less. absurd (true≢false (sym first.member ∙ second.least a (omega arith) less)))
    (λ more. absurd (true≢false (sym second.member ∙ first.least b (omega arith) more)))
    apart)
    (cases_order a b)

-- a plan has as many names as schemes, some of them none
fits : (naming : Naming) (names : List (List ℕ)) (lines : List (List ℕ)) (plan : NamedSchemes) → MeansTableLines naming names [] lines plan → length plan.schemes ≤ MOST_SCHEMES → length plan.names ≤ MOST_SCHEMES
fits naming names lines plan means within_limit = omega (arith, lines_beside naming names [] lines plan means, within_limit)

pub plan_never_both : (naming : Naming) (names : List (List ℕ)) (text : List ℕ) (plan : NamedSchemes) (e : PlanRefusal) → MeansPlan naming names text plan → RefusesPlan naming names text e → ⊥
plan_never_both naming names text plan e means (inl lines) =
    never_both naming names 1 [] (line_texts (without_mark text)) plan e means.lines (omega (arith, fits naming names (line_texts (without_mark text)) plan means.lines means.schemes_fit)) lines
plan_never_both naming names text plan e means (inr left) =
    let same = one_meaning naming names [] [] (line_texts (without_mark text)) left.tables plan left.means means.lines in
    Covers-none_left_out (length names) plan.schemes left.attribute means.covers (subst (λ (p : NamedSchemes). IsFirstFrom (uncovered_attributes (length names) p.schemes) 0 left.attribute) same left.least)

pub plan_one_meaning : (naming : Naming) (names : List (List ℕ)) (text : List ℕ) (one other : NamedSchemes) → MeansPlan naming names text one → MeansPlan naming names text other → one ≡ other
plan_one_meaning naming names text one other first second = one_meaning naming names [] [] (line_texts (without_mark text)) one other first.lines second.lines

pub plan_one_refusal : (naming : Naming) (names : List (List ℕ)) (text : List ℕ) (e f : PlanRefusal) → RefusesPlan naming names text e → RefusesPlan naming names text f → e ≡ f
plan_one_refusal naming names text e f (inl first) (inl second) = one_refusal naming names 1 [] (line_texts (without_mark text)) e f first second
plan_one_refusal naming names text e f (inl first) (inr second) =
    absurd (never_both naming names 1 [] (line_texts (without_mark text)) second.tables e second.means (omega (arith, fits naming names (line_texts (without_mark text)) second.tables second.means second.schemes_fit)) first)
plan_one_refusal naming names text e f (inr first) (inl second) =
    absurd (never_both naming names 1 [] (line_texts (without_mark text)) first.tables f first.means (omega (arith, fits naming names (line_texts (without_mark text)) first.tables first.means first.schemes_fit)) second)
plan_one_refusal naming names text e f (inr first) (inr second) =
    let schemes = one_meaning naming names [] [] (line_texts (without_mark text)) second.tables first.tables second.means first.means in
    let same = one_least (uncovered_attributes (length names) first.tables.schemes) first.attribute second.attribute first.least (subst (λ (p : NamedSchemes). IsFirstFrom (uncovered_attributes (length names) p.schemes) 0 second.attribute) schemes second.least) in
    first.is ∙ ap (λ (a : ℕ). plan.NotCovered a) same ∙ sym second.is
