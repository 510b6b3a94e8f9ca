-- Reading a plan text line by line, and a line word by word.
use Rattle.std.proofs.Common.{◌≡◌, ◌<◌, ◌+◌, ◌^◌, ℕ, Bool, true, false, List, [], ◌∷◌, ◌++◌, length, Option, Some, Result, Ok, Err, refl, sym, ap, ◌∙◌, arith}
use Rattle.attr_sets.specs.Attributes.{Attributes, none, only, union}
use Rattle.schema_model.specs.declared.naming.Naming.{Naming}
use Rattle.lexer.specs.Lines.{line_texts, CutsAt}
use Rattle.lexer.specs.Tokens.{Mark, is_colon}
use Rattle.schema_grammar.specs.declared.refusal.SchemaRefusal.{SchemaRefusal}
use Rattle.schema_grammar.specs.declared.refusal.SchemaRefusalKind.{SchemaRefusalKind}
use Rattle.schema_grammar.specs.declared.refusal.SchemaRefusalKind.TheVariants as kind
use Rattle.schema_grammar.specs.declared.refusal.What.TheVariants as what
use Rattle.schema_grammar.specs.Refusals.{refusal, at}
use Rattle.plan_printer.specs.NamedPlans.{NamedSchemes, PlannedTable, no_tables, with_table}
use Rattle.plan_grammar.specs.LineTokens.{lex_line}
use Rattle.schema_grammar.specs.Rests.{Rest, ◌>>=◌}
use Rattle.tokens.specs.Views.{HasEnded, IsStopped, IsLed}
use Rattle.plan_grammar.specs.declared.refusal.PlanRefusal.{PlanRefusal}
use Rattle.plan_grammar.specs.declared.refusal.PlanRefusal.TheVariants as plan
use Rattle.plan_grammar.specs.Reading.{attribute_of_token, name_of_token, of_text, read_colon, read_colon_rest, read_named, read_named_rest, read_words, read_words_rest, read_table, read_table_line, read_table_lines, table_of}

-- ---- words
pub words_empty : (names : List (List ℕ)) (first : Bool) (x : Attributes) (r : Rest) → first ≡ true → HasEnded r → read_words_rest names first x r ≡ Err (plan.EmptyScheme r.line)
unfolding read_words
words_empty names first x r begun ended = rw (begun, ended.marks, ended.stop) refl

pub words_end : (names : List (List ℕ)) (first : Bool) (x : Attributes) (r : Rest) → first ≡ false → HasEnded r → read_words_rest names first x r ≡ Ok x
unfolding read_words
words_end names first x r begun ended = rw (begun, ended.marks, ended.stop) refl

pub words_stop : (names : List (List ℕ)) (first : Bool) (x : Attributes) (r : Rest) (e : SchemaRefusal) → IsStopped r e
    → read_words_rest names first x r ≡ Err (plan.Text e)
unfolding read_words
words_stop names true x r e stopped = rw (stopped.marks, stopped.stop, stopped.refusal) refl
words_stop names false x r e stopped = rw (stopped.marks, stopped.stop, stopped.refusal) refl

pub words_refused : (names : List (List ℕ)) (first : Bool) (x : Attributes) (r : Rest) (m : Mark) (after : Rest) (e : PlanRefusal) → IsLed r m after
    → attribute_of_token names r.line first m m.kind ≡ Err e → read_words_rest names first x r ≡ Err e
unfolding read_words
words_refused names true x r m after e led is = rw (led.marks, is) refl
words_refused names false x r m after e led is = rw (led.marks, is) refl

pub words_more : (names : List (List ℕ)) (first : Bool) (x : Attributes) (r : Rest) (m : Mark) (after : Rest) (a : ℕ) → IsLed r m after
    → attribute_of_token names r.line first m m.kind ≡ Ok a
    → read_words_rest names first x r ≡ read_words_rest names false (union x (only a)) after
unfolding read_words
words_more names true x r m after a led is = rw (led.marks, is, led.stop, led.line) refl
words_more names false x r m after a led is = rw (led.marks, is, led.stop, led.line) refl

-- ---- one line
abbrev pub read_rest : List (List ℕ) → NamedSchemes → Rest → Result NamedSchemes PlanRefusal
read_rest names tables r = read_table_line names r.line tables r.marks r.stop

pub line_ended : (names : List (List ℕ)) (tables : NamedSchemes) (r : Rest) → HasEnded r → read_rest names tables r ≡ Ok tables
unfolding read_table_line
line_ended names tables r ended = rw (ended.marks, ended.stop) refl

pub line_stopped : (names : List (List ℕ)) (tables : NamedSchemes) (r : Rest) (e : SchemaRefusal) → IsStopped r e
    → read_rest names tables r ≡ Err (plan.Text e)
unfolding read_table_line
line_stopped names tables r e stopped = rw (stopped.marks, stopped.stop, stopped.refusal) refl

led_read : (names : List (List ℕ)) (tables : NamedSchemes) (r : Rest) (m : Mark) (after : Rest) → IsLed r m after
    → read_rest names tables r ≡ (read_table names tables.names m after >>= (λ table. Ok (with_table tables table)))
unfolding read_table_line
led_read names tables r m after led =
    rw (led.marks, led.stop, ← led.line)
    (ap (λ (column : ℕ). read_table names tables.names m (record { line = after.line; next_column = column; marks = after.marks; stop = after.stop })
    >>= (λ table. Ok (with_table tables table))) (sym led.column))

pub table_refused : (names : List (List ℕ)) (tables : NamedSchemes) (r : Rest) (m : Mark) (after : Rest) (e : PlanRefusal) → IsLed r m after
    → read_table names tables.names m after ≡ Err e → read_rest names tables r ≡ Err e
table_refused names tables r m after e led refused = led_read names tables r m after led ∙ rw refused refl

pub table_is_read : (names : List (List ℕ)) (tables : NamedSchemes) (r : Rest) (m : Mark) (after : Rest) (t : PlannedTable) → IsLed r m after
    → read_table names tables.names m after ≡ Ok t → read_rest names tables r ≡ Ok (with_table tables t)
table_is_read names tables r m after t led read = led_read names tables r m after led ∙ rw read refl

-- ---- the name of a table
pub named_ended : (names : List (List ℕ)) (earlier : List (Option (List ℕ))) (r : Rest) → HasEnded r
    → read_named_rest names earlier r ≡ Err (plan.Text (refusal r.line r.next_column 0 (kind.Expected what.Name)))
unfolding read_named
named_ended names earlier r ended = rw (ended.marks, ended.stop) refl

pub named_stopped : (names : List (List ℕ)) (earlier : List (Option (List ℕ))) (r : Rest) (e : SchemaRefusal) → IsStopped r e
    → read_named_rest names earlier r ≡ Err (plan.Text e)
unfolding read_named
named_stopped names earlier r e stopped = rw (stopped.marks, stopped.stop, stopped.refusal) refl

pub named_led : (names : List (List ℕ)) (earlier : List (Option (List ℕ))) (r : Rest) (m : Mark) (after : Rest) → IsLed r m after
    → read_named_rest names earlier r
    ≡ (of_text (at after.line m.column m.length (name_of_token earlier m m.kind)) >>= (λ name. read_colon_rest names name after))
unfolding read_named
named_led names earlier r m after led =
    rw (led.marks, led.stop, ← led.line)
    (ap (λ (column : ℕ). of_text (at after.line m.column m.length (name_of_token earlier m m.kind))
    >>= (λ name. read_colon names after.line name column after.marks after.stop)) (sym led.column))

pub named_refused : (names : List (List ℕ)) (earlier : List (Option (List ℕ))) (r : Rest) (m : Mark) (after : Rest) (why : SchemaRefusalKind) → IsLed r m after
    → name_of_token earlier m m.kind ≡ Err why
    → read_named_rest names earlier r ≡ Err (plan.Text (refusal after.line m.column m.length why))
named_refused names earlier r m after why led is = named_led names earlier r m after led ∙ rw is refl

pub named_goes_on : (names : List (List ℕ)) (earlier : List (Option (List ℕ))) (r : Rest) (m : Mark) (after : Rest) (name : List ℕ) → IsLed r m after
    → name_of_token earlier m m.kind ≡ Ok name → read_named_rest names earlier r ≡ read_colon_rest names name after
named_goes_on names earlier r m after name led is = named_led names earlier r m after led ∙ rw is refl

pub colon_ended : (names : List (List ℕ)) (name : List ℕ) (r : Rest) → HasEnded r
    → read_colon_rest names name r ≡ Err (plan.Text (refusal r.line r.next_column 0 (kind.Expected what.Colon)))
unfolding read_colon
colon_ended names name r ended = rw (ended.marks, ended.stop) refl

pub colon_stopped : (names : List (List ℕ)) (name : List ℕ) (r : Rest) (e : SchemaRefusal) → IsStopped r e
    → read_colon_rest names name r ≡ Err (plan.Text e)
unfolding read_colon
colon_stopped names name r e stopped = rw (stopped.marks, stopped.stop, stopped.refusal) refl

pub colon_led : (names : List (List ℕ)) (name : List ℕ) (r : Rest) (m : Mark) (after : Rest) → IsLed r m after
    → is_colon m.kind ≡ true → read_colon_rest names name r ≡ table_of (Some name) (read_words_rest names true none after)
unfolding read_colon
colon_led names name r m after led is = rw (led.marks, led.stop, ← led.line, is) refl

pub colon_refused : (names : List (List ℕ)) (name : List ℕ) (r : Rest) (m : Mark) (after : Rest) → IsLed r m after
    → is_colon m.kind ≡ false
    → read_colon_rest names name r ≡ Err (plan.Text (refusal after.line m.column m.length (kind.Expected what.Colon)))
unfolding read_colon
colon_refused names name r m after led other = rw (led.marks, led.stop, ← led.line, other) refl

-- ---- lines
-- to read the lines that are left is to read all of them
pub record Reads (naming : Naming) (names : List (List ℕ)) (text : List ℕ) (tables : NamedSchemes) (number : ℕ) (rest : List ℕ) : Type 0 where
  pub same : read_table_lines naming names 1 no_tables (line_texts text) ≡ read_table_lines naming names number tables (line_texts rest)
  pub room : number + length rest < 2 ^ 31

abbrev pub line_read : Naming → List (List ℕ) → ℕ → NamedSchemes → List ℕ → Result NamedSchemes PlanRefusal
line_read naming names number tables line = read_table_line names number tables (lex_line naming line).marks (lex_line naming line).stop

pub line_refused : (naming : Naming) (names : List (List ℕ)) (number : ℕ) (tables : NamedSchemes) (line : List ℕ) (lines ls : List (List ℕ)) (e : PlanRefusal)
    → ls ≡ line ∷ lines → line_read naming names number tables line ≡ Err e → read_table_lines naming names number tables ls ≡ Err e
unfolding read_table_lines
line_refused naming names number tables line lines ls e whole h = rw whole (rw h refl)

pub last_read : (naming : Naming) (names : List (List ℕ)) (number : ℕ) (tables more : NamedSchemes) (line : List ℕ) (ls : List (List ℕ))
    → ls ≡ line ∷ [] → line_read naming names number tables line ≡ Ok more → read_table_lines naming names number tables ls ≡ Ok more
unfolding read_table_lines
last_read naming names number tables more line ls whole h = rw whole (rw h refl)

next_lines : (naming : Naming) (names : List (List ℕ)) (number : ℕ) (tables more : NamedSchemes) (line : List ℕ) (lines ls : List (List ℕ))
    → ls ≡ line ∷ lines → line_read naming names number tables line ≡ Ok more → read_table_lines naming names number tables ls ≡ read_table_lines naming names (number + 1) more lines
unfolding read_table_lines
next_lines naming names number tables more line lines ls whole read = rw whole (rw read refl)

pub reads_more : (naming : Naming) (names : List (List ℕ)) (text : List ℕ) (tables more : NamedSchemes) (number : ℕ) (rest line after : List ℕ)
    → Reads naming names text tables number rest → CutsAt rest line after → line_read naming names number tables line ≡ Ok more → Reads naming names text more (number + 1) after
reads_more naming names text tables more number rest line after reads cut read = record {
  same = reads.same ∙ next_lines naming names number tables more line (line_texts after) (line_texts rest) cut.lines read;
  room = omega (arith, reads.room, cut.shorter);
}
