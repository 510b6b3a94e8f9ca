-- A line is read by what comes next on it: the names after a declaring word, or a dependency.
use Rattle.std.proofs.Common.{◌≡◌, ℕ, Bool, true, false, List, length, Some, None, Ok, Err, ap, refl, sym}
use Rattle.schema_model.specs.declared.column_type.ColumnType.{ColumnType}
use Rattle.lexer.specs.Tokens.{Mark}
use Rattle.schema_grammar.specs.declared.format.Format.{Format}
use Rattle.schema_grammar.specs.declared.refusal.SchemaRefusal.{SchemaRefusal}
use Rattle.schema_grammar.specs.declared.refusal.SchemaRefusalKind.{SchemaRefusalKind}
use Rattle.schema_grammar.specs.declared.refusal.SchemaRefusalKind.TheVariants as kind
use Rattle.schema_grammar.specs.declared.refusal.What.TheVariants as what
use Rattle.schema_grammar.specs.Declarations.{Declarations, list_names, list_names_rest, list_columns, list_columns_rest, name_step, type_after, wanted_after, dependency_rest, line_of_marks, read_line}
use Rattle.schema_grammar.specs.Refusals.{refusal}
use Rattle.schema_grammar.specs.Rests.{Rest, rest_from}
use Rattle.schema_grammar.specs.LineTokens.{lex_line}
use Rattle.schema_grammar.specs.Words.{line_kind}
use Rattle.schema_grammar.specs.declared.line_kind.LineKind.{LineKind}
use Rattle.schema_grammar.specs.declared.line_kind.LineKind.TheVariants as begins
use Rattle.schema_grammar.specs.declared.line_kind.Purpose.{Purpose}
use Rattle.schema_grammar.specs.declared.line_kind.Purpose.TheVariants as purpose
use Rattle.std.specs.Prelude.{Result}
use Rattle.tokens.specs.Views.{HasEnded, IsStopped, IsLed}

-- ---- a line
abbrev pub line_rest : Format → Declarations → Rest → Result Declarations SchemaRefusal
line_rest f d r = line_of_marks f r.line d r.marks r.stop

pub line_whole : (f : Format) (line : ℕ) (d : Declarations) (text : List ℕ) (r : Rest) → r ≡ rest_from line 1 (lex_line f text)
    → read_line f line d text ≡ line_rest f d r
unfolding read_line
line_whole f line d text r whole = ap (line_rest f d) (sym whole)

pub line_ended : (f : Format) (d : Declarations) (r : Rest) → HasEnded r → line_rest f d r ≡ Ok d
line_ended f d r ended = rw (ended.marks, ended.stop) refl

pub line_stopped : (f : Format) (d : Declarations) (r : Rest) (e : SchemaRefusal) → IsStopped r e → line_rest f d r ≡ Err e
line_stopped f d r e stopped = rw (stopped.marks, stopped.stop, stopped.refusal) refl

pub line_names : (f : Format) (d : Declarations) (r : Rest) (m : Mark) (after : Rest) (p : Purpose) → IsLed r m after
    → line_kind f m.kind m.word ≡ begins.Names p → line_rest f d r ≡ list_names_rest f p d false after
line_names f d r m after p led lists = rw (led.marks, lists, led.stop, ← led.line, ← led.column) refl

pub line_scales : (f : Format) (d : Declarations) (r : Rest) (m : Mark) (after : Rest) → IsLed r m after
    → line_kind f m.kind m.word ≡ begins.Decimal → line_rest f d r ≡ list_columns_rest f begins.Decimal d after
line_scales f d r m after led scales = rw (led.marks, scales, led.stop, ← led.line, ← led.column) refl

pub line_types : (f : Format) (d : Declarations) (r : Rest) (m : Mark) (after : Rest) → IsLed r m after
    → line_kind f m.kind m.word ≡ begins.Other → line_rest f d r ≡ list_columns_rest f begins.Other d after
line_types f d r m after led types = rw (led.marks, types, led.stop, ← led.line, ← led.column) refl

pub line_states : (f : Format) (d : Declarations) (r : Rest) (m : Mark) (after : Rest) → IsLed r m after
    → line_kind f m.kind m.word ≡ begins.Dependency → line_rest f d r ≡ dependency_rest f d m after
line_states f d r m after led states = rw (led.marks, states, led.stop, ← led.line) refl

-- ---- columns
pub columns_wanted : (f : Format) (k : LineKind) (d : Declarations) (r : Rest) → HasEnded r
    → list_columns_rest f k d r ≡ Err (refusal r.line r.next_column 0 (kind.Expected (wanted_after k)))
unfolding list_columns
columns_wanted f k d r ended = rw (ended.marks, ended.stop) refl

pub columns_stopped : (f : Format) (k : LineKind) (d : Declarations) (r : Rest) (e : SchemaRefusal) → IsStopped r e → list_columns_rest f k d r ≡ Err e
unfolding list_columns
columns_stopped f k d r e stopped = rw (stopped.marks, stopped.stop, stopped.refusal) refl

pub columns_refused : (f : Format) (k : LineKind) (d : Declarations) (r : Rest) (m : Mark) (after : Rest) (why : SchemaRefusalKind) → IsLed r m after
    → type_after k m ≡ Err why → list_columns_rest f k d r ≡ Err (refusal r.line m.column m.length why)
unfolding list_columns
columns_refused f k d r m after why led refused = rw (led.marks, refused) refl

pub columns_named : (f : Format) (k : LineKind) (d : Declarations) (r : Rest) (m : Mark) (after : Rest) (column : ColumnType) → IsLed r m after
    → type_after k m ≡ Ok column → list_columns_rest f k d r ≡ list_names_rest f (purpose.Columns column) d false after
unfolding list_columns
columns_named f k d r m after column led typed = rw (led.marks, typed, led.stop, led.line, led.column) refl

-- ---- names
pub names_ended : (f : Format) (p : Purpose) (d : Declarations) (any_name : Bool) (r : Rest) → any_name ≡ true → HasEnded r
    → list_names_rest f p d any_name r ≡ Ok d
unfolding list_names
names_ended f p d any_name r is ended = rw (is, ended.marks, ended.stop) refl

pub names_wanted : (f : Format) (p : Purpose) (d : Declarations) (any_name : Bool) (r : Rest) → any_name ≡ false → HasEnded r
    → list_names_rest f p d any_name r ≡ Err (refusal r.line r.next_column 0 (kind.Expected what.Name))
unfolding list_names
names_wanted f p d any_name r is ended = rw (is, ended.marks, ended.stop) refl

pub names_stopped : (f : Format) (p : Purpose) (d : Declarations) (any_name : Bool) (r : Rest) (e : SchemaRefusal) → IsStopped r e
    → list_names_rest f p d any_name r ≡ Err e
unfolding list_names
names_stopped f p d true r e stopped = rw (stopped.marks, stopped.stop, stopped.refusal) refl
names_stopped f p d false r e stopped = rw (stopped.marks, stopped.stop, stopped.refusal) refl

pub names_refused : (f : Format) (p : Purpose) (d : Declarations) (any_name : Bool) (r : Rest) (m : Mark) (after : Rest) (why : SchemaRefusalKind)
    → IsLed r m after → name_step f p d any_name m.kind m.word ≡ Err why
    → list_names_rest f p d any_name r ≡ Err (refusal r.line m.column m.length why)
unfolding list_names
names_refused f p d true r m after why led refused = rw (led.marks, refused) refl
names_refused f p d false r m after why led refused = rw (led.marks, refused) refl

pub names_more : (f : Format) (p : Purpose) (d : Declarations) (any_name : Bool) (r : Rest) (m : Mark) (after : Rest) (next : Declarations)
    → IsLed r m after → name_step f p d any_name m.kind m.word ≡ Ok next
    → list_names_rest f p d any_name r ≡ list_names_rest f p next true after
unfolding list_names
names_more f p d true r m after next led taken = rw (led.marks, taken, led.stop, led.line, led.column) refl
names_more f p d false r m after next led taken = rw (led.marks, taken, led.stop, led.line, led.column) refl
