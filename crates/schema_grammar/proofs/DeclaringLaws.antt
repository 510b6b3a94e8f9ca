-- A declaring line is read as what it means.
use Rattle.std.proofs.Common.{◌≡◌, ◌<◌, ◌+◌, ◌⊎◌, inl, inr, ℕ, suc, Bool, true, false, cond, List, [], ◌∷◌, ◌++◌, length, Option, Some, None, Ok, Err, Result, refl, sym, ◌∙◌, ap, arith, ◌==◌}
use Rattle.std.specs.Option.{is_some}
use Rattle.std.specs.Prelude.{nat_le}
use Rattle.std.proofs.lemmas.Bool.{cases_Bool, leb-false, lt-leb}
use Rattle.std.proofs.lemmas.Bool.Decides.{nat_tests}
use Rattle.std.proofs.lemmas.List.{append-nil}
use Rattle.std.specs.List.{All}
use Rattle.std.proofs.lemmas.List.Elements.{All-cons, All-nil, All-head, All-tail}
use Rattle.attr_sets.specs.declared.set.TheConstants.{MOST_ATTRIBUTES}
use Rattle.attr_sets.specs.Attributes.{Attributes, only, none, union}
use Rattle.schema_model.specs.declared.column_type.ColumnType.{ColumnType}
use Rattle.schema_model.specs.declared.column_type.ColumnType.TheVariants as types
use Rattle.schema_grammar.specs.declared.format.TheConstants.{MOST_DEPENDENCY_LINES}
use Rattle.dep_model.specs.Dependencies.{Dependency}
use Rattle.schema_model.specs.Names.{is_type_text}
use Rattle.schema_model.specs.Schemas.{attribute_named}
use Rattle.lexer.specs.declared.token.LexError.{LexError}
use Rattle.lexer.specs.declared.token.TokenKind.{TokenKind}
use Rattle.lexer.specs.declared.token.TokenKind.TheVariants as token
use Rattle.lexer.specs.Tokens.{Mark, Lexed}
use Rattle.schema_grammar.specs.declared.line_kind.LineKind.{LineKind}
use Rattle.schema_grammar.specs.declared.line_kind.LineKind.TheVariants as begins
use Rattle.schema_grammar.specs.declared.line_kind.Purpose.{Purpose}
use Rattle.schema_grammar.specs.declared.line_kind.Purpose.TheVariants as purpose
use Rattle.schema_grammar.specs.declared.refusal.SchemaRefusalKind.{SchemaRefusalKind}
use Rattle.schema_grammar.specs.declared.refusal.SchemaRefusalKind.TheVariants as kind
use Rattle.schema_grammar.specs.declared.format.Format.{Format}
use Rattle.schema_grammar.specs.Declarations.{Declarations, add_name, add_dependency, add_nullable, declare, allow, name_step, list_names, list_columns, is_scale, decimal_type, other_type, type_after, begin, dependency_line, line_from, line_of_marks, read_line}
use Rattle.schema_grammar.specs.Grammar.{start}
use Rattle.schema_grammar.specs.Meanings.{HasTokens, IsAttribute, attributes_of_words}
use Rattle.schema_grammar.specs.LineTokens.{lex_line}
use Rattle.schema_grammar.specs.Reading.{step, follow}
use Rattle.schema_grammar.specs.Refusals.{at}
use Rattle.schema_grammar.specs.Rests.{◌>>=◌, number_in}
use Rattle.schema_grammar.specs.Schemas.{IsNewName, DeclareNames, ByWord, ByScale, ByText, IsDeclaring, IsStating, MeansTextLine, MeansLines}
use Rattle.schema_grammar.specs.Texts.{finish, read_lines}
use Rattle.schema_grammar.specs.Words.{is_word_token, is_reserved_token, line_kind, look_up, known_attribute}
use Rattle.schema_grammar.proofs.GoalLaws.{dependency-law, follow_has_no_stop}
use Rattle.schema_grammar.proofs.RefusalLemmas.{and_then-ok}
use Rattle.schema_grammar.proofs.SideLemmas.{union-only, union-none, attributes_of_words-cons}
use Rattle.schema_grammar.proofs.WordLemmas.{name_step-word, name_step-other}

-- with these attributes, of which a value may be missing
abbrev with_nullable : Declarations → Attributes → Declarations
with_nullable d x = record d { nullable = x }

number_is : (k : TokenKind) (n : ℕ) → number_in k ≡ Some n → k ≡ token.Number n
number_is (token.Number k) n e = cc
number_is k n e = cc

at-ok : {X : Type 0} (line column size : ℕ) (r : Result X SchemaRefusalKind) (x : X) → at line column size r ≡ Ok x → r ≡ Ok x
at-ok line column size (Ok y) x e = let same : y ≡ x = cc in ap Ok same
at-ok line column size (Err why) x e = cc

unless_ok : {X : Type 0} (b : Bool) (why : SchemaRefusalKind) (r : Result X SchemaRefusalKind) (x : X) → cond b (Err why) r ≡ Ok x → (b ≡ false) × (r ≡ Ok x)
unless_ok true why r x e = cc
unless_ok false why r x e = (refl, e)

declares_name : (f : Format) (column : ColumnType) (d whole : Declarations) (any_name : Bool) (m : Mark) → name_step f (purpose.Columns column) d any_name m.kind m.word ≡ Ok whole
    → IsNewName f d m × (whole ≡ add_name d m.word column)
unfolding declare
declares_name f column d whole any_name m e = by_cases (is_word_token m.kind) refl
  where
    by_cases : (b : Bool) → is_word_token m.kind ≡ b → IsNewName f d m × (whole ≡ add_name d m.word column)
    by_cases true is =
        let declares : declare f column d m.kind m.word ≡ Ok whole = sym (name_step-word f (purpose.Columns column) d any_name m.kind m.word is) ∙ e in
        let not_reserved = unless_ok (is_reserved_token f m.kind m.word) kind.ReservedName _ whole declares in
        let new = unless_ok (is_some (attribute_named d.names m.word)) kind.DoubleName _ whole not_reserved.1 in
        let room = unless_ok (nat_le MOST_ATTRIBUTES (length d.names)) kind.TooManyAttributes (Ok (add_name d m.word column)) whole new.1 in
        let unknown = none (attribute_named d.names m.word) new.0 in
        let same : Ok whole ≡ Ok (add_name d m.word column) = sym room.1 in
        (record { word = is; not_reserved = not_reserved.0; new = unknown; room = leb-false _ _ room.0 }, cc)
      where
        none : (o : Option ℕ) → is_some o ≡ false → o ≡ None
        none None e = refl
        none (Some a) e = cc
    by_cases false is = let wrong = sym (name_step-other f (purpose.Columns column) d any_name m.kind m.word is) ∙ e in cc

name_declared : (f : Format) (column : ColumnType) (d : Declarations) (any_name : Bool) (m : Mark) → IsNewName f d m → name_step f (purpose.Columns column) d any_name m.kind m.word ≡ Ok (add_name d m.word column)
unfolding declare
name_declared f column d any_name m new =
    let room = lt-leb MOST_ATTRIBUTES (length d.names) new.room in rw (name_step-word f (purpose.Columns column) d any_name m.kind m.word new.word) (rw (new.not_reserved, new.new, room) refl)

-- names that are to be declared are read exactly where each is a new one
names_there : (f : Format) (column : ColumnType) (line : ℕ) (d whole : Declarations) (any_name : Bool)
    (next_column : ℕ) (ms : List Mark)
    → list_names f (purpose.Columns column) line d any_name next_column ms None ≡ Ok whole
    → (any_name ≡ false → 0 < length ms) × DeclareNames f column d ms whole
unfolding list_names
names_there f column line d whole true next_column [] e = ((λ none. cc), cc)
names_there f column line d whole false next_column [] e = cc
names_there f column line d whole any_name next_column (m ∷ ms) e =
    let two = and_then-ok (at line m.column m.length (name_step f (purpose.Columns column) d any_name m.kind m.word)) _ whole e in
    let named = at-ok line m.column m.length _ two.x two.first in
    let first = declares_name f column d two.x any_name m named in
    let rest : list_names f (purpose.Columns column) line (add_name d m.word column) true (m.column + m.length) ms None ≡ Ok whole =
    ap (λ n. list_names f (purpose.Columns column) line n true (m.column + m.length) ms None) (sym first.1) ∙ two.second in
    let more = names_there f column line (add_name d m.word column) whole true (m.column + m.length) ms rest in
    ((λ none. omega arith), (first.0, more.1))

names_back : (f : Format) (column : ColumnType) (line : ℕ) (d whole : Declarations) (any_name : Bool)
    (next_column : ℕ) (ms : List Mark)
    → (any_name ≡ false → 0 < length ms) → DeclareNames f column d ms whole
    → list_names f (purpose.Columns column) line d any_name next_column ms None ≡ Ok whole
unfolding list_names
names_back f column line d whole true next_column [] has e = cc
names_back f column line d whole false next_column [] has e = absurd (omega (arith, has refl))
names_back f column line d whole any_name next_column (m ∷ ms) has (new, rest) =
    rw (name_declared f column d any_name m new)
    (names_back f column line (add_name d m.word column) whole true (m.column + m.length) ms
    (λ none. cc) rest)

names_stopped : (f : Format) (p : Purpose) (line : ℕ) (d whole : Declarations) (any_name : Bool)
    (next_column : ℕ) (ms : List Mark) (stop : LexError)
    → list_names f p line d any_name next_column ms (Some stop) ≡ Ok whole → ⊥
unfolding list_names
names_stopped f p line d whole any_name next_column [] stop e = cc
names_stopped f p line d whole any_name next_column (m ∷ ms) stop e =
    let two = and_then-ok (at line m.column m.length (name_step f p d any_name m.kind m.word)) _ whole e in
    names_stopped f p line two.x whole true (m.column + m.length) ms stop two.second

-- a name of an attribute of which a value may be missing
allows_name : (f : Format) (d whole : Declarations) (any_name : Bool) (m : Mark) → name_step f purpose.Nullable d any_name m.kind m.word ≡ Ok whole
    → (known : IsAttribute f d.names m) × (whole ≡ add_nullable d (only known.index))
unfolding allow look_up
allows_name f d whole any_name m e = by_cases (is_word_token m.kind) refl
  where
    known : (o : Option ℕ) → attribute_named d.names m.word ≡ o → is_word_token m.kind ≡ true
        → is_reserved_token f m.kind m.word ≡ false
        → (known_attribute o >>= (λ a. Ok (add_nullable d (only a)))) ≡ Ok whole
        → (known : IsAttribute f d.names m) × (whole ≡ add_nullable d (only known.index))
    known None lookup is not_reserved read = cc
    known (Some a) lookup is not_reserved read =
        (record { word = is; not_reserved = not_reserved; index = a; known = lookup }, cc)

    by_cases : (b : Bool) → is_word_token m.kind ≡ b
        → (known : IsAttribute f d.names m) × (whole ≡ add_nullable d (only known.index))
    by_cases true is =
        let allows : allow f d m.kind m.word ≡ Ok whole = sym (name_step-word f purpose.Nullable d any_name m.kind m.word is) ∙ e in
        reserved (is_reserved_token f m.kind m.word) refl is allows
      where
        reserved : (r : Bool) → is_reserved_token f m.kind m.word ≡ r → is_word_token m.kind ≡ true
            → (cond r (Err kind.ReservedName) (known_attribute (attribute_named d.names m.word))
            >>= (λ a. Ok (add_nullable d (only a)))) ≡ Ok whole
            → (known : IsAttribute f d.names m) × (whole ≡ add_nullable d (only known.index))
        reserved true same is read = cc
        reserved false same is read = known (attribute_named d.names m.word) refl is same read
    by_cases false is = let wrong = sym (name_step-other f purpose.Nullable d any_name m.kind m.word is) ∙ e in cc

name_allowed : (f : Format) (d : Declarations) (any_name : Bool) (m : Mark) (known : IsAttribute f d.names m)
    → name_step f purpose.Nullable d any_name m.kind m.word ≡ Ok (add_nullable d (only known.index))
unfolding allow look_up
name_allowed f d any_name m known =
    rw (name_step-word f purpose.Nullable d any_name m.kind m.word known.word) (rw (known.not_reserved, known.known) refl)

-- attributes are added one after the other
add_both : (d : Declarations) (ms : List Mark) (m : Mark) (a : ℕ) → attribute_named d.names m.word ≡ Some a
    → add_nullable (add_nullable d (only a)) (attributes_of_words d.names ms)
    ≡ add_nullable d (attributes_of_words d.names (m ∷ ms))
add_both d ms m a e =
    let same : union (union d.nullable (only a)) (attributes_of_words d.names ms)
    ≡ union d.nullable (attributes_of_words d.names (m ∷ ms)) =
    union-only d.nullable (attributes_of_words d.names ms) a
    ∙ ap (union d.nullable) (sym (attributes_of_words-cons d.names m ms a e)) in
    ap (λ x. with_nullable d x) same

-- attributes of which a value may be missing are read exactly where each is known
nullables_there : (f : Format) (line : ℕ) (d whole : Declarations) (any_name : Bool)
    (next_column : ℕ) (ms : List Mark)
    → list_names f purpose.Nullable line d any_name next_column ms None ≡ Ok whole
    → (any_name ≡ false → 0 < length ms) × All (IsAttribute f d.names) ms
    × (whole ≡ add_nullable d (attributes_of_words d.names ms))
unfolding list_names
nullables_there f line d whole true next_column [] e =
    let same : whole ≡ d = cc in
    ((λ none. cc), All-nil (IsAttribute f d.names), same ∙ sym (ap (λ x. with_nullable d x) (union-none d.nullable none refl)))
nullables_there f line d whole false next_column [] e = cc
nullables_there f line d whole any_name next_column (m ∷ ms) e =
    let two = and_then-ok (at line m.column m.length (name_step f purpose.Nullable d any_name m.kind m.word)) _ whole e in
    let named = at-ok line m.column m.length _ two.x two.first in
    let first = allows_name f d two.x any_name m named in
    let next = add_nullable d (only first.0.index) in
    let rest : list_names f purpose.Nullable line next true (m.column + m.length) ms None ≡ Ok whole =
    ap (λ n. list_names f purpose.Nullable line n true (m.column + m.length) ms None) (sym first.1) ∙ two.second in
    let more = nullables_there f line next whole true (m.column + m.length) ms rest in (
      (λ none. omega arith),
      All-cons (IsAttribute f d.names) m ms first.0 more.1,
      more.2 ∙ add_both d ms m first.0.index first.0.known,
    )

nullables_back : (f : Format) (line : ℕ) (d whole : Declarations) (any_name : Bool)
    (next_column : ℕ) (ms : List Mark)
    → (any_name ≡ false → 0 < length ms) → All (IsAttribute f d.names) ms
    → whole ≡ add_nullable d (attributes_of_words d.names ms)
    → list_names f purpose.Nullable line d any_name next_column ms None ≡ Ok whole
unfolding list_names
nullables_back f line d whole true next_column [] has each same =
    ap Ok (sym (same ∙ ap (λ x. with_nullable d x) (union-none d.nullable none refl)))
nullables_back f line d whole false next_column [] has each same = absurd (omega (arith, has refl))
nullables_back f line d whole any_name next_column (m ∷ ms) has each same =
    let known = All-head (IsAttribute f d.names) m ms each in
    rw (name_allowed f d any_name m known)
    (nullables_back f line (add_nullable d (only known.index)) whole true (m.column + m.length) ms
    (λ none. cc) (All-tail (IsAttribute f d.names) m ms each) (same ∙ sym (add_both d ms m known.index known.known)))

-- the type of columns that a token makes
decimal_there : (m : Mark) (o : Option ℕ) (c : ColumnType) → number_in m.kind ≡ o → decimal_type m o ≡ Ok c
    → (n : ℕ) × (m.kind ≡ token.Number n) × (is_scale m n ≡ true) × (c ≡ types.Decimal n)
decimal_there m None c is e = cc
decimal_there m (Some n) c is e = by_cases (is_scale m n) refl e
  where
    by_cases : (b : Bool) → is_scale m n ≡ b → cond b (Ok (types.Decimal n)) (Err kind.NoScale) ≡ Ok c
        → (n : ℕ) × (m.kind ≡ token.Number n) × (is_scale m n ≡ true) × (c ≡ types.Decimal n)
    by_cases true one e = (n, number_is m.kind n is, one, cc)
    by_cases false one e = cc

other_there : (word : List ℕ) (k : TokenKind) (c : ColumnType) → other_type word k ≡ Ok c
    → (k ≡ token.Quoted) × (is_type_text word ≡ true) × (c ≡ types.Other word)
other_there word token.Quoted c e = by_cases (is_type_text word) refl e
  where
    by_cases : (b : Bool) → is_type_text word ≡ b → cond b (Ok (types.Other word)) (Err kind.NoType) ≡ Ok c
        → (token.Quoted ≡ token.Quoted) × (is_type_text word ≡ true) × (c ≡ types.Other word)
    by_cases true is e = (refl, is, cc)
    by_cases false is e = cc
other_there word k c e = cc

-- the tokens after `decimal` or `other`, of which the first makes a type
record ColumnsRead (f : Format) (k : LineKind) (line : ℕ) (d : Declarations) (ms : List Mark) (whole : Declarations) : Type 0 where
  parameter : Mark
  words : List Mark
  cut : ms ≡ parameter ∷ words
  column : ColumnType
  made : type_after k parameter ≡ Ok column
  not_empty : 0 < length words
  names : DeclareNames f column d words whole

columns_there : (f : Format) (k : LineKind) (line : ℕ) (d whole : Declarations) (next_column : ℕ) (ms : List Mark)
    → list_columns f k line d next_column ms None ≡ Ok whole → ColumnsRead f k line d ms whole
unfolding list_columns
columns_there f k line d whole next_column [] e = cc
columns_there f k line d whole next_column (m ∷ ms) e =
    let two = and_then-ok (at line m.column m.length (type_after k m)) _ whole e in
    let both = names_there f two.x line d whole false (m.column + m.length) ms two.second in
    record {
      parameter = m;
      words = ms;
      cut = refl;
      column = two.x;
      made = at-ok line m.column m.length _ two.x two.first;
      not_empty = both.0 refl;
      names = both.1;
    }

columns_stopped : (f : Format) (k : LineKind) (line : ℕ) (d whole : Declarations) (next_column : ℕ) (ms : List Mark)
    (stop : LexError) → list_columns f k line d next_column ms (Some stop) ≡ Ok whole → ⊥
unfolding list_columns
columns_stopped f k line d whole next_column [] stop e = cc
columns_stopped f k line d whole next_column (m ∷ ms) stop e =
    let two = and_then-ok (at line m.column m.length (type_after k m)) _ whole e in
    names_stopped f (purpose.Columns two.x) line d whole false (m.column + m.length) ms stop two.second

-- the first token of a dependency line, with room for the line
record Begun (f : Format) (line : ℕ) (d : Declarations) (m : Mark) (ms : List Mark) (stop : Option LexError) (whole : Declarations) : Type 0 where
  dep : Dependency
  read : follow f d.names line start 1 (m ∷ ms) stop ≡ Ok dep
  room : length d.deps < MOST_DEPENDENCY_LINES
  adds : whole ≡ add_dependency d dep line

dependency_there : (f : Format) (line : ℕ) (d whole : Declarations) (m : Mark) (ms : List Mark) (stop : Option LexError)
    → dependency_line f line d m ms stop ≡ Ok whole → Begun f line d m ms stop whole
unfolding dependency_line begin follow
dependency_there f line d whole m ms stop e =
    let two = and_then-ok (at line m.column m.length (begin f d m.kind m.word)) _ whole e in
    let begun = at-ok line m.column m.length (begin f d m.kind m.word) two.x two.first in
    let inner = and_then-ok (step f d.names start m.kind m.word) _ two.x begun in
    let room = unless_ok (nat_le MOST_DEPENDENCY_LINES (length d.deps)) kind.TooManyDependencies (Ok inner.x) two.x inner.second in
    let same : inner.x ≡ two.x = (let eq : Ok inner.x ≡ Ok two.x = room.1 in cc) in
    let three = and_then-ok (follow f d.names line two.x (m.column + m.length) ms stop) _ whole two.second in
    record {
      dep = three.x;
      read = ap (λ s. at line m.column m.length s >>= (λ next. follow f d.names line next (m.column + m.length) ms stop)) (inner.first ∙ ap Ok same) ∙ three.first;
      room = leb-false _ _ room.0;
      adds = let eq : Ok (add_dependency d three.x line) ≡ Ok whole = three.second in cc;
    }

dependency_back : (f : Format) (line : ℕ) (d : Declarations) (m : Mark) (ms : List Mark) (dep : Dependency)
    → follow f d.names line start 1 (m ∷ ms) None ≡ Ok dep → length d.deps < MOST_DEPENDENCY_LINES → dependency_line f line d m ms None ≡ Ok (add_dependency d dep line)
unfolding dependency_line begin follow
dependency_back f line d m ms dep e h =
    let two = and_then-ok (at line m.column m.length (step f d.names start m.kind m.word)) _ dep e in
    let first = at-ok line m.column m.length (step f d.names start m.kind m.word) two.x two.first in
    let room = lt-leb MOST_DEPENDENCY_LINES (length d.deps) h in
    let read = two.second in
    rw first (rw room (rw read refl))

pub has_tokens : (l : Lexed) (ms : List Mark) → l.marks ≡ ms → l.stop ≡ None → HasTokens l ms
has_tokens l ms marks stop i = record { marks = marks i; stop = stop i }

-- a line is read exactly where it means what is declared after it
pub line_there : (f : Format) (number : ℕ) (d : Declarations) (line : List ℕ) (whole : Declarations) → read_line f number d line ≡ Ok whole → MeansTextLine f number d line whole
unfolding read_line type_after
line_there f number d line whole e = by_cases (lex_line f line).marks (lex_line f line).stop refl refl e
  where
    l : Lexed
    l = lex_line f line

    naming : (m : Mark) (ms : List Mark) (p : Purpose) → HasTokens l (m ∷ ms) → line_kind f m.kind m.word ≡ begins.Names p
        → list_names f p number d false (m.column + m.length) ms None ≡ Ok whole → MeansTextLine f number d line whole
    naming m ms (purpose.Columns column) tokens is e =
        let both = names_there f column number d whole false (m.column + m.length) ms e in
        inl (inr (record {
          marks = m ∷ ms;
          words = ms;
          column = column;
          tokens = tokens;
          declares = inl (inl (record { head = m; cut = refl; declaring = is }));
          not_empty = both.0 refl;
          names = both.1;
        }))
    naming m ms purpose.Nullable tokens is e =
        let both = nullables_there f number d whole false (m.column + m.length) ms e in
        inr (inl (record {
          head = m;
          words = ms;
          tokens = tokens;
          allowing = is;
          not_empty = both.0 refl;
          each = both.1;
          adds = both.2;
        }))

    stating : (m : Mark) (ms : List Mark) (stop : Option LexError) → l.marks ≡ m ∷ ms → l.stop ≡ stop → line_kind f m.kind m.word ≡ begins.Dependency
        → Begun f number d m ms stop whole → IsStating f number d line whole
    stating m ms None marks stop is begun = record {
      head = m;
      others = ms;
      dep = begun.dep;
      tokens = has_tokens l (m ∷ ms) marks stop;
      stating = is;
      dependency = (dependency-law f d.names number 1 (m ∷ ms) begun.dep).0 begun.read;
      room = begun.room;
      adds = begun.adds;
    }
    stating m ms (Some s) marks stop is begun =
        absurd (follow_has_no_stop f d.names number start 1 (m ∷ ms) s begun.dep begun.read)

    scaled : (m : Mark) (ms : List Mark) → HasTokens l (m ∷ ms) → line_kind f m.kind m.word ≡ begins.Decimal
        → ColumnsRead f begins.Decimal number d ms whole → IsDeclaring f d line whole
    scaled m ms tokens is read =
        let scale = decimal_there read.parameter (number_in read.parameter.kind) read.column refl read.made in
        record {
          marks = m ∷ ms;
          words = read.words;
          column = read.column;
          tokens = tokens;
          declares = inl (inr (record {
            head = m;
            number = read.parameter;
            scale = scale.0;
            cut = ap (λ t. m ∷ t) read.cut;
            declaring = is;
            is_number = scale.1;
            one_digit = scale.2;
            decimal = scale.3;
          }));
          not_empty = read.not_empty;
          names = read.names;
        }

    texted : (m : Mark) (ms : List Mark) → HasTokens l (m ∷ ms) → line_kind f m.kind m.word ≡ begins.Other
        → ColumnsRead f begins.Other number d ms whole → IsDeclaring f d line whole
    texted m ms tokens is read =
        let text = other_there read.parameter.word read.parameter.kind read.column read.made in
        record {
          marks = m ∷ ms;
          words = read.words;
          column = read.column;
          tokens = tokens;
          declares = inr (record {
            head = m;
            text = read.parameter;
            cut = ap (λ t. m ∷ t) read.cut;
            declaring = is;
            is_quoted = text.0;
            is_type = text.1;
            other = text.2;
          });
          not_empty = read.not_empty;
          names = read.names;
        }

    from : (m : Mark) (ms : List Mark) (stop : Option LexError) (k : LineKind) → l.marks ≡ m ∷ ms → l.stop ≡ stop → line_kind f m.kind m.word ≡ k
        → line_from f number d m ms stop k ≡ Ok whole → MeansTextLine f number d line whole
    from m ms None (begins.Names p) marks same is e = naming m ms p (has_tokens l (m ∷ ms) marks same) is e
    from m ms (Some s) (begins.Names p) marks same is e =
        absurd (names_stopped f p number d whole false (m.column + m.length) ms s e)
    from m ms stop begins.Dependency marks same is e =
        inr (inr (stating m ms stop marks same is (dependency_there f number d whole m ms stop e)))
    from m ms None begins.Decimal marks same is e =
        inl (inr (scaled m ms (has_tokens l (m ∷ ms) marks same) is
        (columns_there f begins.Decimal number d whole (m.column + m.length) ms e)))
    from m ms (Some s) begins.Decimal marks same is e =
        absurd (columns_stopped f begins.Decimal number d whole (m.column + m.length) ms s e)
    from m ms None begins.Other marks same is e =
        inl (inr (texted m ms (has_tokens l (m ∷ ms) marks same) is
        (columns_there f begins.Other number d whole (m.column + m.length) ms e)))
    from m ms (Some s) begins.Other marks same is e =
        absurd (columns_stopped f begins.Other number d whole (m.column + m.length) ms s e)

    by_cases : (ms : List Mark) (stop : Option LexError) → l.marks ≡ ms → l.stop ≡ stop → line_of_marks f number d ms stop ≡ Ok whole → MeansTextLine f number d line whole
    by_cases [] None marks stop e = inl (inl (record { tokens = has_tokens l [] marks stop; same = cc }))
    by_cases [] (Some s) marks stop e = cc
    by_cases (m ∷ ms) stop marks same e = from m ms stop (line_kind f m.kind m.word) marks same refl e

declaring_back : (f : Format) (number : ℕ) (d : Declarations) (line : List ℕ) (whole : Declarations)
    (is : IsDeclaring f d line whole)
    → (ByWord f is.marks is.column is.words ⊎ ByScale f is.marks is.column is.words) ⊎ ByText f is.marks is.column is.words
    → read_line f number d line ≡ Ok whole
unfolding read_line list_columns type_after
declaring_back f number d line whole is (inl (inl by)) =
    rw (is.tokens, by.cut, by.declaring)
    (names_back f is.column number d whole false (by.head.column + by.head.length) is.words (λ none. is.not_empty) is.names)
declaring_back f number d line whole is (inl (inr by)) =
    let names = names_back f is.column number d whole false (by.number.column + by.number.length) is.words (λ none. is.not_empty) is.names in
    let made : type_after begins.Decimal by.number ≡ Ok is.column =
    rw (by.is_number, by.one_digit) (ap Ok (sym by.decimal)) in
    rw (is.tokens, by.cut, by.declaring) (rw made names)
declaring_back f number d line whole is (inr by) =
    let names = names_back f is.column number d whole false (by.text.column + by.text.length) is.words (λ none. is.not_empty) is.names in
    let made : type_after begins.Other by.text ≡ Ok is.column =
    rw (by.is_quoted, by.is_type) (ap Ok (sym by.other)) in
    rw (is.tokens, by.cut, by.declaring) (rw made names)

pub line_back : (f : Format) (number : ℕ) (d : Declarations) (line : List ℕ) (whole : Declarations) → MeansTextLine f number d line whole → read_line f number d line ≡ Ok whole
unfolding read_line
line_back f number d line whole (inl (inl blank)) = rw (blank.tokens, blank.same) refl
line_back f number d line whole (inl (inr is)) = declaring_back f number d line whole is is.declares
line_back f number d line whole (inr (inl is)) =
    rw (is.tokens, is.allowing)
    (nullables_back f number d whole false (is.head.column + is.head.length) is.words
    (λ none. is.not_empty) is.each is.adds)
line_back f number d line whole (inr (inr is)) =
    rw (is.tokens, is.stating, is.adds)
    (dependency_back f number d is.head is.others is.dep ((dependency-law f d.names number 1 (is.head ∷ is.others) is.dep).1 is.dependency) is.room)

pub lines_there : (f : Format) (number : ℕ) (d whole : Declarations) (lines : List (List ℕ)) → read_lines f number d lines ≡ Ok whole
    → MeansLines f number d lines whole × (0 < length whole.names)
unfolding read_lines finish
lines_there f number d whole [] e = elim (cases_Bool (length d.names == 0)) [
  | inl none ↦ let wrong = rw none at e in cc
  | inr any_name ↦ let read = rw any_name at e in
      let same : whole ≡ d = cc in (same, rw same (grind (arith, nat_tests)))
]
lines_there f number d whole (line ∷ lines) e =
    let two = and_then-ok (read_line f number d line) (λ next. read_lines f (number + 1) next lines) whole e in
    let more = lines_there f (number + 1) two.x whole lines two.second in
    ((two.x, line_there f number d line two.x two.first, more.0), more.1)

-- lines that mean something are read, and then the lines after them
pub before_read : (f : Format) (first : ℕ) (d : Declarations) (before rest : List (List ℕ))
    (middle : Declarations)
    → MeansLines f first d before middle
    → read_lines f first d (before ++ rest) ≡ read_lines f (first + length before) middle rest
unfolding read_lines
before_read f first d [] rest middle same =
    let here : first ≡ first + 0 = omega arith in
    rw same (ap (λ n. read_lines f n d rest) here)
before_read f first d (line ∷ before) rest middle (next, here, means) =
    let same : (first + 1) + length before ≡ first + suc (length before) = omega arith in
    rw (line_back f first d line next here)
    (before_read f (first + 1) next before rest middle means ∙ ap (λ n. read_lines f n middle rest) same)

pub lines_back : (f : Format) (number : ℕ) (d whole : Declarations) (lines : List (List ℕ)) → MeansLines f number d lines whole → 0 < length whole.names
    → read_lines f number d lines ≡ Ok whole
unfolding read_lines finish
lines_back f number d whole lines means any_name =
    let is : (length whole.names == 0) ≡ false = grind (arith, nat_tests) in
    ap (read_lines f number d) (sym (append-nil lines)) ∙ before_read f number d lines [] whole means
    ∙ rw is refl
