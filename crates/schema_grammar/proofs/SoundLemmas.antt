-- What is declared is sound: names differ, and columns fit their format.
use Rattle.std.proofs.Common.{◌≡◌, ◌<◌, ◌≤◌, ◌+◌, ◌-◌, ◌==◌, ◌⊎◌, inl, inr, ℕ, zero, suc, Bool, true, false, cond, IsTrue, List, [], ◌∷◌, ◌++◌, length, take, None, refl, sym, ◌∙◌, ap, subst, arith, length-append, get_or, lt-ltb, ltb-true}
use Rattle.std.specs.List.{All, AllPairs, Contains, position_or_len}
use Rattle.std.specs.Str.{bytes_eq}
use Rattle.std.specs.Result.{IfOk}
use Rattle.std.specs.Prelude.{nat_lt, nat_le}
use Rattle.std.proofs.lemmas.Bool.{cases_Bool, and_parts, ltb-false, or_parts}
use Rattle.std.proofs.lemmas.List.{length-map}
use Rattle.std.proofs.lemmas.List.Elements.{All-cons, All-nil, All-head, All-tail, All-push, All-contains}
use Rattle.std.proofs.lemmas.List.Quantifiers.{all_pairs_push}
use Rattle.std.proofs.lemmas.List.Sums.{fails_before_first}
use Rattle.attr_sets.specs.Attributes.{Attributes, IsSubset, IsEmpty, below}
use Rattle.attr_sets.specs.declared.set.TheConstants.{MOST_ATTRIBUTES}
use Rattle.schema_model.specs.declared.naming.Naming.TheVariants.{Bare}
use Rattle.schema_model.specs.declared.column_type.ColumnType.{ColumnType}
use Rattle.schema_model.specs.declared.column_type.ColumnType.TheVariants.{Text, Integer}
use Rattle.dep_model.specs.declared.dep.Dep.{Dep}
use Rattle.schema_grammar.specs.declared.format.TheConstants.{MOST_DEPENDENCY_LINES}
use Rattle.dep_model.specs.Dependencies.{Dependency, IsWithin, left_of, right_of}
use Rattle.dep_model.specs.Deps.{dependency_of, dependencies_of}
use Rattle.schema_model.specs.declared.column_type.ColumnType.TheVariants as types
use Rattle.schema_model.specs.declared.column_type.TheConstants.{MOST_SCALE}
use Rattle.schema_model.specs.Columns.{is_column_type, is_plain_type}
use Rattle.schema_model.specs.Names.{IsName, is_bare_name, same_name, is_type_name}
use Rattle.schema_model.specs.Schemas.{attribute_named}
use Rattle.schema_model.specs.Validity.{IsSchema, AreDeclared}
use Rattle.dep_model.proofs.DepLemmas.{dependencies_all-to}
use Rattle.schema_model.proofs.NameLemmas.{bare_name_is_name}
use Rattle.lexer.specs.declared.piece.Piece.{Piece}
use Rattle.lexer.specs.declared.piece.Piece.TheVariants as piece
use Rattle.lexer.specs.declared.mode.Mode.{Mode}
use Rattle.lexer.specs.Modes as mode
use Rattle.lexer.specs.Modes.{has_quotes}
use Rattle.lexer.specs.declared.token.TokenKind.{TokenKind}
use Rattle.lexer.specs.declared.token.TokenKind.TheVariants as token
use Rattle.lexer.specs.Pieces.{front_piece}
use Rattle.lexer.specs.Tokens.{Mark, Lexed, lex, tokens_after, led_by, word_of}
use Rattle.lexer.specs.Quotes.{IsQuoted, between, undoubled}
use Rattle.lexer.proofs.Quoting.{name_test}
use Rattle.lexer.proofs.Steps.{is_a_word, FitsQuoted-from}
use Rattle.schema_grammar.specs.declared.format.Format.{Format}
use Rattle.schema_grammar.specs.declared.format.Format.TheVariants as format
use Rattle.schema_grammar.specs.Declarations.{Declarations, no_declaration, add_name, add_dependency, add_nullable, read_line}
use Rattle.schema_grammar.specs.declared.line_kind.LineKind.{LineKind}
use Rattle.schema_grammar.specs.declared.line_kind.LineKind.TheVariants as begins
use Rattle.schema_grammar.specs.declared.line_kind.Purpose.TheVariants as purpose
use Rattle.schema_grammar.specs.Grammar.{start}
use Rattle.schema_grammar.specs.LineTokens.{naming_in, mode_of_kind, mode_by_head, line_mode, lex_line}
use Rattle.schema_grammar.specs.Meanings.{HasTokens, attributes_of_words}
use Rattle.schema_grammar.specs.Schemas.{IsNewName, DeclareNames, ByWord, ByScale, ByText, MeansTextLine, MeansLines}
use Rattle.schema_grammar.specs.Texts.{read_opening}
use Rattle.schema_grammar.specs.Words.{is_word_token, is_reserved, is_reserved_token, is_common_word, columns_of, opening_words, begun_by, line_kind}
use Rattle.schema_grammar.proofs.DeclaringLaws.{line_there}
use Rattle.schema_grammar.proofs.RefusalLemmas.{when_ok}
use Rattle.schema_grammar.proofs.SchemaLaws.{opening_means}
use Rattle.schema_grammar.proofs.WithinLemmas.{named_within, union_within, rest_within}

-- beside an integer column no name is the name of a type
abbrev FitsFormat : Format → List (List ℕ) → List ColumnType → Type 0
FitsFormat format.Plain names columns = All (λ c. c ≡ Text) columns
FitsFormat format.Typed names columns = All (λ name. is_type_name name ≡ false) names
FitsFormat format.Full names columns = Unit {0}

-- what is declared so far in a text of bare names
pub record IsBareSound (f : Format) (names : List (List ℕ)) (columns : List ColumnType) (nullable : Attributes)
    : Type 0 where
  pub not_reserved : All (λ name. is_reserved f name ≡ false) names
  pub proper : All (λ name. is_bare_name name ≡ true) names
  pub plain : All (λ column. IsTrue (is_plain_type column)) columns
  pub none_nullable : IsEmpty nullable
  pub fits : FitsFormat f names columns

-- what is declared so far forms a schema, once it has a name
pub record IsSound (f : Format) (d : Declarations) : Type 0 where
  pub names_within_limit : length d.names ≤ MOST_ATTRIBUTES
  pub names_differ : AllPairs (λ a b. same_name a b ≡ false) d.names
  pub are_names : All IsName d.names
  pub deps_within_limit : length d.deps ≤ MOST_DEPENDENCY_LINES
  pub deps_within : All (IsWithin (below (length d.names))) d.deps
  pub one_line_each : length d.lines ≡ length d.deps
  pub one_column_each : length d.columns ≡ length d.names
  pub types : All (λ column. IsTrue (is_column_type column)) d.columns
  pub nullable_within : IsSubset d.nullable (below (length d.names))
  pub naming : d.naming ≡ naming_in f
  pub bare : naming_in f ≡ Bare → IsBareSound f d.names d.columns d.nullable

pub nothing_sound : (f : Format) → IsSound f (no_declaration (naming_in f))
nothing_sound f = record {
  names_within_limit = omega arith;
  names_differ = λ i j d h g. absurd (omega arith);
  are_names = λ k d h. absurd (omega arith);
  deps_within_limit = omega arith;
  deps_within = λ k d h. absurd (omega arith);
  one_line_each = refl;
  one_column_each = refl;
  types = λ k d h. absurd (omega arith);
  nullable_within = λ k e. cc;
  naming = refl;
  bare = λ is. record {
    not_reserved = λ k d h. absurd (omega arith);
    proper = λ k d h. absurd (omega arith);
    plain = λ k d h. absurd (omega arith);
    none_nullable = λ k. refl;
    fits = (elim f as (λ f. FitsFormat f [] []) [
      | format.Plain ↦ λ k d h. absurd (omega arith)
      | format.Typed ↦ λ k d h. absurd (omega arith)
      | format.Full ↦ tt
    ]);
  };
}

-- a token is no quoted name, and its bytes are a bare name if it is a word
record IsProper (m : Mark) : Type 0 where
  unquoted : m.kind ≡ token.Quoted → ⊥
  bare : is_word_token m.kind ≡ true → is_bare_name m.word ≡ true

bare_kind : (k : TokenKind) → is_word_token k ≡ true → (k ≡ token.Quoted → ⊥) → k ≡ token.Identifier
bare_kind token.Identifier is unquoted = refl
bare_kind token.Quoted is unquoted = absurd (unquoted refl)
bare_kind k is unquoted = cc

-- where no name is quoted, the bytes of a word are those of its text
bare_word : (k : TokenKind) (own : List ℕ) → is_word_token k ≡ true → (k ≡ token.Quoted → ⊥) → is_bare_name own ≡ true
    → is_bare_name (word_of k own) ≡ true
bare_word token.Identifier own is unquoted bare = bare
bare_word token.Quoted own is unquoted bare = absurd (unquoted refl)
bare_word k own is unquoted bare = cc

-- what holds of each token of a text
led_each : (m : Mode) (P : Mark → Type 0)
    → ((column : ℕ) (text : List ℕ) (k : TokenKind) (n : ℕ) → 0 < length text → piece.Token k n ≡ front_piece m text
    → P (record { kind = k; column = column; length = n; word = word_of k (take n text) }))
    → (column : ℕ) (text : List ℕ) (afterwards : ℕ → Lexed) (p : Piece) → 0 < length text → p ≡ front_piece m text
    → ((n : ℕ) → All P (afterwards n).marks) → All P (led_by p column text afterwards).marks
led_each m P each column text afterwards piece.Gap not_empty e later = later 0
led_each m P each column text afterwards (piece.Token k n) not_empty e later =
    All-cons P _ _ (each column text k n not_empty e) (later (n - 1))
led_each m P each column text afterwards p not_empty e later = All-nil P

lexed_each : (m : Mode) (P : Mark → Type 0)
    → ((column : ℕ) (text : List ℕ) (k : TokenKind) (n : ℕ) → 0 < length text → piece.Token k n ≡ front_piece m text
    → P (record { kind = k; column = column; length = n; word = word_of k (take n text) }))
    → (skip column : ℕ) (text : List ℕ) → All P (tokens_after m skip column text).marks
unfolding tokens_after
lexed_each m P each skip column [] = All-nil P
lexed_each m P each zero column (b ∷ bs) =
    led_each m P each column (b ∷ bs) (λ skip. tokens_after m skip (column + 1) bs) (front_piece m (b ∷ bs)) (omega arith) refl
    (λ skip. lexed_each m P each skip (column + 1) bs)
lexed_each m P each (suc n) column (b ∷ bs) = lexed_each m P each n (column + 1) bs

lexed_proper : (m : Mode) → m.quotes ≡ false → (text : List ℕ) → All IsProper (lex m text).marks
lexed_proper m none text = lexed_each m IsProper (λ column rest k n not_empty e.
    let unquoted : k ≡ token.Quoted → ⊥ =
    λ quoted. (let taken = (FitsQuoted-from m rest k n not_empty e quoted).taken in cc) in
    record {
      unquoted = unquoted;
      bare = λ is. bare_word k (take n rest) is unquoted (is_a_word m rest k n not_empty e (bare_kind k is unquoted));
    }) 0 1 text

-- the bytes of a word or of a quoted name are a name
abbrev IsNamed : Mark → Type 0
IsNamed m = is_word_token m.kind ≡ true → IsName m.word

word_named : (k : TokenKind) (own : List ℕ) → (k ≡ token.Identifier → is_bare_name own ≡ true)
    → (k ≡ token.Quoted → IsQuoted own) → is_word_token k ≡ true → IsName (word_of k own)
word_named token.Identifier own bare quoted is = bare_name_is_name own (bare refl)
word_named token.Quoted own bare quoted is = (name_test (undoubled (between own))).0 (quoted refl).a_name
word_named k own bare quoted is = cc

lexed_named : (m : Mode) (text : List ℕ) → All IsNamed (lex m text).marks
lexed_named m text = lexed_each m IsNamed (λ column rest k n not_empty e.
    word_named k (take n rest) (is_a_word m rest k n not_empty e)
    (λ quoted. (FitsQuoted-from m rest k n not_empty e quoted).quoted)) 0 1 text

-- where a text has bare names, its lines take no quotes
mode_quotes : (f : Format) (k : LineKind) → (mode_of_kind f k).quotes ≡ has_quotes (naming_in f)
mode_quotes f begins.Decimal = refl
mode_quotes f k = refl

head_quotes : (f : Format) (ms : List Mark) → (mode_by_head f ms).quotes ≡ has_quotes (naming_in f)
head_quotes f [] = refl
head_quotes f (m ∷ ms) = mode_quotes f (line_kind f m.kind m.word)

line_quotes : (f : Format) (text : List ℕ) → naming_in f ≡ Bare → (line_mode f text).quotes ≡ false
unfolding line_mode
line_quotes f text bare = head_quotes f (lex (mode.plain (naming_in f)) text).marks ∙ ap has_quotes bare

marks_proper : (f : Format) (line : List ℕ) (ms : List Mark) → HasTokens (lex_line f line) ms → naming_in f ≡ Bare
    → All IsProper ms
marks_proper f line ms tokens bare =
    subst (λ (l : Lexed). All IsProper l.marks) tokens (lexed_proper (line_mode f line) (line_quotes f line bare) line)

marks_named : (f : Format) (line : List ℕ) (ms : List Mark) → HasTokens (lex_line f line) ms → All IsNamed ms
marks_named f line ms tokens = subst (λ (l : Lexed). All IsNamed l.marks) tokens (lexed_named (line_mode f line) line)

below-wider : (n m : ℕ) (x : Attributes) → n ≤ m → IsSubset x (below n) → IsSubset x (below m)
below-wider n m x h within k e = let small : k < n = ltb-true k n (within k e) in lt-ltb k m (omega arith)

-- the type of a column that a line declares
abbrev FitsColumn : Format → ColumnType → Type 0
FitsColumn format.Plain c = c ≡ Text
FitsColumn format.Typed c = IsTrue (is_plain_type c)
FitsColumn format.Full c = IsTrue (is_column_type c)

plain_is_type : (c : ColumnType) → IsTrue (is_plain_type c) → IsTrue (is_column_type c)
plain_is_type Text plain = refl
plain_is_type Integer plain = refl
plain_is_type c plain = cc

column_type_is : (f : Format) (c : ColumnType) → FitsColumn f c → IsTrue (is_column_type c)
column_type_is format.Plain c text = subst (λ (column : ColumnType). IsTrue (is_column_type column)) (sym text) refl
column_type_is format.Typed c plain = plain_is_type c plain
column_type_is format.Full c is = is

column_plain : (f : Format) (c : ColumnType) → naming_in f ≡ Bare → FitsColumn f c → IsTrue (is_plain_type c)
column_plain format.Plain c bare text = subst (λ (column : ColumnType). IsTrue (is_plain_type column)) (sym text) refl
column_plain format.Typed c bare plain = plain
column_plain format.Full c bare is = cc

no_name : (names : List (List ℕ)) (word : List ℕ) → attribute_named names word ≡ None
    → All (λ name. same_name name word ≡ false) names
no_name names word e k d h =
    let all : length names ≤ position_or_len (λ name. same_name name word) names =
    elim (cases_Bool (nat_lt (position_or_len (λ name. same_name name word) names) (length names))) [
      | inl found ↦ let wrong = rw found at e in cc
      | inr none ↦ ltb-false _ _ none
    ] in
    fails_before_first (λ name. same_name name word) names k d (omega arith)

name_fits : (f : Format) (column : ColumnType) (names : List (List ℕ)) (columns : List ColumnType) (word : List ℕ)
    → FitsColumn f column → is_reserved f word ≡ false
    → FitsFormat f names columns → FitsFormat f (names ++ word ∷ []) (columns ++ column ∷ [])
unfolding is_reserved
name_fits format.Plain column names columns word h e fits = All-push (λ c. c ≡ Text) columns column fits h
name_fits format.Typed column names columns word h e fits =
    All-push (λ name. is_type_name name ≡ false) names word fits
    (or_parts (is_common_word word) (is_type_name word) e).1
name_fits format.Full column names columns word h e fits = tt

-- a name more in a text of bare names
name_bare : (f : Format) (column : ColumnType) (d : Declarations) (m : Mark) → FitsColumn f column → IsNewName f d m
    → naming_in f ≡ Bare → IsProper m → IsBareSound f d.names d.columns d.nullable
    → IsBareSound f (d.names ++ m.word ∷ []) (d.columns ++ column ∷ []) d.nullable
name_bare f column d m h new bare proper sound =
    let not_reserved : is_reserved f m.word ≡ false =
    ap (λ k. is_reserved_token f k m.word) (sym (bare_kind m.kind new.word proper.unquoted)) ∙ new.not_reserved in
    record {
      not_reserved = All-push (λ name. is_reserved f name ≡ false) d.names m.word sound.not_reserved not_reserved;
      proper = All-push (λ name. is_bare_name name ≡ true) d.names m.word sound.proper (proper.bare new.word);
      plain = All-push (λ c. IsTrue (is_plain_type c)) d.columns column sound.plain (column_plain f column bare h);
      none_nullable = sound.none_nullable;
      fits = name_fits f column d.names d.columns m.word h not_reserved sound.fits;
    }

name_sound : (f : Format) (column : ColumnType) (d : Declarations) (m : Mark) → FitsColumn f column
    → (naming_in f ≡ Bare → IsProper m) → IsNamed m
    → IsSound f d → IsNewName f d m
    → IsSound f (add_name d m.word column)
name_sound f column d m h proper named sound new =
    let more : length (d.names ++ m.word ∷ []) ≡ length d.names + 1 = length-append d.names (m.word ∷ []) in
    let columns : length (d.columns ++ column ∷ []) ≡ length d.columns + 1 = length-append d.columns (column ∷ []) in
    let room = new.room in
    record {
      names_within_limit = omega arith;
      names_differ = all_pairs_push (λ a b. same_name a b ≡ false) d.names m.word sound.names_differ
          (no_name d.names m.word new.new);
      are_names = All-push IsName d.names m.word sound.are_names (named new.word);
      deps_within_limit = sound.deps_within_limit;
      deps_within = λ k e below_k. let inside = sound.deps_within k e below_k in (
        below-wider (length d.names) (length (d.names ++ m.word ∷ [])) (left_of (get_or d.deps k e))
            (omega arith) inside.0,
        below-wider (length d.names) (length (d.names ++ m.word ∷ []))
            (right_of (get_or d.deps k e)) (omega arith) inside.1,
      );
      one_line_each = sound.one_line_each;
      one_column_each = let same = sound.one_column_each in omega arith;
      types = All-push (λ c. IsTrue (is_column_type c)) d.columns column sound.types (column_type_is f column h);
      nullable_within = below-wider (length d.names) (length (d.names ++ m.word ∷ [])) d.nullable (omega arith) sound.nullable_within;
      naming = sound.naming;
      bare = λ is. name_bare f column d m h new is (proper is) (sound.bare is);
    }

names_sound : (f : Format) (column : ColumnType) (d : Declarations) (ms : List Mark) (whole : Declarations)
    → FitsColumn f column → (naming_in f ≡ Bare → All IsProper ms) → All IsNamed ms
    → IsSound f d → DeclareNames f column d ms whole → IsSound f whole
names_sound f column d [] whole h proper named sound same = subst (IsSound f) (sym same) sound
names_sound f column d (m ∷ ms) whole h proper named sound (new, rest) =
    names_sound f column (add_name d m.word column) ms whole h (λ is. All-tail IsProper m ms (proper is)) (All-tail IsNamed m ms named)
    (name_sound f column d m h (λ is. All-head IsProper m ms (proper is)) (All-head IsNamed m ms named) sound new) rest

dependency_sound : (f : Format) (d : Declarations) (dep : Dependency) (line : ℕ) → IsSound f d → length d.deps < MOST_DEPENDENCY_LINES
    → IsWithin (below (length d.names)) dep → IsSound f (add_dependency d dep line)
dependency_sound f d dep line sound room inside =
    let deps : length (d.deps ++ dep ∷ []) ≡ length d.deps + 1 = length-append d.deps (dep ∷ []) in
    let lines : length (d.lines ++ line ∷ []) ≡ length d.lines + 1 = length-append d.lines (line ∷ []) in
    record {
      names_within_limit = sound.names_within_limit;
      names_differ = sound.names_differ;
      are_names = sound.are_names;
      deps_within_limit = omega arith;
      deps_within = All-push (IsWithin (below (length d.names))) d.deps dep sound.deps_within inside;
      one_line_each = let same = sound.one_line_each in omega arith;
      one_column_each = sound.one_column_each;
      types = sound.types;
      nullable_within = sound.nullable_within;
      naming = sound.naming;
      bare = sound.bare;
    }

-- what a line can be in a text of the format
abbrev FitsKind : Format → LineKind → Type 0
FitsKind f (begins.Names (purpose.Columns c)) = FitsColumn f c
FitsKind f begins.Dependency = Unit {0}
FitsKind f _ = naming_in f ≡ Bare → ⊥

abbrev EachFits : Format → List (List ℕ × LineKind) → Type 0
EachFits f [] = Unit {0}
EachFits f ((key, k) ∷ words) = FitsKind f k × EachFits f words

words_fit : (f : Format) → EachFits f (opening_words f)
words_fit format.Plain = (refl, tt)
words_fit format.Typed = (refl, (refl, (refl, tt)))
words_fit format.Full =
    (refl, (refl, (refl, (refl, (refl, (refl, ((λ bare. cc), ((λ bare. cc), ((λ bare. cc), tt)))))))))

begun_fits : (f : Format) (words : List (List ℕ × LineKind)) (word : List ℕ) → EachFits f words
    → FitsKind f (begun_by words word)
begun_fits f [] word each = tt
begun_fits f ((key, k) ∷ words) word (here, rest) =
    by_cases (bytes_eq word key) (begun_fits f words word rest)
  where
    by_cases : (b : Bool) → FitsKind f (begun_by words word) → FitsKind f (cond b k (begun_by words word))
    by_cases true later = here
    by_cases false later = later

kind_fits : (f : Format) (k : TokenKind) (word : List ℕ) → FitsKind f (line_kind f k word)
unfolding line_kind
kind_fits f token.Identifier word = begun_fits f (opening_words f) word (words_fit f)
kind_fits f k word = tt

kind_is : (f : Format) (m : Mark) (k : LineKind) → line_kind f m.kind m.word ≡ k → FitsKind f k
kind_is f m k is = subst (FitsKind f) is (kind_fits f m.kind m.word)

-- a type beside names that are no bare ones
column_full : (f : Format) (c : ColumnType) → (naming_in f ≡ Bare → ⊥) → IsTrue (is_column_type c) → FitsColumn f c
column_full format.Plain c full is = absurd (full refl)
column_full format.Typed c full is = absurd (full refl)
column_full format.Full c full is = is

-- the type of the columns that a line declares
declared_column : (f : Format) (ms : List Mark) (column : ColumnType) (words : List Mark)
    → (ByWord f ms column words ⊎ ByScale f ms column words) ⊎ ByText f ms column words
    → FitsColumn f column
declared_column f ms column words (inl (inl by)) = kind_is f by.head (columns_of column) by.declaring
declared_column f ms column words (inl (inr by)) =
    subst (FitsColumn f) (sym by.decimal)
    (column_full f (types.Decimal by.scale) (kind_is f by.head begins.Decimal by.declaring)
    (and_parts (nat_le by.scale MOST_SCALE) (by.number.length == 1) by.one_digit).0)
declared_column f ms column words (inr by) =
    subst (FitsColumn f) (sym by.other)
    (column_full f (types.Other by.text.word) (kind_is f by.head begins.Other by.declaring) by.is_type)

-- what holds of its tokens holds of its words
declared_words : (P : Mark → Type 0) (f : Format) (ms : List Mark) (column : ColumnType) (words : List Mark)
    → (ByWord f ms column words ⊎ ByScale f ms column words) ⊎ ByText f ms column words
    → All P ms → All P words
declared_words P f ms column words (inl (inl by)) each =
    All-tail P by.head words (subst (λ (ks : List Mark). All P ks) by.cut each)
declared_words P f ms column words (inl (inr by)) each =
    All-tail P by.number words
    (All-tail P by.head (by.number ∷ words) (subst (λ (ks : List Mark). All P ks) by.cut each))
declared_words P f ms column words (inr by) each =
    All-tail P by.text words
    (All-tail P by.head (by.text ∷ words) (subst (λ (ks : List Mark). All P ks) by.cut each))

nullable_sound : (f : Format) (d : Declarations) (x : Attributes) → IsSound f d → (naming_in f ≡ Bare → ⊥)
    → IsSubset x (below (length d.names)) → IsSound f (add_nullable d x)
nullable_sound f d x sound full inside = record {
  names_within_limit = sound.names_within_limit;
  names_differ = sound.names_differ;
  are_names = sound.are_names;
  deps_within_limit = sound.deps_within_limit;
  deps_within = sound.deps_within;
  one_line_each = sound.one_line_each;
  one_column_each = sound.one_column_each;
  types = sound.types;
  nullable_within = union_within (below (length d.names)) d.nullable x sound.nullable_within inside;
  naming = sound.naming;
  bare = λ is. absurd (full is);
}

-- what is sound stays so by what a line means
means_sound : (f : Format) (number : ℕ) (d : Declarations) (line : List ℕ) (next : Declarations)
    → IsSound f d → MeansTextLine f number d line next → IsSound f next
means_sound f number d line next sound (inl (inl blank)) = subst (IsSound f) (sym blank.same) sound
means_sound f number d line next sound (inl (inr is)) =
    names_sound f is.column d is.words next (declared_column f is.marks is.column is.words is.declares)
    (λ bare. declared_words IsProper f is.marks is.column is.words is.declares
    (marks_proper f line is.marks is.tokens bare))
    (declared_words IsNamed f is.marks is.column is.words is.declares (marks_named f line is.marks is.tokens))
    sound is.names
means_sound f number d line next sound (inr (inl is)) =
    subst (IsSound f) (sym is.adds)
    (nullable_sound f d (attributes_of_words d.names is.words) sound
    (kind_is f is.head (begins.Names purpose.Nullable) is.allowing) (named_within d.names is.words))
means_sound f number d line next sound (inr (inr is)) =
    subst (IsSound f) (sym is.adds)
    (dependency_sound f d is.dep number sound is.room
    (rest_within f d.names start (is.head ∷ is.others) is.dep tt is.dependency))

lines_sound : (f : Format) (number : ℕ) (d : Declarations) (lines : List (List ℕ)) (whole : Declarations)
    → IsSound f d → MeansLines f number d lines whole → IsSound f whole
lines_sound f number d [] whole sound same = subst (IsSound f) (sym same) sound
lines_sound f number d (line ∷ lines) whole sound (next, here, rest) =
    lines_sound f (number + 1) next lines whole (means_sound f number d line next sound here) rest

pub line_sound : (f : Format) (line : ℕ) (d : Declarations) (text : List ℕ) → IsSound f d → IfOk (read_line f line d text) (IsSound f)
line_sound f line d text sound =
    when_ok (IsSound f) _ (λ next e. means_sound f line d text next sound (line_there f line d text next e))

-- what a whole text declares forms a schema
pub record IsWhole (d : Declarations) : Type 0 where
  pub format : Format
  pub sound : IsSound format d
  pub not_empty : 0 < length d.names

pub opening_is_whole : (number : ℕ) (lines : List (List ℕ)) → IfOk (read_opening number lines) IsWhole
opening_is_whole number lines = when_ok IsWhole _ (λ whole e.
    let means = opening_means number lines whole e in
    elim (means.0) [
      | inl plain ↦ record {
        format = format.Plain;
        sound = lines_sound format.Plain number (no_declaration Bare) lines whole (nothing_sound format.Plain) plain.1;
        not_empty = means.1;
      }
      | inr text ↦ record {
        format = text.1;
        sound = lines_sound text.1 (length text.0.before + number + 1) (no_declaration (naming_in text.1)) text.0.later whole
            (nothing_sound (text.1)) text.3;
        not_empty = means.1;
      }
    ])

pub forms_schema : (d : Declarations) (deps : List Dep) → IsWhole d → d.deps ≡ dependencies_of deps → IsSchema d.names deps d.lines
forms_schema d deps whole e =
    let sound = whole.sound in
    let size : length d.deps ≡ length deps = ap length e ∙ length-map deps dependency_of in
    record {
      names_not_empty = whole.not_empty;
      names_within_limit = sound.names_within_limit;
      names_differ = sound.names_differ;
      deps_within_limit = let within_limit = sound.deps_within_limit in omega arith;
      deps_within = dependencies_all-to (IsWithin (below (length d.names))) deps
          (subst (All (IsWithin (below (length d.names)))) e sound.deps_within);
      one_line_each = let same = sound.one_line_each in omega arith;
    }

-- beside an integer column no name of a text of bare names is the name of a type
no_type_name : (f : Format) (names : List (List ℕ)) (columns : List ColumnType) → naming_in f ≡ Bare
    → FitsFormat f names columns → Contains columns Integer → All (λ name. is_type_name name ≡ false) names
no_type_name format.Plain names columns bare fits has =
    let wrong : Integer ≡ Text = All-contains (λ c. c ≡ Text) columns Integer fits has in cc
no_type_name format.Typed names columns bare fits has = fits
no_type_name format.Full names columns bare fits has = cc

pub forms_columns : (d : Declarations) → IsWhole d → AreDeclared d.naming d.names d.columns d.nullable
forms_columns d whole = record {
  one_each = whole.sound.one_column_each;
  each = whole.sound.types;
  nullable_within = whole.sound.nullable_within;
  bare = λ is.
      let bare = sym whole.sound.naming ∙ is in
      let sound = whole.sound.bare bare in record {
        each_bare = sound.proper;
        are_columns = record {
          one_each = whole.sound.one_column_each;
          plain = sound.plain;
          no_type_name = no_type_name whole.format d.names d.columns bare sound.fits;
        };
        none_nullable = sound.none_nullable;
      };
}

reserved_plain : (f : Format) (word : List ℕ) → naming_in f ≡ Bare → is_reserved f word ≡ false
    → is_reserved format.Plain word ≡ false
unfolding is_reserved
reserved_plain format.Plain word bare e = e
reserved_plain format.Typed word bare e = (or_parts (is_common_word word) (is_type_name word) e).0
reserved_plain format.Full word bare e = cc

-- no bare name of a text that is read is reserved
pub whole_not_reserved : (d : Declarations) → IsWhole d → d.naming ≡ Bare → All (λ name. is_reserved format.Plain name ≡ false) d.names
whole_not_reserved d whole is k e h =
    let bare = sym whole.sound.naming ∙ is in
    reserved_plain whole.format (get_or d.names k e) bare ((whole.sound.bare bare).not_reserved k e h)
