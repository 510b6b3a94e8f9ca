-- What is printed of the names and columns of a schema declares them.
use Rattle.std.proofs.Common.{◌≡◌, ◌<◌, ◌≤◌, ◌+◌, inl, inr, ℕ, suc, Bool, true, false, All, cond, List, [], ◌∷◌, ◌++◌, length, None, refl, sym, ◌∙◌, ap, subst, arith, append_assoc, length-append}
use mathlib.Core.Path.{fun_ext}
use Rattle.std.specs.Prelude.{codes, map, nat_lt}
use Rattle.std.specs.List.{flat_map, position_or_len}
use Rattle.std.proofs.lemmas.Bool.{cases_Bool}
use Rattle.std.proofs.lemmas.Bool.Decides.{nat_tests}
use Rattle.std.proofs.lemmas.List.{append-nil, get_or_at}
use Rattle.std.proofs.lemmas.List.Elements.{All-nil, All-cons, All-head, All-tail}
use Rattle.std.proofs.lemmas.List.Sums.{position_or_len_is}
use Rattle.attr_sets.specs.Attributes.{Attributes, none, union, below, IsSubset}
use Rattle.attr_sets.specs.declared.set.TheConstants.{MOST_ATTRIBUTES}
use Rattle.schema_model.specs.declared.column_type.ColumnType.{ColumnType}
use Rattle.schema_model.specs.declared.naming.Naming.{Naming}
use Rattle.schema_model.specs.declared.naming.Naming.TheVariants.{Any}
use Rattle.schema_model.specs.Schemas.{attribute_named}
use Rattle.schema_model.specs.Names.{same_name}
use Rattle.lexer.specs.Modes as mode
use Rattle.lexer.specs.declared.token.TokenKind.TheVariants as token
use Rattle.lexer.specs.Tokens.{Mark}
use Rattle.schema_grammar.specs.declared.format.Format.{Format}
use Rattle.schema_grammar.specs.declared.format.Format.TheVariants as format
use Rattle.schema_grammar.specs.Declarations.{Declarations, add_name}
use Rattle.schema_grammar.specs.LineTokens.{naming_in}
use Rattle.schema_grammar.specs.Meanings.{attributes_of_words}
use Rattle.schema_grammar.specs.Printed.{IsReadBack, AreReadBack}
use Rattle.schema_grammar.specs.Schemas.{DeclareNames, IsAllowing, MeansTextLine, MeansLines}
use Rattle.schema_grammar.specs.Words.{line_kind}
use Rattle.schema_printer.specs.Printing.{words_text, members_from, Run, run_line, runs_of, in_front, same_column, type_word, nullable_lines}
use Rattle.schema_printer.specs.Spelling.{spelling}
use Rattle.schema_printer.proofs.PrintLemmas.{same_column-is}
use Rattle.schema_printer.proofs.MemberLemmas.{members_each}
use Rattle.schema_grammar.proofs.PrintedColumns.{IsPrinted, PrintsRun, column_run, column_bytes}
use Rattle.schema_grammar.proofs.PrintedDependencies.{plain_line}
use Rattle.schema_grammar.proofs.PrintedTexts.{bytes_both, EachBytes}
use Rattle.schema_grammar.proofs.SpelledSides.{IsCutAt, cut_more, words_set, IsKnownName, each_known, differ_before, kind_is_word, kind_not_reserved, marks_name, marks_set, members_are}
use Rattle.schema_grammar.proofs.SpelledWords.{name_marks, named_line, members_spelled, names_bytes}

-- ---- names that are declared one by one
-- a name that differs from those before is none of them
none_found : (before : List (List ℕ)) (word : List ℕ) → All (λ b. same_name b word ≡ false) before → attribute_named before word ≡ None
none_found before word none =
    let all : position_or_len (λ b. same_name b word) before ≡ length before =
    position_or_len_is (λ b. same_name b word) before (length before) [] (omega arith)
    (λ k less. none k [] less) (λ less. absurd (omega arith)) in
    let outside : nat_lt (length before) (length before) ≡ false = grind (arith, nat_tests) in rw (all, outside) refl

read_back_at : (f : Format) (naming : Naming) (names before : List (List ℕ)) (name : List ℕ) (after : List (List ℕ)) (position : ℕ)
    → AreReadBack f naming names → IsCutAt names before (name ∷ after) position → IsReadBack f naming name
read_back_at f naming names before name after position are cut =
    let size : length (before ++ name ∷ after) ≡ length before + suc (length after) = length-append before (name ∷ after) in
    let whole : All (IsReadBack f naming) (before ++ name ∷ after) = subst (All (IsReadBack f naming)) cut.whole are.each in
    subst (IsReadBack f naming) (get_or_at before name after [] (length before) refl) (whole (length before) [] (omega arith))

front_read_back : (f : Format) (naming : Naming) (names before words rest : List (List ℕ)) (position : ℕ) → AreReadBack f naming names
    → IsCutAt names before (words ++ rest) position → All (IsReadBack f naming) words
front_read_back f naming names before [] rest position are cut = All-nil (IsReadBack f naming)
front_read_back f naming names before (word ∷ words) rest position are cut =
    All-cons (IsReadBack f naming) word words (read_back_at f naming names before word (words ++ rest) position are cut)
    (front_read_back f naming names (before ++ word ∷ []) words rest (position + 1) are
    (cut_more names before word (words ++ rest) position cut))

abbrev pub with_names : Declarations → List (List ℕ) → ColumnType → Declarations
with_names d words column = record d { names = d.names ++ words; columns = d.columns ++ map (λ w. column) words }

-- words in front of others are declared one by one
declare_front : (f : Format) (column : ColumnType) (d : Declarations) (names words rest : List (List ℕ))
    (at position : ℕ) → AreReadBack f (naming_in f) names → IsCutAt names d.names (words ++ rest) position
    → length names ≤ MOST_ATTRIBUTES → DeclareNames f column d (name_marks (naming_in f) at words) (with_names d words column)
declare_front f column d names [] rest at position are cut within_limit =
    λ i. record d { names = append-nil d.names i; columns = append-nil d.columns i }
declare_front f column d names (word ∷ words) rest at position are cut within_limit =
    let naming = naming_in f in
    let own = read_back_at f naming names d.names word (words ++ rest) position are cut in
    let size : length names ≡ length d.names + suc (length (words ++ rest)) = ap length cut.whole ∙ length-append d.names (word ∷ words ++ rest) in
    let next = at + 1 + length (spelling naming word) in
    let more = declare_front f column (add_name d word column) names words rest next
    (position + 1) are (cut_more names d.names word (words ++ rest) position cut) within_limit in
    let same : with_names (add_name d word column) words column ≡ with_names d (word ∷ words) column =
    (λ i. record d { names = append_assoc d.names (word ∷ []) words i; columns = append_assoc d.columns (column ∷ []) (map (λ w. column) words) i }) in
    let of : Declarations → Type 0 = λ w. DeclareNames f column (add_name d word column) (name_marks naming next words) w in
    let new = none_found d.names word (differ_before names d.names word (words ++ rest) are.differ cut.whole) in
    (record { word = kind_is_word naming word; not_reserved = kind_not_reserved f naming word own; new = new; room = omega arith }, subst of same more)

some_marks : (naming : Naming) (at : ℕ) (words : List (List ℕ)) → 0 < length words → 0 < length (name_marks naming at words)
some_marks naming at [] h = h
some_marks naming at (word ∷ words) h = omega arith

-- a declaring line as it is printed
pub declaring_mean : (f : Format) (column : ColumnType) (number : ℕ) (d : Declarations) (key : List ℕ)
    (names words rest : List (List ℕ)) (position : ℕ) → AreReadBack f (naming_in f) names
    → IsCutAt names d.names (words ++ rest) position → length names ≤ MOST_ATTRIBUTES → 0 < length words
    → PrintsRun f key column words
    → MeansTextLine f number d (key ++ words_text (map (spelling (naming_in f)) words)) (with_names d words column)
declaring_mean f column number d key names words rest position are cut within_limit not_empty run =
    inl (inr (record {
      marks = run.marks;
      words = name_marks (naming_in f) run.at words;
      column = column;
      tokens = run.tokens;
      declares = run.declares;
      not_empty = some_marks (naming_in f) run.at words not_empty;
      names = declare_front f column d names words rest run.at position are cut within_limit;
    }))

-- ---- runs of attributes
abbrev pub run_names : List Run → List (List ℕ)
run_names runs = flat_map (λ r. r.names) runs

abbrev pub run_columns : List Run → List ColumnType
run_columns runs = flat_map (λ r. map (λ (w : List ℕ). r.column) r.names) runs

abbrev pub EachSome : Format → List Run → Type 0
EachSome f [] = Unit {0}
EachSome f (r ∷ rs) = (0 < length r.names) × IsPrinted f r.column × EachSome f rs

-- the names and columns of attributes, in runs none of which is empty
pub record AreRuns (f : Format) (runs : List Run) (columns : List ColumnType) (names : List (List ℕ)) : Type 0 where
  pub names_are : run_names runs ≡ names
  pub columns_are : run_columns runs ≡ columns
  pub not_empty : EachSome f runs

front_runs : (f : Format) (c : ColumnType) (name : List ℕ) (runs : List Run) (columns : List ColumnType) (names : List (List ℕ))
    → IsPrinted f c → AreRuns f runs columns names
    → AreRuns f (in_front c name runs) (c ∷ columns) (name ∷ names)
front_runs f c name [] columns names printed are =
    record {
      names_are = ap (λ t. name ∷ t) are.names_are;
      columns_are = ap (λ t. c ∷ t) are.columns_are;
      not_empty = (omega arith, printed, tt);
    }
front_runs f c name (r ∷ rs) columns names printed are = by_cases (same_column c r.column) refl
  where
    by_cases : (b : Bool) → same_column c r.column ≡ b
        → AreRuns f (cond b (record { column = c; names = name ∷ r.names } ∷ rs)
        (record { column = c; names = name ∷ [] } ∷ r ∷ rs)) (c ∷ columns) (name ∷ names)
    by_cases true e = record {
      names_are = ap (λ t. name ∷ t) are.names_are;
      columns_are = ap (λ k. (c ∷ map (λ (w : List ℕ). k) r.names) ++ run_columns rs) (same_column-is c r.column e)
          ∙ ap (λ t. c ∷ t) are.columns_are;
      not_empty = (omega arith, printed, are.not_empty.2);
    }
    by_cases false e =
        record {
          names_are = ap (λ t. name ∷ t) are.names_are;
          columns_are = ap (λ t. c ∷ t) are.columns_are;
          not_empty = (omega arith, printed, are.not_empty);
        }

pub are_runs : (f : Format) (columns : List ColumnType) (names : List (List ℕ)) → length columns ≡ length names → All (IsPrinted f) columns
    → AreRuns f (runs_of columns names) columns names
are_runs f [] [] e printed = record { names_are = refl; columns_are = refl; not_empty = tt }
are_runs f [] (name ∷ names) e printed = absurd (omega arith)
are_runs f (column ∷ columns) [] e printed = absurd (omega arith)
are_runs f (column ∷ columns) (name ∷ names) e printed =
    front_runs f column name (runs_of columns names) columns names (All-head (IsPrinted f) column columns printed)
    (are_runs f columns names (omega arith) (All-tail (IsPrinted f) column columns printed))

-- the runs of printed names are those of the names
abbrev spelled_run : Naming → Run → Run
spelled_run naming r = record { column = r.column; names = map (spelling naming) r.names }

in_front_spelled : (naming : Naming) (c : ColumnType) (name : List ℕ) (runs : List Run)
    → in_front c (spelling naming name) (map (spelled_run naming) runs) ≡ map (spelled_run naming) (in_front c name runs)
in_front_spelled naming c name [] = refl
in_front_spelled naming c name (r ∷ rs) = elim (cases_Bool (same_column c r.column)) [
  | inl same ↦ rw same refl
  | inr other ↦ rw other refl
]

pub runs_spelled : (naming : Naming) (columns : List ColumnType) (names : List (List ℕ))
    → runs_of columns (map (spelling naming) names) ≡ map (spelled_run naming) (runs_of columns names)
runs_spelled naming [] names = refl
runs_spelled naming (column ∷ columns) [] = refl
runs_spelled naming (column ∷ columns) (name ∷ names) =
    ap (in_front column (spelling naming name)) (runs_spelled naming columns names)
    ∙ in_front_spelled naming column name (runs_of columns names)

-- after runs that are printed line by line
abbrev pub with_runs : Declarations → List Run → Declarations
with_runs d runs = record d { names = d.names ++ run_names runs; columns = d.columns ++ run_columns runs }

abbrev pub run_lines : Naming → List Run → List (List ℕ)
run_lines naming runs = map run_line (map (spelled_run naming) runs)

pub runs_mean : (f : Format) (number : ℕ) (d : Declarations) (names : List (List ℕ)) (runs : List Run) (lines : List (List ℕ)) (whole : Declarations) (position : ℕ) → AreReadBack f (naming_in f) names
    → IsCutAt names d.names (run_names runs) position → length names ≤ MOST_ATTRIBUTES → EachSome f runs → MeansLines f (number + length runs) (with_runs d runs) lines whole
    → MeansLines f number d (run_lines (naming_in f) runs ++ lines) whole
runs_mean f number d names [] lines whole position are cut within_limit not_empty rest =
    let same : with_runs d [] ≡ d = (λ i. record d { names = append-nil d.names i; columns = append-nil d.columns i }) in
    let back : number + 0 ≡ number = omega arith in
    let of : Declarations → Type 0 = λ e. MeansLines f number e lines whole in
    let of_n : ℕ → Type 0 = λ n. MeansLines f n (with_runs d []) lines whole in
    subst of same (subst of_n back rest)
runs_mean f number d names (r ∷ runs) lines whole position are cut within_limit (here, printed, not_empty) rest =
    let next = with_names d r.names r.column in
    let same : with_runs d (r ∷ runs) ≡ with_runs next runs =
    (λ i. record d { names = sym (append_assoc d.names r.names (run_names runs)) i; columns = sym (append_assoc d.columns (map (λ w. r.column) r.names) (run_columns runs)) i }) in
    let later : number + suc (length runs) ≡ (number + 1) + length runs = omega arith in
    let of : Declarations → Type 0 = λ e. MeansLines f (number + suc (length runs)) e lines whole in
    let of_n : ℕ → Type 0 = λ n. MeansLines f n (with_runs next runs) lines whole in
    let all = front_read_back f (naming_in f) names d.names r.names (run_names runs) position are cut in (
      next,
      declaring_mean f r.column number d (type_word r.column) names r.names
          (run_names runs) position are cut within_limit here (column_run f r.column r.names printed all),
      runs_mean f (number + 1) next names runs lines whole (position + length r.names) are
          (record {
            whole = cut.whole ∙ sym (append_assoc d.names r.names (run_names runs));
            size = length-append d.names r.names ∙ ap (λ k. k + length r.names) cut.size;
          })
          within_limit not_empty (subst of_n later (subst of same rest)),
    )

split_all : (P : List ℕ → Type 0) (xs ys : List (List ℕ)) → All P (xs ++ ys) → All P xs × All P ys
split_all P [] ys h = (All-nil P, h)
split_all P (x ∷ xs) ys h =
    let more = split_all P xs ys (All-tail P x (xs ++ ys) h) in
    (All-cons P x xs (All-head P x (xs ++ ys) h) more.0, more.1)

pub runs_bytes : (f : Format) (runs : List Run) → EachSome f runs → All (IsReadBack f (naming_in f)) (run_names runs)
    → EachBytes (run_lines (naming_in f) runs)
runs_bytes f [] not_empty names = tt
runs_bytes f (r ∷ rs) (here, printed, not_empty) names =
    let parts = split_all (IsReadBack f (naming_in f)) r.names (run_names rs) names in (
      bytes_both (type_word r.column) (words_text (map (spelling (naming_in f)) r.names)) (column_bytes f r.column printed)
          (names_bytes f (naming_in f) r.names parts.0),
      runs_bytes f rs not_empty parts.1,
    )

-- ---- the line of the attributes of which a value may be missing
abbrev pub with_nullable : Declarations → Attributes → Declarations
with_nullable d x = record d { nullable = x }

pub nullable_mean : (number : ℕ) (d : Declarations) (nullable : Attributes) (rest : List (List ℕ)) (whole : Declarations)
    → AreReadBack format.Full Any d.names → IsSubset nullable (below (length d.names)) → d.nullable ≡ none
    → MeansLines format.Full (number + length (nullable_lines (members_from nullable 0 (map (spelling Any) d.names))))
    (with_nullable d nullable) rest whole
    → MeansLines format.Full number d (nullable_lines (members_from nullable 0 (map (spelling Any) d.names)) ++ rest) whole
unfolding nullable_lines line_kind
nullable_mean number d nullable rest whole are within unset later =
    rw (members_spelled Any nullable 0 d.names)
    (by_cases (members_from nullable 0 d.names) (members_are nullable d.names are.differ within)
    (members_each (IsKnownName format.Full Any d.names) nullable 0 d.names
    (each_known format.Full Any d.names [] d.names 0 are.differ (record { whole = refl; size = refl }) are.each))
    (members_each (IsReadBack format.Full Any) nullable 0 d.names are.each)
    (rw (members_spelled Any nullable 0 d.names) at later))
  where
    by_cases : (members : List (List ℕ)) → nullable ≡ words_set d.names members
        → All (IsKnownName format.Full Any d.names) members → All (IsReadBack format.Full Any) members
        → MeansLines format.Full (number + length (nullable_lines (map (spelling Any) members)))
        (with_nullable d nullable) rest whole
        → MeansLines format.Full number d (nullable_lines (map (spelling Any) members) ++ rest) whole
    by_cases [] members known all later =
        let same : with_nullable d nullable ≡ d = ap (λ x. with_nullable d x) (members ∙ sym unset) in
        let back : number + 0 ≡ number = omega arith in
        let of : Declarations → Type 0 = λ e. MeansLines format.Full number e rest whole in
        let of_n : ℕ → Type 0 = λ n. MeansLines format.Full n (with_nullable d nullable) rest whole in
        subst of same (subst of_n back later)
    by_cases (name ∷ names) members known all later = (with_nullable d nullable, inr (inl line), later)
      where
        marks : List Mark
        marks = name_marks Any 9 (name ∷ names)

        set : attributes_of_words d.names marks ≡ nullable
        set = fun_ext (λ k. marks_set Any d.names 9 (name ∷ names) k) ∙ sym members

        line : IsAllowing format.Full d (codes "nullable" ++ words_text (map (spelling Any) (name ∷ names))) (with_nullable d nullable)
        line = record {
          head = record { kind = token.Identifier; column = 1; length = 8; word = codes "nullable" };
          words = marks;
          tokens = plain_line format.Full _ _ marks
              (named_line format.Full Any (mode.plain Any) (codes "nullable") (name ∷ names) refl refl all) refl;
          allowing = refl;
          not_empty = omega arith;
          each = marks_name format.Full Any d.names 9 (name ∷ names) known;
          adds = ap (λ x. with_nullable d x) (sym (ap (λ x. union x (attributes_of_words d.names marks)) unset ∙ set));
        }

pub nullable_bytes : (nullable : Attributes) (names : List (List ℕ)) → AreReadBack format.Full Any names
    → EachBytes (nullable_lines (members_from nullable 0 (map (spelling Any) names)))
unfolding nullable_lines
nullable_bytes nullable names are =
    rw (members_spelled Any nullable 0 names)
    (by_cases (members_from nullable 0 names) (members_each (IsReadBack format.Full Any) nullable 0 names are.each))
  where
    by_cases : (members : List (List ℕ)) → All (IsReadBack format.Full Any) members
        → EachBytes (nullable_lines (map (spelling Any) members))
    by_cases [] all = tt
    by_cases (name ∷ members) all = (
      bytes_both (codes "nullable") (words_text (map (spelling Any) (name ∷ members))) refl
          (names_bytes format.Full Any (name ∷ members) all),
      tt,
    )
