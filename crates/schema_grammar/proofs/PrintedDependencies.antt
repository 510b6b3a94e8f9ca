-- What is printed of a dependency means it, also with a comment after it, and so do the lines of dependencies at a
-- text's end.
use Rattle.std.proofs.Common.{◌≡◌, ◌≤◌, ◌+◌, inl, inr, ℕ, Bool, true, false, cond, List, [], ◌∷◌, ◌++◌, length, None, refl, sym, ◌∙◌, ap, subst, arith, append_assoc, length-append}
use Rattle.std.specs.Prelude.{codes, map}
use Rattle.std.specs.List.{All}
use Rattle.std.specs.Str.{bytes_eq}
use Rattle.std.proofs.lemmas.List.{append-nil, length-map}
use Rattle.std.proofs.lemmas.List.Elements.{All-nil, All-cons, All-head, All-tail}
use Rattle.std.proofs.lemmas.Slice.Eq.{bytes_eq-Decides}
use Rattle.attr_sets.specs.Attributes.{Attributes, IsSubset, below}
use Rattle.schema_model.specs.declared.naming.Naming.{Naming}
use Rattle.dep_model.specs.Dependencies.{Dependency, fd, mvd, IsWithin}
use Rattle.lexer.specs.declared.mode.Mode.{Mode}
use Rattle.lexer.specs.Modes as mode
use Rattle.lexer.specs.Modes.{has_quotes}
use Rattle.lexer.specs.declared.token.TokenKind.{TokenKind}
use Rattle.lexer.specs.declared.token.TokenKind.TheVariants as token
use Rattle.lexer.specs.Tokens.{Mark, Lexed, tokens_after, lex, led_by_mark}
use Rattle.schema_grammar.specs.declared.symbol.Sign.{Sign}
use Rattle.schema_grammar.specs.declared.symbol.Sign.TheVariants as sign
use Rattle.schema_grammar.specs.declared.format.TheConstants.{MOST_DEPENDENCY_LINES}
use Rattle.schema_grammar.specs.declared.format.Format.{Format}
use Rattle.schema_grammar.specs.declared.format.Format.TheVariants as format
use Rattle.schema_grammar.specs.declared.line_kind.LineKind.{LineKind}
use Rattle.schema_grammar.specs.declared.line_kind.LineKind.TheVariants as begins
use Rattle.schema_grammar.specs.Declarations.{Declarations, add_dependency}
use Rattle.schema_grammar.specs.Grammar.{dependency_of_sign}
use Rattle.schema_grammar.specs.LineTokens.{naming_in, mode_of_kind, mode_by_head, line_mode, lex_line}
use Rattle.schema_grammar.specs.Meanings.{HasTokens, IsArrow, IsDependency}
use Rattle.schema_grammar.specs.Printed.{IsReadBack, AreReadBack}
use Rattle.schema_grammar.specs.Schemas.{MeansLines}
use Rattle.schema_grammar.specs.Words.{is_reserved, is_reserved_token, opening_words, begun_by, line_kind}
use Rattle.schema_printer.specs.Printing.{side_text, members_from, set_text, dependency_text}
use Rattle.schema_printer.specs.Spelling.{is_schema_word, spelling}
use Rattle.schema_grammar.proofs.BlankLemmas.{blank_line}
use Rattle.schema_grammar.proofs.PrintedLexing.{arrow_lexed, double_arrow_lexed}
use Rattle.schema_grammar.proofs.PrintedTexts.{Bytes, bytes_both, EachBytes}
use Rattle.schema_grammar.proofs.SpelledSides.{kind_not_reserved, printed_side, printed_names}
use Rattle.schema_grammar.proofs.SpelledWords.{Parted, EndsLine, kind_of, led_by_all, side_marks, side_end, side_lexed, ended_side, nothing_ends, members_spelled, side_bytes, nothing_left}

-- ---- how a line is read by its first token
-- as its tokens are where no number is one
pub plain_line : (f : Format) (line : List ℕ) (m : Mark) (ms : List Mark)
    → HasTokens (lex (mode.plain (naming_in f)) line) (m ∷ ms)
    → mode_of_kind f (line_kind f m.kind m.word) ≡ mode.plain (naming_in f) → HasTokens (lex_line f line) (m ∷ ms)
unfolding line_mode
plain_line f line m ms tokens e =
    let same : line_mode f line ≡ mode.plain (naming_in f) = ap (λ (l : Lexed). mode_by_head f l.marks) tokens ∙ e in
    ap (λ (taken : Mode). lex taken line) same ∙ tokens

-- a word that is not reserved begins a dependency
abbrev AllReserved : Format → List (List ℕ × LineKind) → Type 0
AllReserved f [] = Unit {0}
AllReserved f ((key, k) ∷ words) = (is_reserved f key ≡ true) × AllReserved f words

words_reserved : (f : Format) → AllReserved f (opening_words f)
unfolding is_reserved is_schema_word
words_reserved format.Plain = (refl, tt)
words_reserved format.Typed = (refl, (refl, (refl, tt)))
words_reserved format.Full = (refl, (refl, (refl, (refl, (refl, (refl, (refl, (refl, (refl, tt)))))))))

begins_dependency : (f : Format) (words : List (List ℕ × LineKind)) (word : List ℕ) → AllReserved f words
    → is_reserved f word ≡ false → begun_by words word ≡ begins.Dependency
begins_dependency f [] word each none = refl
begins_dependency f ((key, k) ∷ words) word (here, rest) none =
    by_cases (bytes_eq word key) refl (begins_dependency f words word rest none)
  where
    by_cases : (b : Bool) → bytes_eq word key ≡ b → begun_by words word ≡ begins.Dependency
        → cond b k (begun_by words word) ≡ begins.Dependency
    by_cases true is later =
        let wrong : true ≡ false = sym here ∙ ap (is_reserved f) (sym ((bytes_eq-Decides word key).0 is)) ∙ none in cc
    by_cases false is later = later

pub unreserved_dependency : (f : Format) (k : TokenKind) (word : List ℕ) → is_reserved_token f k word ≡ false
    → line_kind f k word ≡ begins.Dependency
unfolding line_kind
unreserved_dependency f token.Identifier word none = begins_dependency f (opening_words f) word (words_reserved f) none
unreserved_dependency f k word none = refl

-- ---- the tokens of a dependency
-- the arrow of a dependency, as it is printed
abbrev sign_text : Sign → List ℕ
sign_text sign.Functional = codes " -> "
sign_text sign.Multivalued = codes " ->> "

abbrev sign_mark : Sign → ℕ → Mark
sign_mark sign.Functional column = record { kind = token.Arrow; column = column; length = 2; word = 45 ∷ 62 ∷ [] }
sign_mark sign.Multivalued column =
    record { kind = token.DoubleArrow; column = column; length = 3; word = 45 ∷ 62 ∷ 62 ∷ [] }

abbrev right_column : Sign → ℕ → ℕ
right_column sign.Functional column = column + 1 + 2 + 1
right_column sign.Multivalued column = column + 1 + 3 + 1

sign_lexed : (s : Sign) (m : Mode) (column : ℕ) (rest : List ℕ)
    → tokens_after m 0 column (sign_text s ++ rest)
    ≡ led_by_mark (sign_mark s (column + 1)) (tokens_after m 0 (right_column s column) rest)
sign_lexed sign.Functional m column rest = arrow_lexed m column rest
sign_lexed sign.Multivalued m column rest = double_arrow_lexed m column rest

abbrev sides_marks : Naming → Sign → List (List ℕ) → List (List ℕ) → List Mark
sides_marks naming s left right =
    side_marks naming 1 left
    ++ sign_mark s (side_end naming 1 left + 1) ∷ side_marks naming (right_column s (side_end naming 1 left)) right

sides_lexed : (f : Format) (naming : Naming) (m : Mode) (s : Sign) (left right : List (List ℕ)) (tail : List ℕ)
    → m.quotes ≡ has_quotes naming → m.comments ≡ true
    → All (IsReadBack f naming) left → All (IsReadBack f naming) right → EndsLine tail
    → HasTokens (lex m (((side_text (map (spelling naming) left) ++ sign_text s) ++ side_text (map (spelling naming) right)) ++ tail))
    (sides_marks naming s left right)
sides_lexed f naming m s left right tail taken comments left_names right_names ends =
    let after = side_end naming 1 left in
    let first = side_text (map (spelling naming) left) in
    let last = side_text (map (spelling naming) right) in
    ap (tokens_after m 0 1) (append_assoc (first ++ sign_text s) last tail ∙ append_assoc first (sign_text s) (last ++ tail))
    ∙ side_lexed f naming m 1 left (sign_text s ++ (last ++ tail)) taken left_names
    (elim s as (λ s. Parted (sign_text s ++ (last ++ tail))) [ sign.Functional ↦ (refl, refl) | _ ↦ (refl, refl) ])
    ∙ ap (led_by_all (side_marks naming 1 left))
    (sign_lexed s m after (last ++ tail) ∙ ap (led_by_mark (sign_mark s (after + 1)))
    (ended_side f naming m (right_column s after) right tail taken comments right_names ends))

-- ---- what they mean
-- what is printed of a dependency, as tokens of a dependency line
pub record PrintsLine (f : Format) (names : List (List ℕ)) (line : List ℕ) (d : Dependency) : Type 0 where
  pub head : Mark
  pub others : List Mark
  pub tokens : HasTokens (lex_line f line) (head ∷ others)
  pub stating : line_kind f head.kind head.word ≡ begins.Dependency
  pub dependency : IsDependency f names (head ∷ others) d

-- the first of the marks of a side, which begins a dependency
record Heads (f : Format) (ms : List Mark) : Type 0 where
  head : Mark
  others : List Mark
  whole : ms ≡ head ∷ others
  stating : line_kind f head.kind head.word ≡ begins.Dependency

side_heads : (f : Format) (naming : Naming) (column : ℕ) (names : List (List ℕ))
    → All (IsReadBack f naming) names → Heads f (side_marks naming column names)
unfolding line_kind
side_heads f naming column [] all = record { head = _; others = _; whole = refl; stating = refl }
side_heads f naming column (name ∷ names) all = record {
  head = _;
  others = _;
  whole = refl;
  stating = unreserved_dependency f (kind_of naming name) name
      (kind_not_reserved f naming name (All-head (IsReadBack f naming) name names all));
}

printed_sides : (f : Format) (names : List (List ℕ)) (s : Sign) (x y : Attributes) (tail : List ℕ)
    → AreReadBack f (naming_in f) names
    → IsSubset x (below (length names)) → IsSubset y (below (length names)) → EndsLine tail
    → PrintsLine f names
    (((side_text (map (spelling (naming_in f)) (members_from x 0 names)) ++ sign_text s)
    ++ side_text (map (spelling (naming_in f)) (members_from y 0 names))) ++ tail) (dependency_of_sign s x y)
printed_sides f names s x y tail are left right ends =
    let naming = naming_in f in
    let lefts = members_from x 0 names in
    let rights = members_from y 0 names in
    let after = side_end naming 1 lefts in
    let heads = side_heads f naming 1 lefts (printed_names f naming names x are) in
    let rest = sign_mark s (after + 1) ∷ side_marks naming (right_column s after) rights in
    let line = ((side_text (map (spelling naming) lefts) ++ sign_text s) ++ side_text (map (spelling naming) rights)) ++ tail in
    let tokens : HasTokens (lex (mode.plain naming) line) (heads.head ∷ (heads.others ++ rest)) =
    sides_lexed f naming (mode.plain naming) s lefts rights tail refl refl (printed_names f naming names x are)
    (printed_names f naming names y are) ends
    ∙ ap (λ ms. record { marks = ms ++ rest; stop = None }) heads.whole in
    record {
      head = heads.head;
      others = heads.others ++ rest;
      tokens = plain_line f line heads.head (heads.others ++ rest) tokens (ap (mode_of_kind f) heads.stating);
      stating = heads.stating;
      dependency = subst (λ (ms : List Mark). IsDependency f names ms (dependency_of_sign s x y))
          (ap (λ ms. ms ++ rest) heads.whole) (record {
            lhs = side_marks naming 1 lefts;
            arrow = sign_mark s (after + 1);
            rhs = side_marks naming (right_column s after) rights;
            x = x;
            y = y;
            sign = s;
            whole = refl;
            left_side = printed_side f naming names x 1 are left;
            is_arrow = elim s as (λ s. IsArrow s (sign_mark s (after + 1)).kind) [ sign.Functional ↦ refl | _ ↦ refl ];
            right_side = printed_side f naming names y (right_column s after) are right;
            states = refl;
          });
    }

-- the printed text of a dependency, by its sides
sides_text : (naming : Naming) (names : List (List ℕ)) (s : Sign) (x y : Attributes)
    → dependency_text (map (spelling naming) names) (dependency_of_sign s x y)
    ≡ (side_text (map (spelling naming) (members_from x 0 names)) ++ sign_text s)
    ++ side_text (map (spelling naming) (members_from y 0 names))
unfolding dependency_text set_text
sides_text naming names sign.Functional x y = rw (members_spelled naming x 0 names, members_spelled naming y 0 names) refl
sides_text naming names sign.Multivalued x y = rw (members_spelled naming x 0 names, members_spelled naming y 0 names) refl

stated_line : (f : Format) (names : List (List ℕ)) (s : Sign) (x y : Attributes) (tail : List ℕ)
    → AreReadBack f (naming_in f) names
    → IsSubset x (below (length names)) → IsSubset y (below (length names)) → EndsLine tail
    → PrintsLine f names (dependency_text (map (spelling (naming_in f)) names) (dependency_of_sign s x y) ++ tail) (dependency_of_sign s x y)
stated_line f names s x y tail are left right ends =
    subst (λ (line : List ℕ). PrintsLine f names (line ++ tail) (dependency_of_sign s x y))
    (sym (sides_text (naming_in f) names s x y)) (printed_sides f names s x y tail are left right ends)

-- a dependency, and what ends its line
ended_line : (f : Format) (names : List (List ℕ)) (d : Dependency) (tail : List ℕ) → AreReadBack f (naming_in f) names
    → IsWithin (below (length names)) d → EndsLine tail
    → PrintsLine f names (dependency_text (map (spelling (naming_in f)) names) d ++ tail) d
ended_line f names (fd x y) tail are within ends = stated_line f names sign.Functional x y tail are within.0 within.1 ends
ended_line f names (mvd x y) tail are within ends = stated_line f names sign.Multivalued x y tail are within.0 within.1 ends

pub printed_line : (f : Format) (names : List (List ℕ)) (d : Dependency) → AreReadBack f (naming_in f) names → IsWithin (below (length names)) d
    → PrintsLine f names (dependency_text (map (spelling (naming_in f)) names) d) d
printed_line f names d are within =
    subst (λ (line : List ℕ). PrintsLine f names line d) (append-nil (dependency_text (map (spelling (naming_in f)) names) d))
    (ended_line f names d [] are within nothing_ends)

-- ---- lines of dependencies
stated_bytes : (f : Format) (naming : Naming) (names : List (List ℕ)) (s : Sign) (x y : Attributes) → AreReadBack f naming names
    → Bytes (dependency_text (map (spelling naming) names) (dependency_of_sign s x y))
stated_bytes f naming names s x y are =
    let left = side_text (map (spelling naming) (members_from x 0 names)) in
    let right = side_text (map (spelling naming) (members_from y 0 names)) in
    subst Bytes (sym (sides_text naming names s x y))
    (bytes_both (left ++ sign_text s) right
    (bytes_both left (sign_text s) (side_bytes f naming _ (printed_names f naming names x are))
    (elim s as (λ s. Bytes (sign_text s)) [ sign.Functional ↦ refl | _ ↦ refl ]))
    (side_bytes f naming _ (printed_names f naming names y are)))

dependency_bytes : (f : Format) (naming : Naming) (names : List (List ℕ)) (d : Dependency) → AreReadBack f naming names
    → Bytes (dependency_text (map (spelling naming) names) d)
dependency_bytes f naming names (fd x y) are = stated_bytes f naming names sign.Functional x y are
dependency_bytes f naming names (mvd x y) are = stated_bytes f naming names sign.Multivalued x y are

pub each_dependency : (f : Format) (naming : Naming) (names : List (List ℕ)) (deps : List Dependency) → AreReadBack f naming names
    → EachBytes (map (dependency_text (map (spelling naming) names)) deps)
each_dependency f naming names [] are = tt
each_dependency f naming names (d ∷ deps) are = (dependency_bytes f naming names d are, each_dependency f naming names deps are)

-- what ends the line of each dependency
pub record AreEnds (deps : List Dependency) (tails : List (List ℕ)) : Type 0 where
  pub one_each : length tails ≡ length deps
  pub each : All EndsLine tails

-- the lines of dependencies with what ends them
abbrev pub ended_lines : List (List ℕ) → List Dependency → List (List ℕ) → List (List ℕ)
ended_lines printed [] tails = []
ended_lines printed (d ∷ ds) [] = []
ended_lines printed (d ∷ ds) (tail ∷ tails) = (dependency_text printed d ++ tail) ∷ ended_lines printed ds tails

more_ends : (d : Dependency) (deps : List Dependency) (tail : List ℕ) (tails : List (List ℕ))
    → AreEnds (d ∷ deps) (tail ∷ tails) → AreEnds deps tails
more_ends d deps tail tails ends = record { one_each = omega (arith, ends.one_each); each = All-tail EndsLine tail tails ends.each }

pub each_ended : (f : Format) (naming : Naming) (names : List (List ℕ)) (deps : List Dependency) (tails : List (List ℕ))
    → AreReadBack f naming names → AreEnds deps tails → EachBytes (ended_lines (map (spelling naming) names) deps tails)
each_ended f naming names [] tails are ends = tt
each_ended f naming names (d ∷ deps) [] are ends = tt
each_ended f naming names (d ∷ deps) (tail ∷ tails) are ends = (
  bytes_both (dependency_text (map (spelling naming) names) d) tail (dependency_bytes f naming names d are)
      (All-head EndsLine tail tails ends.each).bytes,
  each_ended f naming names deps tails are (more_ends d deps tail tails ends),
)

-- nothing ends the lines of dependencies that are printed alone
abbrev pub no_ends : List Dependency → List (List ℕ)
no_ends deps = map (λ (d : Dependency). []) deps

pub AreEnds-none : (deps : List Dependency) → AreEnds deps (no_ends deps)
AreEnds-none deps = record { one_each = length-map deps (λ (d : Dependency). []); each = each deps }
  where
    each : (ds : List Dependency) → All EndsLine (no_ends ds)
    each [] = All-nil EndsLine
    each (d ∷ ds) = All-cons EndsLine [] (no_ends ds) nothing_ends (each ds)

pub ended_lines-none : (printed : List (List ℕ)) (deps : List Dependency)
    → ended_lines printed deps (no_ends deps) ≡ map (dependency_text printed) deps
ended_lines-none printed [] = refl
ended_lines-none printed (d ∷ deps) = λ i. append-nil (dependency_text printed d) i ∷ ended_lines-none printed deps i

-- the numbers of lines from one on
abbrev pub line_numbers : ℕ → List Dependency → List ℕ
line_numbers n [] = []
line_numbers n (d ∷ ds) = n ∷ line_numbers (n + 1) ds

abbrev pub with_dependencies : Declarations → List Dependency → List ℕ → Declarations
with_dependencies d deps lines = record d { deps = d.deps ++ deps; lines = d.lines ++ lines }

-- the lines of dependencies, and the empty line after the last line feed
pub dependencies_mean : (f : Format) (number : ℕ) (d : Declarations) (deps : List Dependency) (tails : List (List ℕ))
    → AreReadBack f (naming_in f) d.names → All (IsWithin (below (length d.names))) deps
    → length d.deps + length deps ≤ MOST_DEPENDENCY_LINES → AreEnds deps tails
    → MeansLines f number d (ended_lines (map (spelling (naming_in f)) d.names) deps tails ++ [] ∷ [])
    (with_dependencies d deps (line_numbers number deps))
dependencies_mean f number d [] tails are within room ends = (
  d,
  inl (inl (record { tokens = blank_line f [] (nothing_left (mode.plain (naming_in f)) 1); same = refl })),
  λ i. record d { deps = append-nil d.deps i; lines = append-nil d.lines i },
)
dependencies_mean f number d (dep ∷ deps) [] are within room ends = absurd (omega (arith, ends.one_each))
dependencies_mean f number d (dep ∷ deps) (tail ∷ tails) are within room ends =
    let printed = map (spelling (naming_in f)) d.names in
    let line = ended_line f d.names dep tail are
    (All-head (IsWithin (below (length d.names))) dep deps within) (All-head EndsLine tail tails ends.each) in
    let size : length (d.deps ++ dep ∷ []) ≡ length d.deps + 1 = length-append d.deps (dep ∷ []) in
    let more = dependencies_mean f (number + 1) (add_dependency d dep number) deps tails are
    (All-tail (IsWithin (below (length d.names))) dep deps within) (omega arith) (more_ends dep deps tail tails ends) in
    let of : Declarations → Type 0 = λ w. MeansLines f (number + 1) (add_dependency d dep number) (ended_lines printed deps tails ++ [] ∷ []) w in
    let same : with_dependencies (add_dependency d dep number) deps (line_numbers (number + 1) deps) ≡ with_dependencies d (dep ∷ deps) (number ∷ line_numbers (number + 1) deps) =
    (λ i. record d { deps = append_assoc d.deps (dep ∷ []) deps i; lines = append_assoc d.lines (number ∷ []) (line_numbers (number + 1) deps) i }) in (
      add_dependency d dep number,
      inr (inr (record { head = line.head; others = line.others; dep = dep; tokens = line.tokens; stating = line.stating; dependency = line.dependency; room = omega arith; adds = refl })),
      subst of same more,
    )
