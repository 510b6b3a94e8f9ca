-- The remarks before a statement are passed over.
use Rattle.std.proofs.Common.{◌≡◌, ◌+◌, ℕ, Bool, true, false, not, All, List, [], ◌∷◌, ◌++◌, length, get_or, map, refl, sym, ap, subst, ◌∙◌, arith, append_assoc, length-append}
use Rattle.std.specs.Prelude.{codes, if◌then◌else◌, is_some}
use Rattle.std.specs.List.{flat_map, list_all, list_any}
use Rattle.std.proofs.lemmas.Bool.{and_from, not_from_false, or_parts}
use Rattle.std.proofs.lemmas.List.Elements.{All-cons, All-head, All-map, All-nil, All-tail}
use Rattle.attr_sets.specs.Attributes.{Attributes}
use Rattle.attr_sets.specs.Sets.{attributes}
use Rattle.schema_model.specs.Names.{IsName}
use Rattle.schema_model.proofs.PlainLemmas.{IsPlain, name_plain, plain_both, quoted_plain}
use Rattle.schema_model.specs.Schemas.{names_of}
use Rattle.schema_model.specs.Schemas.{Schema}
use Rattle.schema_printer.specs.Printing.{members_from}
use Rattle.schema_printer.proofs.MemberLemmas.{members_each}
use Rattle.sql_syntax.specs.Names.{attribute_names, comma_list, quoted_name, separator}
use Rattle.sql_syntax.specs.Printing.{names_text}
use Rattle.sql_syntax.specs.Statements.{remark, script_text, statement_text}
use Rattle.sql_syntax.proofs.NameLemmas.{names_listed}
use Rattle.sql_lexemes.specs.Bytes.{is_line_feed}
use Rattle.sql_lexemes.specs.Pieces.{front_piece}
use Rattle.sql_lexemes.specs.Statements.{Scan, after_gap, led_by, statements_after}
use Rattle.sql_lexemes.specs.declared.dialect.Dialect.{Dialect}
use Rattle.sql_lexemes.specs.declared.piece.Before.{Before}
use Rattle.sql_lexemes.specs.declared.piece.Piece.TheVariants as piece
use Rattle.ddl_text.specs.Ddl.{is_empty, left_out_keys, left_out_words, remarks_made, said_of}
use Rattle.ddl_text.specs.Designs.{known_keys}
use Rattle.ddl_text.specs.declared.table.TableDesign.{TableDesign}
use Rattle.ddl_pieces.proofs.Cutting.{IsPassed, blanks_passed, skipped}
use Rattle.ddl_pieces.proofs.Fronts.{prefix_past}

-- ---- lines
-- a byte that ends no line
abbrev is_plain : ℕ → Bool
is_plain b = not (is_line_feed b)

abbrev comment_line : List ℕ → List ℕ
comment_line line = 45 ∷ 45 ∷ (line ++ 10 ∷ [])

all_plain : (bytes : List ℕ) → IsPlain bytes → list_all is_plain bytes ≡ true
all_plain [] none = refl
all_plain (b ∷ bytes) none =
    let parts = or_parts (is_line_feed b) (list_any is_line_feed bytes) none in
    and_from (is_plain b) (list_all is_plain bytes) (not_from_false (is_line_feed b) parts.0) (all_plain bytes parts.1)

comment_front : (d : Dialect) (before : Before) (line rest : List ℕ) → IsPlain line
    → front_piece d before (45 ∷ 45 ∷ (line ++ 10 ∷ rest)) ≡ piece.Gap (length line + 1)
unfolding front_piece
comment_front d before line rest plain =
    ap (λ (n : ℕ). piece.Gap n)
    (prefix_past is_plain (45 ∷ line) (10 ∷ rest) (all_plain line plain) refl ∙ omega arith)

to_line_end : (d : Dialect) (s : Scan) (line rest : List ℕ) → IsPlain line
    → statements_after d 0 s (45 ∷ 45 ∷ (line ++ 10 ∷ rest))
    ≡ statements_after d 0 (after_gap s 45 (length line + 1)) (10 ∷ rest)
unfolding statements_after
to_line_end d s line rest plain =
    let text = 45 ∷ (line ++ 10 ∷ rest) in
    ap (λ front. led_by d s 45 text front (λ skip next. statements_after d skip next text))
    (comment_front d s.before line rest plain)
    ∙ skipped d (after_gap s 45 (length line + 1)) (45 ∷ line) (10 ∷ rest) (length line + 1) (omega arith)

line_passed : (d : Dialect) (s : Scan) (line rest : List ℕ) → IsPlain line
    → IsPassed d s (comment_line line) rest
line_passed d s line rest plain =
    let end = blanks_passed d (after_gap s 45 (length line + 1)) (10 ∷ []) rest refl in
    let place = end.place in
    let long = length-append line (10 ∷ []) in
    record {
      after = end.after;
      same = ap (λ (t : List ℕ). statements_after d 0 s (45 ∷ 45 ∷ t)) (append_assoc line (10 ∷ []) rest)
          ∙ (to_line_end d s line rest plain ∙ end.same);
      place = omega (arith, place, long);
      depth = end.depth;
      lexemes = end.lexemes;
    }

none_passed : (d : Dialect) (s : Scan) (rest : List ℕ) → IsPassed d s [] rest
none_passed d s rest =
    record { after = s; same = refl; place = omega arith; depth = refl; lexemes = refl }

both_passed : (d : Dialect) (s : Scan) (a b rest : List ℕ) → IsPassed d s a (b ++ rest)
    → ((next : Scan) → IsPassed d next b rest) → IsPassed d s (a ++ b) rest
both_passed d s a b rest first later =
    let second = later first.after in
    let place = first.place in
    let end = second.place in
    let long = length-append a b in
    record {
      after = second.after;
      same = ap (statements_after d 0 s) (append_assoc a b rest) ∙ first.same ∙ second.same;
      place = omega (arith, place, end, long);
      depth = second.depth ∙ first.depth;
      lexemes = second.lexemes ∙ first.lexemes;
    }

-- ---- names
further_plain : (names : List (List ℕ)) → All IsName names
    → IsPlain (flat_map (λ name. separator ++ quoted_name name) names)
further_plain [] all = refl
further_plain (name ∷ names) all =
    plain_both (separator ++ quoted_name name) (flat_map (λ name. separator ++ quoted_name name) names)
    (quoted_plain name (name_plain name (All-head IsName name names all)))
    (further_plain names (All-tail IsName name names all))

listed_plain : (names : List (List ℕ)) → All IsName names → IsPlain (comma_list quoted_name names)
listed_plain [] all = refl
listed_plain (name ∷ names) all =
    plain_both (quoted_name name) (flat_map (λ name. separator ++ quoted_name name) names)
    (quoted_plain name (name_plain name (All-head IsName name names all)))
    (further_plain names (All-tail IsName name names all))

-- ---- remarks
words_plain : (s : Schema) → All IsName (names_of s) → (key : Attributes) → IsPlain (left_out_words s key)
words_plain s names key =
    plain_both (names_text (attribute_names s key)) (codes ") is left out: missing values are not compared")
    (subst IsPlain (sym (names_listed s key))
    (listed_plain (members_from key 0 (names_of s)) (members_each IsName key 0 (names_of s) names))) refl

said_plain : (s : Schema) (table : TableDesign) → All IsName (names_of s) → All IsPlain (said_of s table)
said_plain s table names = by_key (is_empty (attributes table.key))
  where
    by_known : (known : Bool)
        → All IsPlain (if known then map (left_out_words s) (left_out_keys s (known_keys table.other_keys)) else codes "further keys are not looked for" ∷ [])
    by_known true =
        All-map IsPlain (left_out_words s) (left_out_keys s (known_keys table.other_keys))
        (λ k default within. words_plain s names (get_or (left_out_keys s (known_keys table.other_keys)) k default))
    by_known false = All-cons IsPlain (codes "further keys are not looked for") [] refl (All-nil IsPlain)

    by_key : (empty : Bool)
        → All IsPlain (if empty then codes "at most one row" ∷ [] else if is_some table.other_keys then map (left_out_words s) (left_out_keys s (known_keys table.other_keys)) else codes "further keys are not looked for" ∷ [])
    by_key true = All-cons IsPlain (codes "at most one row") [] refl (All-nil IsPlain)
    by_key false = by_known (is_some table.other_keys)

words_passed : (d : Dialect) (scan : Scan) (words : List (List ℕ)) (rest : List ℕ) → All IsPlain words
    → IsPassed d scan (script_text (map remark words)) rest
unfolding statement_text
words_passed d scan [] rest plain = none_passed d scan rest
words_passed d scan (first ∷ words) rest plain =
    both_passed d scan (comment_line (32 ∷ first)) (script_text (map remark words)) rest
    (line_passed d scan (32 ∷ first) (script_text (map remark words) ++ rest) (All-head IsPlain first words plain))
    (λ next. words_passed d next words rest (All-tail IsPlain first words plain))

pub remarks_passed : (d : Dialect) (scan : Scan) (s : Schema) (table : TableDesign) (rest : List ℕ)
    → All IsName (names_of s) → IsPassed d scan (script_text (remarks_made s table)) rest
remarks_passed d scan s table rest names = words_passed d scan (said_of s table) rest (said_plain s table names)
