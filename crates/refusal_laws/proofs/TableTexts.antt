-- The names of tables have no line feed: a plan gives words alone, and others are the names of numbers.
use Rattle.std.proofs.Common.{◌≡◌, ◌<◌, ◌+◌, ◌-◌, ◌==◌, ℕ, zero, suc, Bool, List, [], ◌∷◌, ◌++◌, length, take, Option, Some, None, refl, sym, subst, inl, inr, arith}
use Rattle.std.specs.Prelude.{All, IfSome, codes, find, option_map, slice_get, slice_index_or, unwrap_or}
use Rattle.std.specs.Fmt.{decimal}
use Rattle.std.proofs.lemmas.Bool.{cond_both}
use Rattle.std.proofs.lemmas.List.Elements.{All-append, All-cons, All-head, All-nil, All-tail}
use Rattle.std.proofs.lemmas.Option.{get_or_from_slice_get, slice_get_within}
use Rattle.attr_sets.specs.Attributes.{Attributes}
use Rattle.schema_model.specs.Schemas.{Schema, names_of, naming_of, width_of}
use Rattle.schema_model.specs.declared.naming.Naming.{Naming}
use Rattle.schema_model.proofs.NameLemmas.{bare_name_is_name}
use Rattle.schema_model.proofs.PlainLemmas.{IsPlain, name_plain, plain_both}
use Rattle.lexer.specs.Lines.{line_texts, without_mark}
use Rattle.lexer.specs.Pieces.{front_piece}
use Rattle.lexer.specs.Tokens.{Lexed, Mark, led_by, tokens_after, word_of}
use Rattle.lexer.specs.declared.mode.Mode.{Mode}
use Rattle.lexer.specs.declared.piece.Piece.{Piece}
use Rattle.lexer.specs.declared.piece.Piece.TheVariants as piece
use Rattle.lexer.specs.declared.token.TokenKind.{TokenKind}
use Rattle.lexer.specs.declared.token.TokenKind.TheVariants as token
use Rattle.lexer.proofs.Steps.{is_a_word}
use Rattle.schema_grammar.specs.Meanings.{HasTokens}
use Rattle.plan_grammar.specs.LineTokens.{lex_line, line_mode}
use Rattle.plan_grammar.specs.Meanings.{MeansTable, MeansTableLines, OpensScheme, OpensTable}
use Rattle.plan_printer.specs.NamedPlans.{NamedSchemes, PlannedTable}
use Rattle.design_order.specs.Order.{grouped_below, with_number}
use Rattle.table_names.specs.TableNames.{GivenNames, name_of_table, table_name}
use Rattle.ddl_text.specs.declared.table.TableDesign.{TableDesign}
use Rattle.missing_values.specs.Refusals.{name_at}
use Rattle.desk_designs.specs.Designs.{IsDesignOf}
use Rattle.desk_inputs.specs.Plans.{MeansTables}
use Rattle.reason_laws.proofs.NumberTexts.{decimal_plain}
use Rattle.refusal_laws.proofs.PlainTexts.{at_position}

-- ---- words
-- a token that is a word stands for bytes without a line feed
abbrev IsPlainWord : Mark → Type 0
IsPlainWord m = m.kind ≡ token.Identifier → IsPlain m.word

word_kept : (k : TokenKind) (own : List ℕ) → k ≡ token.Identifier → IsPlain own → IsPlain (word_of k own)
word_kept token.Quoted own is plain = cc
word_kept k own is plain = plain

piece_plain : (m : Mode) (column : ℕ) (text : List ℕ) (later : ℕ → Lexed) (p : Piece) → 0 < length text → p ≡ front_piece m text
    → ((n : ℕ) → All IsPlainWord (later n).marks) → All IsPlainWord (led_by p column text later).marks
piece_plain m column text later piece.Gap some is each = each 0
piece_plain m column text later (piece.Token k n) some is each =
    All-cons IsPlainWord (record { kind = k; column = column; length = n; word = word_of k (take n text) }) (later (n - 1)).marks
    (λ identifier. word_kept k (take n text) identifier
    (name_plain (take n text) (bare_name_is_name (take n text) (is_a_word m text k n some is identifier))))
    (each (n - 1))
piece_plain m column text later p some is each = All-nil IsPlainWord

tokens_plain : (m : Mode) (skip column : ℕ) (text : List ℕ) → All IsPlainWord (tokens_after m skip column text).marks
unfolding tokens_after
tokens_plain m skip column [] = All-nil IsPlainWord
tokens_plain m zero column (b ∷ bs) =
    piece_plain m column (b ∷ bs) (λ skip. tokens_after m skip (column + 1) bs) (front_piece m (b ∷ bs)) (omega arith) refl
    (λ skip. tokens_plain m skip (column + 1) bs)
tokens_plain m (suc skip) column (b ∷ bs) = tokens_plain m skip (column + 1) bs

line_plain : (naming : Naming) (line : List ℕ) (ms : List Mark) → HasTokens (lex_line naming line) ms → All IsPlainWord ms
line_plain naming line ms tokens =
    subst (λ (l : Lexed). All IsPlainWord l.marks) tokens (tokens_plain (line_mode naming line) 0 1 line)

-- ---- names that are given
abbrev pub IsPlainIfGiven : Option (List ℕ) → Type 0
IsPlainIfGiven given = IfSome given IsPlain

label_plain : (naming : Naming) (names : List (List ℕ)) (earlier : List (Option (List ℕ))) (line : List ℕ) (table : PlannedTable)
    → MeansTable naming names earlier line table → IsPlainIfGiven table.name
label_plain naming names earlier line table means = elim means.is_line.opens as (λ opens. IsPlainIfGiven table.name) [
  | inl opens ↦ subst IsPlainIfGiven (sym opens.unnamed) tt
  | inr opens ↦
      let words = opens.label ∷ opens.colon ∷ means.is_line.words in
      let all = subst (λ (ms : List Mark). All IsPlainWord ms) opens.whole (line_plain naming line means.marks means.tokens) in
      subst IsPlainIfGiven (sym opens.named)
      (All-head IsPlainWord opens.label (opens.colon ∷ means.is_line.words) (All-tail IsPlainWord opens.head words all) opens.is_word)
]

lines_plain : (naming : Naming) (names : List (List ℕ)) (earlier : List (Option (List ℕ))) (lines : List (List ℕ)) (plan : NamedSchemes)
    → MeansTableLines naming names earlier lines plan → All IsPlainIfGiven plan.names
lines_plain naming names earlier [] plan means =
    subst (λ (p : NamedSchemes). All IsPlainIfGiven p.names) (sym means) (All-nil IsPlainIfGiven)
lines_plain naming names earlier (line ∷ lines) plan (inl (blank, later)) = lines_plain naming names earlier lines plan later
lines_plain naming names earlier (line ∷ lines) plan (inr (table, others, means, later, same)) =
    subst (λ (p : NamedSchemes). All IsPlainIfGiven p.names) (sym same)
    (All-cons IsPlainIfGiven table.name others.names (label_plain naming names earlier line table means)
    (lines_plain naming names (earlier ++ table.name ∷ []) lines others later))

-- what holds of each element holds of those of a group
module _ {X : Type 0} (P : X → Type 0) where
  with_number_all : (number : ℕ) (xs : List X) (numbers : List ℕ) → All P xs → All P (with_number number xs numbers)
  with_number_all number [] numbers all = All-nil P
  with_number_all number (x ∷ xs) [] all = All-nil P
  with_number_all number (x ∷ xs) (m ∷ numbers) all =
      let rest = with_number_all number xs numbers (All-tail P x xs all) in
      cond_both (m == number) (x ∷ with_number number xs numbers) (with_number number xs numbers) (λ (l : List X). All P l)
      (λ is. All-cons P x (with_number number xs numbers) (All-head P x xs all) rest) (λ other. rest)

  grouped_all : (number : ℕ) (xs : List X) (numbers : List ℕ) → All P xs → All P (grouped_below number xs numbers)
  grouped_all zero xs numbers all = All-nil P
  grouped_all (suc number) xs numbers all =
      All-append P (grouped_below number xs numbers) (with_number number xs numbers) (grouped_all number xs numbers all)
      (with_number_all number xs numbers all)

-- the names that a plan text gives
pub planned_plain : (s : Schema) (text : List ℕ) (plan : NamedSchemes) → MeansTables s text plan → All IsPlainIfGiven plan.names
planned_plain s text plan means =
    let read = lines_plain (naming_of s) (names_of s) [] (line_texts (without_mark text)) means.read means.means.lines in
    subst (λ (names : GivenNames). All IsPlainIfGiven names) (sym means.order.grouped)
    (grouped_all IsPlainIfGiven (width_of s + 1) means.read.names means.order.counts read)

pub found_plain : (is : Option (List ℕ) → Bool) (names : GivenNames) → All IsPlainIfGiven names
    → IsPlainIfGiven (unwrap_or (find is names) None)
found_plain is [] all = tt
found_plain is (given ∷ names) all =
    cond_both (is given) (Some given) (find is names)
    (λ (found : Option (Option (List ℕ))). IsPlainIfGiven (unwrap_or found None))
    (λ here. All-head IsPlainIfGiven given names all)
    (λ later. found_plain is names (All-tail IsPlainIfGiven given names all))

-- ---- names of tables
given_or : (given : Option (List ℕ)) (number : ℕ) → IsPlainIfGiven given → IsPlain (unwrap_or given (table_name number))
given_or None number plain = plain_both (codes "t") (decimal number) refl (decimal_plain number)
given_or (Some name) number plain = plain

table_plain : (names : GivenNames) → All IsPlainIfGiven names → (k : ℕ) → IsPlain (name_of_table names k)
table_plain names all k = given_or (slice_index_or names k None) (k + 1) (at_position IsPlainIfGiven names None tt all k)

-- the tables of a design
module _ (s : Schema) (names : GivenNames) (all : All IsPlainIfGiven names) (schemes : List Attributes) (tables : List TableDesign)
    (design : IsDesignOf s names schemes tables) where
  pub design_plain : (k : ℕ) → IsPlain (name_at tables k)
  design_plain k = of (slice_get tables k) refl
    where
      of : (found : Option TableDesign) → slice_get tables k ≡ found
          → IsPlain (unwrap_or (option_map (λ (table : TableDesign). table.name) found) [])
      of None is = refl
      of (Some table) is =
          let designed = design.sound.design in
          let low : k < length tables = slice_get_within tables k table is in
          let here = designed.each k (omega (arith, low, designed.one_each)) table.scheme table in
          subst (λ (t : TableDesign). IsPlain t.name) (get_or_from_slice_get tables k table table is)
          (subst IsPlain (sym here.name) (table_plain names all (length (take k tables))))
