-- A printed plan means its schemes.
use Rattle.std.proofs.Common.{◌≡◌, ◌≤◌, ◌+◌, ℕ, true, false, Option, None, List, [], ◌∷◌, ◌++◌, map, length, refl, sym, ap, subst, ◌∙◌, ⊎_elim, inl, inr}
use Rattle.std.specs.Prelude.{All, codes}
use Rattle.std.proofs.lemmas.List.Elements.{All-head, All-tail}
use Rattle.attr_sets.specs.Attributes.{Attributes, below, IsSubset, IsEmpty}
use Rattle.schema_model.specs.declared.naming.Naming.{Naming}
use Rattle.dep_model.specs.Plans.{IsPlan}
use Rattle.lexer.specs.Modes as mode
use Rattle.lexer.specs.declared.token.TokenKind.TheVariants as token
use Rattle.lexer.specs.Lines.{line_texts, without_mark}
use Rattle.lexer.specs.Tokens.{Mark, Lexed, lex}
use Rattle.lexer.specs.declared.mode.Mode.{Mode}
use Rattle.schema_grammar.specs.Meanings.{HasTokens}
use Rattle.schema_grammar.specs.declared.format.Format.TheVariants as format
use Rattle.schema_grammar.specs.Meanings.{IsSide, IsNamedSide, IsAttribute}
use Rattle.schema_grammar.specs.Printed.{AreReadBack}
use Rattle.schema_printer.specs.Printing.{words_text, members_from}
use Rattle.schema_printer.specs.Spelling.{spelling}
use Rattle.schema_grammar.specs.Words.{is_word_token}
use Rattle.schema_grammar.proofs.PrintedTexts.{Bytes, bytes_both, EachBytes, lines_cut}
use Rattle.schema_grammar.proofs.SpelledSides.{kind_is_word, printed_side, printed_names}
use Rattle.schema_grammar.proofs.SpelledWords.{kind_of, name_mark, name_marks, side_marks, members_spelled, named_line, names_bytes, nothing_left}
use Rattle.plans.specs.declared.bounds.TheConstants.{MOST_SCHEMES}
use Rattle.plan_printer.specs.NamedPlans.{NamedSchemes, PlannedTable, unnamed}
use Rattle.plan_grammar.specs.LineTokens.{is_keyword, is_table, lex_line, line_mode, mode_by_head}
use Rattle.plan_grammar.specs.Meanings.{MeansTable, MeansTableLines, MeansPlan}
use Rattle.plan_printer.specs.Printing.{scheme_text, plan_text}

-- the words of a set with attributes are a side for it
side_named : (naming : Naming) (names words : List (List ℕ)) (x : Attributes) → (IsEmpty x → ⊥)
    → IsSide format.Plain names (side_marks naming 8 words) x
    → IsNamedSide format.Plain names (name_marks naming 7 words) x
side_named naming names [] x not_empty side =
    ⊎_elim
    (λ empty. absurd (not_empty (λ k. ap (λ (y : Attributes). y k) empty.nothing)))
    (λ named. absurd (no_word (All-head (IsAttribute format.Plain names) (record { kind = token.Empty; column = 8; length = 2; word = 40 ∷ 41 ∷ [] }) [] named.each)))
    side
  where
    no_word : IsAttribute format.Plain names (record { kind = token.Empty; column = 8; length = 2; word = 40 ∷ 41 ∷ [] }) → ⊥
    no_word is = let wrong : false ≡ true = is.word in cc
side_named naming names (word ∷ words) x not_empty side =
    ⊎_elim
    (λ empty. absurd (no_empty empty.mark empty.alone empty.is_empty))
    (λ named. named)
    side
  where
    no_empty : (mark : Mark) → side_marks naming 8 (word ∷ words) ≡ mark ∷ [] → mark.kind ≡ token.Empty → ⊥
    no_empty mark same is =
        let heads : name_mark naming 8 word ≡ mark = cc in
        let kinds : kind_of naming word ≡ token.Empty = ap (λ (m : Mark). m.kind) heads ∙ is in
        let wrong : true ≡ false = sym (kind_is_word naming word) ∙ ap is_word_token kinds in cc

-- a line that does not name its table, or has no tokens, has the tokens that it has by its names alone
plain_line : (naming : Naming) (line : List ℕ) (ms : List Mark) → HasTokens (lex (mode.plain naming) line) ms
    → mode_by_head naming ms ≡ mode.plain naming → HasTokens (lex_line naming line) ms
unfolding line_mode
plain_line naming line ms tokens by =
    ap (λ (taken : Mode). lex taken line) (ap (λ (l : Lexed). mode_by_head naming l.marks) tokens ∙ by) ∙ tokens

-- a table without a name
abbrev without_name : Attributes → PlannedTable
without_name x = record { name = None; scheme = x }

scheme_means : (naming : Naming) (names : List (List ℕ)) (earlier : List (Option (List ℕ))) (x : Attributes) → AreReadBack format.Plain naming names
    → IsSubset x (below (length names)) → (IsEmpty x → ⊥)
    → MeansTable naming names earlier (scheme_text (map (spelling naming) names) x) (without_name x)
unfolding is_keyword
scheme_means naming names earlier x are within not_empty =
    let words = members_from x 0 names in
    let head : Mark = record { kind = token.Identifier; column = 1; length = length (codes "scheme"); word = codes "scheme" } in
    let side = side_named naming names words x not_empty (printed_side format.Plain naming names x 8 are within) in
    record {
      marks = head ∷ name_marks naming 7 words;
      tokens = plain_line naming (scheme_text (map (spelling naming) names) x) (head ∷ name_marks naming 7 words)
          (ap (λ (printed : List (List ℕ)). lex (mode.plain naming) (codes "scheme" ++ words_text printed))
          (members_spelled naming x 0 names)
          ∙ named_line format.Plain naming (mode.plain naming) (codes "scheme") words refl refl
          (printed_names format.Plain naming names x are)) refl;
      is_line = record {
        words = name_marks naming 7 words;
        opens = inl (record { head = head; whole = refl; scheme = refl; unnamed = refl });
        not_empty = side.not_empty;
        each = side.each;
        members = side.members;
      };
    }

lines_mean : (naming : Naming) (names : List (List ℕ)) (earlier : List (Option (List ℕ))) (schemes : List Attributes) → AreReadBack format.Plain naming names
    → All (λ x. IsSubset x (below (length names))) schemes → All (λ x. IsEmpty x → ⊥) schemes
    → MeansTableLines naming names earlier (map (scheme_text (map (spelling naming) names)) schemes ++ [] ∷ []) (unnamed schemes)
lines_mean naming names earlier [] are within not_empty =
    inl (plain_line naming [] [] (nothing_left (mode.plain naming) 1) refl, refl)
lines_mean naming names earlier (x ∷ schemes) are within not_empty =
    inr (
      without_name x,
      unnamed schemes,
      scheme_means naming names earlier x are (All-head (λ (y : Attributes). IsSubset y (below (length names))) x schemes within) (All-head (λ (y : Attributes). IsEmpty y → ⊥) x schemes not_empty),
      lines_mean naming names (earlier ++ None ∷ []) schemes are (All-tail (λ (y : Attributes). IsSubset y (below (length names))) x schemes within) (All-tail (λ (y : Attributes). IsEmpty y → ⊥) x schemes not_empty),
      refl,
    )

scheme_bytes : (naming : Naming) (names : List (List ℕ)) (x : Attributes) → AreReadBack format.Plain naming names
    → Bytes (scheme_text (map (spelling naming) names) x)
scheme_bytes naming names x are =
    rw (members_spelled naming x 0 names)
    (bytes_both (codes "scheme") (words_text (map (spelling naming) (members_from x 0 names))) refl
    (names_bytes format.Plain naming (members_from x 0 names) (printed_names format.Plain naming names x are)))

each_bytes : (naming : Naming) (names : List (List ℕ)) (schemes : List Attributes) → AreReadBack format.Plain naming names
    → EachBytes (map (scheme_text (map (spelling naming) names)) schemes)
each_bytes naming names [] are = tt
each_bytes naming names (x ∷ schemes) are = (scheme_bytes naming names x are, each_bytes naming names schemes are)

no_mark : (names : List (List ℕ)) (schemes : List Attributes) → without_mark (plan_text names schemes) ≡ plan_text names schemes
no_mark names [] = refl
no_mark names (x ∷ schemes) = refl

pub printed_plan_means : (naming : Naming) (names : List (List ℕ)) (schemes : List Attributes)
    → AreReadBack format.Plain naming names → IsPlan (length names) schemes → length schemes ≤ MOST_SCHEMES
    → MeansPlan naming names (plan_text (map (spelling naming) names) schemes) (unnamed schemes)
printed_plan_means naming names schemes are plan within_limit = record {
  lines = subst (λ (lines : List (List ℕ)). MeansTableLines naming names [] lines (unnamed schemes))
      (sym (ap (λ (text : List ℕ). line_texts text) (no_mark (map (spelling naming) names) schemes)
      ∙ lines_cut (map (scheme_text (map (spelling naming) names)) schemes) (each_bytes naming names schemes are)))
      (lines_mean naming names [] schemes are plan.within plan.not_empty);
  schemes_fit = within_limit;
  covers = plan.covers;
}
