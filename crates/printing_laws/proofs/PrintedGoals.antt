-- What is printed of a dependency is a goal that means it, and what is printed of a set means the set.
use Rattle.std.proofs.Common.{◌≡◌, ◌+◌, ℕ, List, [], ◌∷◌, ◌++◌, length, None, refl, sym, ◌∙◌, ap, subst, append_assoc}
use Rattle.std.specs.Prelude.{codes, map}
use Rattle.std.specs.List.{All}
use Rattle.attr_sets.specs.Attributes.{Attributes, IsSubset, below}
use Rattle.schema_model.specs.declared.naming.Naming.{Naming}
use Rattle.schema_model.specs.Schemas.{Schema, names_of, naming_of, universe_of}
use Rattle.dep_model.specs.Dependencies.{Dependency, fd, mvd, IsWithin}
use Rattle.lexer.specs.Modes as mode
use Rattle.lexer.specs.declared.token.TokenKind.TheVariants as token
use Rattle.lexer.specs.Tokens.{Mark, tokens_after, lex, led_by_mark}
use Rattle.schema_grammar.specs.declared.symbol.Sign.{Sign}
use Rattle.schema_grammar.specs.declared.symbol.Sign.TheVariants as sign
use Rattle.schema_grammar.specs.declared.format.Format.TheVariants as format
use Rattle.schema_grammar.specs.Grammar.{dependency_of_sign}
use Rattle.schema_grammar.specs.Meanings.{HasTokens, IsArrow, MeansGoal}
use Rattle.schema_grammar.specs.Printed.{AreReadBack}
use Rattle.schema_grammar.specs.Schemas.{MeansSchema}
use Rattle.schema_grammar.specs.Sets.{MeansSet}
use Rattle.schema_grammar.specs.Texts.{declarations_of}
use Rattle.schema_printer.specs.Printing.{side_text, members_from, set_text, dependency_text}
use Rattle.schema_printer.specs.Spelling.{printed_names_of, spelling}
use Rattle.schema_grammar.proofs.DeclaredNames.{declared_read_back}
use Rattle.schema_grammar.proofs.PrintedLexing.{arrow_lexed, double_arrow_lexed}
use Rattle.schema_grammar.proofs.SpelledSides.{printed_side, printed_names}
use Rattle.schema_grammar.proofs.SpelledWords.{Parted, led_by_all, side_marks, side_end, side_lexed, last_side, members_spelled}

-- the names of a schema that some text means are read again
read_again : (file : List ℕ) (s : Schema) → MeansSchema file (declarations_of s) → AreReadBack format.Plain (naming_of s) (names_of s)
read_again file s means = record { each = declared_read_back file (declarations_of s) means; differ = s.valid.names_differ }

-- ---- sets
pub set_means : (file : List ℕ) (s : Schema) (x : Attributes) → MeansSchema file (declarations_of s) → IsSubset x (universe_of s)
    → MeansSet (naming_of s) (names_of s) (set_text (printed_names_of s) x) x
unfolding set_text printed_names_of
set_means file s x means within =
    let naming = naming_of s in
    let names = names_of s in
    let are = read_again file s means in
    let members = members_from x 0 names in
    record {
      marks = side_marks naming 1 members;
      tokens = ap (λ (ws : List (List ℕ)). lex (mode.goal naming) (side_text ws)) (members_spelled naming x 0 names)
          ∙ last_side format.Plain naming (mode.goal naming) 1 members refl (printed_names format.Plain naming names x are);
      side = printed_side format.Plain naming names x 1 are within;
    }

-- ---- goals
-- the arrow of a dependency, as it is printed, and as a token
abbrev sign_text : Sign → List ℕ
sign_text sign.Functional = codes " -> "
sign_text sign.Multivalued = codes " ->> "

abbrev sign_mark : Sign → ℕ → Mark
sign_mark sign.Functional column = record { kind = token.Arrow; column = column; length = 2; word = 45 ∷ 62 ∷ [] }
sign_mark sign.Multivalued column =
    record { kind = token.DoubleArrow; column = column; length = 3; word = 45 ∷ 62 ∷ 62 ∷ [] }

abbrev right_column : Sign → ℕ → ℕ
right_column sign.Functional column = column + 1 + 2 + 1
right_column sign.Multivalued column = column + 1 + 3 + 1

sign_lexed : (s : Sign) (naming : Naming) (column : ℕ) (rest : List ℕ)
    → tokens_after (mode.goal naming) 0 column (sign_text s ++ rest)
    ≡ led_by_mark (sign_mark s (column + 1)) (tokens_after (mode.goal naming) 0 (right_column s column) rest)
sign_lexed sign.Functional naming column rest = arrow_lexed (mode.goal naming) column rest
sign_lexed sign.Multivalued naming column rest = double_arrow_lexed (mode.goal naming) column rest

-- a side, an arrow, a side
sides_mean : (naming : Naming) (names : List (List ℕ)) (s : Sign) (x y : Attributes) → AreReadBack format.Plain naming names
    → IsSubset x (below (length names)) → IsSubset y (below (length names))
    → MeansGoal naming names
    ((side_text (map (spelling naming) (members_from x 0 names)) ++ sign_text s) ++ side_text (map (spelling naming) (members_from y 0 names)))
    (dependency_of_sign s x y)
sides_mean naming names s x y are left right =
    let lefts = members_from x 0 names in
    let rights = members_from y 0 names in
    let after = side_end naming 1 lefts in
    let first = side_text (map (spelling naming) lefts) in
    let last = side_text (map (spelling naming) rights) in
    let m = mode.goal naming in
    record {
      marks = side_marks naming 1 lefts ++ sign_mark s (after + 1) ∷ side_marks naming (right_column s after) rights;
      tokens = ap (tokens_after m 0 1) (append_assoc first (sign_text s) last)
          ∙ side_lexed format.Plain naming m 1 lefts (sign_text s ++ last) refl (printed_names format.Plain naming names x are)
          (elim s as (λ s. Parted (sign_text s ++ last)) [ sign.Functional ↦ (refl, refl) | _ ↦ (refl, refl) ])
          ∙ ap (led_by_all (side_marks naming 1 lefts))
          (sign_lexed s naming after last ∙ ap (led_by_mark (sign_mark s (after + 1)))
          (last_side format.Plain naming m (right_column s after) rights refl (printed_names format.Plain naming names y are)));
      dependency = record {
        lhs = side_marks naming 1 lefts;
        arrow = sign_mark s (after + 1);
        rhs = side_marks naming (right_column s after) rights;
        x = x;
        y = y;
        sign = s;
        whole = refl;
        left_side = printed_side format.Plain naming names x 1 are left;
        is_arrow = elim s as (λ s. IsArrow s (sign_mark s (after + 1)).kind) [ sign.Functional ↦ refl | _ ↦ refl ];
        right_side = printed_side format.Plain naming names y (right_column s after) are right;
        states = refl;
      };
    }

sides_text : (naming : Naming) (names : List (List ℕ)) (s : Sign) (x y : Attributes)
    → dependency_text (map (spelling naming) names) (dependency_of_sign s x y)
    ≡ (side_text (map (spelling naming) (members_from x 0 names)) ++ sign_text s)
    ++ side_text (map (spelling naming) (members_from y 0 names))
unfolding dependency_text set_text
sides_text naming names sign.Functional x y = rw (members_spelled naming x 0 names, members_spelled naming y 0 names) refl
sides_text naming names sign.Multivalued x y = rw (members_spelled naming x 0 names, members_spelled naming y 0 names) refl

signed_means : (naming : Naming) (names : List (List ℕ)) (s : Sign) (x y : Attributes) → AreReadBack format.Plain naming names
    → IsSubset x (below (length names)) → IsSubset y (below (length names))
    → MeansGoal naming names (dependency_text (map (spelling naming) names) (dependency_of_sign s x y)) (dependency_of_sign s x y)
signed_means naming names s x y are left right =
    subst (λ (text : List ℕ). MeansGoal naming names text (dependency_of_sign s x y)) (sym (sides_text naming names s x y))
    (sides_mean naming names s x y are left right)

pub goal_means : (file : List ℕ) (s : Schema) (d : Dependency) → MeansSchema file (declarations_of s) → IsWithin (universe_of s) d
    → MeansGoal (naming_of s) (names_of s) (dependency_text (printed_names_of s) d) d
unfolding printed_names_of
goal_means file s (fd x y) means within =
    signed_means (naming_of s) (names_of s) sign.Functional x y (read_again file s means) within.0 within.1
goal_means file s (mvd x y) means within =
    signed_means (naming_of s) (names_of s) sign.Multivalued x y (read_again file s means) within.0 within.1
