-- The name that a quoted lexeme stands for: its quotes doubled and undoubled.
use Rattle.std.proofs.Common.{◌≡◌, ◌+◌, ◌-◌, ◌==◌, ℕ, Bool, true, false, cond, List, [], ◌∷◌, ◌++◌, length, take, refl, sym, ap, ◌∙◌, arith, Some, None, length-append}
use Rattle.std.proofs.Math.Seq.{take-append_seam}
use Rattle.std.proofs.lemmas.Bool.Decides.{nat_tests}
use Rattle.schema_model.specs.Names.{IsName, quotes_doubled}
use Rattle.lexer.proofs.Quoting.{name_test}
use Rattle.lexer.specs.Quotes as quotes
use Rattle.sql_syntax.specs.Names.{quoted_name}
use Rattle.sql_lexemes.specs.declared.dialect.Dialect.{Dialect}
use Rattle.sql_lexemes.specs.declared.lexeme.LexemeKind.TheVariants as kind
use Rattle.sql_definitions.specs.Lists.{name_of}
use Rattle.sql_definitions.specs.Names.{inner, name_of_lexeme, undoubled, unquoted}
use Rattle.ddl_pieces.specs.Pieces.{lexeme_at}

undoubled_doubled : (name : List ℕ) → undoubled 34 false (quotes_doubled name) ≡ name
unfolding undoubled quotes_doubled
undoubled_doubled [] = refl
undoubled_doubled (b ∷ bs) = by_quote (b == 34) refl (undoubled_doubled bs)
  where
    by_quote : (q : Bool) → (b == 34) ≡ q → undoubled 34 false (quotes_doubled bs) ≡ bs
        → undoubled 34 false (cond q (34 ∷ 34 ∷ []) (b ∷ []) ++ quotes_doubled bs) ≡ b ∷ bs
    by_quote true is before =
        let same : b ≡ 34 = grind (arith, nat_tests, is) in
        ap (λ (t : List ℕ). 34 ∷ t) before ∙ ap (λ (c : ℕ). c ∷ bs) (sym same)
    by_quote false is before = rw is (ap (λ (t : List ℕ). b ∷ t) before)

inner_is : (bytes : List ℕ) → inner (34 ∷ (bytes ++ 34 ∷ [])) ≡ bytes
inner_is bytes =
    let size : length (bytes ++ 34 ∷ []) ≡ length bytes + 1 = length-append bytes (34 ∷ []) in
    let count : length (34 ∷ (bytes ++ 34 ∷ [])) - 2 ≡ length bytes = omega (arith, size) in
    ap (λ (n : ℕ). take n (bytes ++ 34 ∷ [])) count ∙ take-append_seam bytes (34 ∷ [])

pub unquoted_quoted : (name : List ℕ) → unquoted (quoted_name name) ≡ name
unquoted_quoted name = ap (undoubled 34 false) (inner_is (quotes_doubled name)) ∙ undoubled_doubled name

pub name_known : (d : Dialect) (place depth : ℕ) (name : List ℕ) → IsName name
    → name_of (name_of_lexeme d (lexeme_at place depth kind.Quoted (quoted_name name))) ≡ Some name
name_known d place depth name is =
    let test : quotes.is_name name ≡ true = (name_test name).1 is in
    ap name_of (unquoted_quoted name) ∙ ap (λ (b : Bool). cond b (Some name) None) test
