-- What is read of a text is what its statements about the table say.
use Rattle.std.proofs.Common.{◌≡◌, ◌+◌, ◌==◌, ◌&&◌, ◌||◌, ℕ, Bool, true, false, cond, not, Option, Some, None, Ok, Err, List, [], ◌∷◌, length, drop, refl, sym, ap, ◌∙◌}
use Rattle.std.specs.Prelude.{codes, filter}
use Rattle.std.specs.List.{list_any}
use Rattle.std.proofs.lemmas.Bool.{true≢false}
use Rattle.sql_lexemes.specs.declared.dialect.Dialect.{Dialect}
use Rattle.sql_lexemes.specs.declared.piece.Flaw.{Flaw}
use Rattle.sql_lexemes.specs.Lexemes.{Lexed}
use Rattle.sql_lexemes.specs.Statements.{Stated, is_word, statements_of}
use Rattle.sql_definitions.specs.Definitions.{ended, is_there, read_statement, read_statements}
use Rattle.sql_definitions.specs.Facts.{Facts, Outcome, no_facts, then_read}
use Rattle.sql_definitions.specs.Tables.{after_alter, after_create, before_on, index_over, index_statement, is_where, other_statement, past_word, read_lexemes, statement_by, unique_index}
use Rattle.sql_definitions.specs.Wanted.{TableName}
use Rattle.sql_schemas.specs.About.{after_index, first_of, is_about, is_flawed, is_meant_in}
use Rattle.sql_schemas.specs.Keys.{and_then}
use Rattle.sql_schemas.specs.Texts.{imported_text, text_of_facts}

-- ---- a statement about no table that is meant
module _ (d : Dialect) (wanted : TableName) (end : ℕ) (f : Facts) where
  index_passed : (ls : List Lexed) → is_meant_in d wanted (after_index ls) ≡ false
      → index_statement d wanted end ls f ≡ Ok f
  index_passed [] passes = refl
  index_passed (a ∷ []) passes = refl
  index_passed (a ∷ b ∷ []) passes = refl
  index_passed (a ∷ b ∷ c ∷ ls) passes =
      by_words ((is_word (codes "create") a && is_word (codes "unique") b) && is_word (codes "index") c) passes
    where
      table : List Lexed
      table = past_word (codes "only") (drop (before_on ls + 1) ls)

      by_where : (w : Bool) → is_meant_in d wanted (Some table) ≡ false
          → cond w (Ok f) (index_over d wanted end b.place table f) ≡ Ok f
      by_where true passes = refl
      by_where false passes = rw passes refl

      by_on : (o : Bool) → is_meant_in d wanted (cond (not o) (Some table) None) ≡ false
          → cond (o || list_any is_where ls) (Ok f) (index_over d wanted end b.place table f) ≡ Ok f
      by_on true passes = refl
      by_on false passes = by_where (list_any is_where ls) passes

      by_words : (w : Bool)
          → is_meant_in d wanted (cond (w && not (before_on ls == length ls)) (Some table) None) ≡ false
          → cond w (unique_index d wanted end b.place ls f) (Ok f) ≡ Ok f
      by_words true passes = by_on (before_on ls == length ls) passes
      by_words false passes = refl

  other_passed : (ls : List Lexed) (altered : Option (List Lexed))
      → is_meant_in d wanted (first_of altered (after_index ls)) ≡ false
      → other_statement d wanted end ls altered f ≡ Ok f
  other_passed ls None passes = index_passed ls passes
  other_passed ls (Some rest) passes = rw passes refl

  any_passed : (ls : List Lexed) (created : Option (List Lexed))
      → is_meant_in d wanted (first_of created (first_of (after_alter ls) (after_index ls))) ≡ false
      → statement_by d wanted end ls created f ≡ Ok f
  any_passed ls None passes = other_passed ls (after_alter ls) passes
  any_passed ls (Some rest) passes = rw passes refl

  lexemes_passed : (ls : List Lexed)
      → is_meant_in d wanted (first_of (after_create ls) (first_of (after_alter ls) (after_index ls))) ≡ false
      → read_lexemes d wanted end ls f ≡ Ok f
  unfolding read_lexemes
  lexemes_passed ls passes = any_passed ls (after_create ls) passes

  flaw_passed : (flaw : Option Flaw) (named : Bool) (read : Outcome) → (is_flawed flaw || named) ≡ false
      → (named ≡ false → read ≡ Ok f) → ended flaw end read ≡ Ok f
  flaw_passed None named read passes passed = passed passes
  flaw_passed (Some why) named read passes passed = absurd (true≢false passes)

statement_passed : (d : Dialect) (wanted : TableName) (s : Stated) (f : Facts) → is_about d wanted s ≡ false
    → read_statement d wanted s f ≡ Ok f
statement_passed d wanted s f passes =
    flaw_passed d wanted s.end f s.flaw _ (read_lexemes d wanted s.end s.lexemes f) passes
    (lexemes_passed d wanted s.end f s.lexemes)

-- ---- the statements of a text
pub about_read : (d : Dialect) (wanted : TableName) (statements : List Stated) (f : Facts)
    → read_statements d wanted statements f ≡ read_statements d wanted (filter (is_about d wanted) statements) f
unfolding read_statements
about_read d wanted [] f = refl
about_read d wanted (s ∷ statements) f =
    by_test (is_about d wanted s) refl (about_read d wanted statements)
  where
    later : (o : Outcome) → ((g : Facts) → read_statements d wanted statements g
        ≡ read_statements d wanted (filter (is_about d wanted) statements) g)
        → then_read o (read_statements d wanted statements)
        ≡ then_read o (read_statements d wanted (filter (is_about d wanted) statements))
    later (Ok g) same = same g
    later (Err refusal) same = refl

    by_test : (b : Bool) → is_about d wanted s ≡ b
        → ((g : Facts) → read_statements d wanted statements g
        ≡ read_statements d wanted (filter (is_about d wanted) statements) g)
        → then_read (read_statement d wanted s f) (read_statements d wanted statements)
        ≡ read_statements d wanted
        (cond b (s ∷ filter (is_about d wanted) statements) (filter (is_about d wanted) statements)) f
    by_test true is same = later (read_statement d wanted s f) same
    by_test false passes same =
        ap (λ (o : Outcome). then_read o (read_statements d wanted statements)) (statement_passed d wanted s f passes)
        ∙ same f

pub about_imported : (d : Dialect) (wanted : TableName) (text other : List ℕ)
    → filter (is_about d wanted) (statements_of d text) ≡ filter (is_about d wanted) (statements_of d other)
    → imported_text d wanted text ≡ imported_text d wanted other
about_imported d wanted text other same =
    ap (λ (o : Outcome). and_then (then_read o is_there) text_of_facts)
    (about_read d wanted (statements_of d text) no_facts
    ∙ ap (λ (ss : List Stated). read_statements d wanted ss no_facts) same
    ∙ sym (about_read d wanted (statements_of d other) no_facts))
