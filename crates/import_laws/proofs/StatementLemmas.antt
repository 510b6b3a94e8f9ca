-- The statements that create the tables of a design are read: that of the table that is wanted, and no other.
use Rattle.std.proofs.Common.{◌≡◌, ◌<◌, ◌+◌, ◌&&◌, ℕ, zero, suc, Bool, true, false, cond, All, AllPairs, List, [], ◌∷◌, ◌++◌, length, get_or, map, refl, ap, subst, ◌∙◌, arith, Option, Some, Ok, append_assoc}
use Rattle.std.specs.Prelude.{codes, slice_get}
use Rattle.std.specs.Str.{str_to_ascii_lowercase}
use Rattle.std.proofs.lemmas.List.Elements.{All-head, All-tail}
use Rattle.std.proofs.lemmas.Option.{slice_get_within}
use Rattle.std.proofs.lemmas.Slice.Eq.{bytes_eq-Decides}
use Rattle.schema_model.specs.Names.{same_name}
use Rattle.schema_model.specs.Schemas.{Schema}
use Rattle.sql_syntax.specs.Names.{quoted_name}
use Rattle.ddl_text.specs.Ddl.{elements_made}
use Rattle.ddl_text.specs.declared.table.TableDesign.{TableDesign}
use Rattle.sql_lexemes.specs.declared.dialect.Dialect.{Dialect}
use Rattle.sql_lexemes.specs.declared.lexeme.LexemeKind.TheVariants as kind
use Rattle.sql_lexemes.specs.declared.piece.Flaw.{Flaw}
use Rattle.sql_lexemes.specs.Lexemes.{Lexed}
use Rattle.sql_lexemes.specs.Statements.{Stated}
use Rattle.sql_definitions.specs.Definitions.{ended, read_statement, read_statements}
use Rattle.sql_definitions.specs.Facts.{Facts, Outcome, as_found, no_facts, then_read}
use Rattle.sql_definitions.specs.Tables.{create_table, elements, read_lexemes}
use Rattle.ddl_pieces.specs.Created.{AreCreated, IsCreated}
use Rattle.ddl_pieces.specs.Pieces.{TextPiece, blank, create_lexemes, element_pieces, gap, lexeme_at, lexemes_from, lines_after, lines_pieces, mark, quoted_name_piece, word}
use Rattle.import_laws.specs.ReadTables.{named}
use Rattle.plan_printer.proofs.NameLemmas.{apart_turned}
use Rattle.import_laws.proofs.ChainLemmas.{Leads, closing, elements_read}
use Rattle.import_laws.proofs.ElementLemmas.{Known, Reads}
use Rattle.import_laws.proofs.NameLemmas.{unquoted_quoted}

-- ---- one statement
-- the first lexemes of a statement, up to the bracket that opens the table
abbrev named_front : ℕ → List ℕ → List Lexed → List Lexed
named_front place name rest =
    lexeme_at place 0 kind.Quoted (quoted_name name)
    ∷ lexeme_at ((place + length (quoted_name name)) + 1) 0 kind.Mark (40 ∷ []) ∷ rest

abbrev front : ℕ → List ℕ → List Lexed → List Lexed
front place name rest =
    lexeme_at place 0 kind.Word (codes "CREATE") ∷ lexeme_at ((place + 6) + 1) 0 kind.Word (codes "TABLE")
    ∷ named_front ((((place + 6) + 1) + 5) + 1) name rest

both_true : (b : Bool) → ((b && true) && true) ≡ b
both_true true = refl
both_true false = refl

-- it is read where its table is meant, and else passed over
front_read : (d : Dialect) (wanted : List ℕ) (end place : ℕ) (name : List ℕ) (rest : List Lexed) (f : Facts)
    → read_lexemes d (named wanted) end (front place name rest) f
    ≡ cond (same_name name wanted) (create_table d end (named_front ((((place + 6) + 1) + 5) + 1) name rest) f) (Ok f)
unfolding read_lexemes
front_read d wanted end place name [] f =
    ap (λ (b : Bool). cond b (create_table d end (named_front ((((place + 6) + 1) + 5) + 1) name []) f) (Ok f))
    (both_true _ ∙ ap (λ (t : List ℕ). same_name t wanted) (unquoted_quoted name))
front_read d wanted end place name (l ∷ rest) f =
    ap (λ (b : Bool). cond b (create_table d end (named_front ((((place + 6) + 1) + 5) + 1) name (l ∷ rest)) f)
    (Ok f))
    (both_true _ ∙ ap (λ (t : List ℕ). same_name t wanted) (unquoted_quoted name))

opened : (d : Dialect) (end place : ℕ) (name : List ℕ) (rest : List Lexed)
    → create_table d end (named_front place name rest) no_facts ≡ elements d end 0 rest (as_found no_facts)
opened d end place name [] = refl
opened d end place name (l ∷ rest) = refl

-- the pieces of a table of these elements
abbrev table_pieces : List ℕ → List (List TextPiece) → List TextPiece
table_pieces name es =
    word (codes "CREATE") ∷ blank ∷ word (codes "TABLE") ∷ blank ∷ quoted_name_piece name ∷ blank ∷ mark 40
    ∷ gap (10 ∷ []) ∷ (lines_pieces es ++ closing)

abbrev nothing : Known
nothing = record { columns = []; keys = [] }

lines_read : (d : Dialect) (place end : ℕ) (after : Known) (es : List (List TextPiece)) → Leads d nothing after es
    → 0 < length after.columns
    → Reads (elements d end 0 (lexemes_from place 1 (lines_pieces es ++ closing)) (as_found no_facts)) after
unfolding lexemes_from
lines_read d place end after [] leads some =
    let none : 0 ≡ length after.columns =
    ap (λ (k : Known). length k.columns) leads in absurd (omega (arith, none, some))
lines_read d place end after (e ∷ es) leads some =
    let (f, read, states) = elements_read d (place + 2) end nothing after e es leads some (as_found no_facts)
    (record { found = refl; columns = refl; keys = refl }) in (
      f,
      ap (λ (ps : List TextPiece). elements d end 0 (lexemes_from (place + 2) 1 ps) (as_found no_facts))
          (append_assoc e (lines_after es) closing) ∙ read,
      states,
    )

pub same_itself : (name : List ℕ) → same_name name name ≡ true
same_itself name = (bytes_eq-Decides (str_to_ascii_lowercase name) (str_to_ascii_lowercase name)).1 refl

pub wanted_read : (d : Dialect) (place end : ℕ) (name : List ℕ) (after : Known) (es : List (List TextPiece))
    → Leads d nothing after es
    → 0 < length after.columns
    → Reads (read_lexemes d (named name) end (lexemes_from place 0 (table_pieces name es)) no_facts) after
unfolding lexemes_from
wanted_read d place end name after es leads some =
    let at = ((((place + 6) + 1) + 5) + 1) in
    let start = ((((at + length (quoted_name name)) + 1) + 1) + 1) in
    let rest = lexemes_from start 1 (lines_pieces es ++ closing) in
    let (f, read, states) = lines_read d start end after es leads some in (
      f,
      front_read d name end place name rest no_facts
          ∙ ap (λ (b : Bool). cond b (create_table d end (named_front at name rest) no_facts) (Ok no_facts))
          (same_itself name)
          ∙ opened d end at name rest ∙ read,
      states,
    )

pub other_passed : (d : Dialect) (wanted : List ℕ) (place end : ℕ) (name : List ℕ) (es : List (List TextPiece))
    (f : Facts)
    → same_name name wanted ≡ false
    → read_lexemes d (named wanted) end (lexemes_from place 0 (table_pieces name es)) f ≡ Ok f
unfolding lexemes_from
other_passed d wanted place end name es f apart =
    let at = ((((place + 6) + 1) + 5) + 1) in
    let rest = lexemes_from ((((at + length (quoted_name name)) + 1) + 1) + 1) 1 (lines_pieces es ++ closing) in
    front_read d wanted end place name rest f
    ∙ ap (λ (b : Bool). cond b (create_table d end (named_front at name rest) f) (Ok f)) apart

-- ---- the statements
statement_is : (d : Dialect) (wanted : List ℕ) (s : Schema) (all : List TableDesign) (table : TableDesign)
    (statement : Stated) (f : Facts)
    → (is : IsCreated s all table statement)
    → read_statement d (named wanted) statement f
    ≡ read_lexemes d (named wanted) statement.end (create_lexemes is.place s all table) f
statement_is d wanted s all table statement f is =
    ap (λ (flaw : Option Flaw). ended flaw statement.end
    (read_lexemes d (named wanted) statement.end statement.lexemes f)) is.whole
    ∙ ap (λ (ls : List Lexed). read_lexemes d (named wanted) statement.end ls f) is.lexemes

-- statements that create other tables are passed over
others_passed : (d : Dialect) (wanted : List ℕ) (s : Schema) (all tables : List TableDesign)
    (statements : List Stated) (f : Facts)
    → AreCreated s all tables statements → All (λ (table : TableDesign). same_name table.name wanted ≡ false) tables
    → read_statements d (named wanted) statements f ≡ Ok f
unfolding read_statements read_lexemes
others_passed d wanted s all [] [] f created apart = absurd created
others_passed d wanted s all [] (last ∷ []) f created apart =
    ap (λ (o : Outcome). then_read o (λ g. Ok g))
    (ap (λ (flaw : Option Flaw). ended flaw last.end
    (read_lexemes d (named wanted) last.end last.lexemes f)) created.whole
    ∙ ap (λ (ls : List Lexed). read_lexemes d (named wanted) last.end ls f) created.lexemes)
others_passed d wanted s all [] (last ∷ other ∷ others) f created apart = absurd created
others_passed d wanted s all (table ∷ tables) [] f created apart = absurd created
others_passed d wanted s all (table ∷ tables) (statement ∷ statements) f (here, rest) apart =
    ap (λ (o : Outcome). then_read o (read_statements d (named wanted) statements))
    (statement_is d wanted s all table statement f here
    ∙ other_passed d wanted here.place statement.end table.name (map element_pieces (elements_made s all table)) f
    (All-head (λ (t : TableDesign). same_name t.name wanted ≡ false) table tables apart))
    ∙ others_passed d wanted s all tables statements f rest
    (All-tail (λ (t : TableDesign). same_name t.name wanted ≡ false) table tables apart)

-- the names of tables differ, ASCII case aside
abbrev pub NamesApart : List TableDesign → Type 0
NamesApart tables = AllPairs (λ a b. same_name a.name b.name ≡ false) tables

later_apart : (table : TableDesign) (tables : List TableDesign) → NamesApart (table ∷ tables) → NamesApart tables
later_apart table tables apart i j d less low = apart (suc i) (suc j) d (omega (arith, less)) (omega (arith, low))

-- that of a table is read, where the names of tables differ
pub statements_read : (d : Dialect) (s : Schema) (all tables : List TableDesign) (statements : List Stated)
    (k : ℕ) (table : TableDesign)
    (after : Known) → AreCreated s all tables statements → NamesApart tables → slice_get tables k ≡ Some table
    → Leads d nothing after (map element_pieces (elements_made s all table)) → 0 < length after.columns
    → Reads (read_statements d (named table.name) statements no_facts) after
unfolding read_statements
statements_read d s all [] statements k table after created apart here leads some = cc
statements_read d s all (first ∷ tables) [] k table after created apart here leads some = absurd created
statements_read d s all (first ∷ tables) (statement ∷ statements) zero table after (own, rest) apart here leads some =
    let same : first ≡ table = cc in
    let (f, read, states) = wanted_read d own.place statement.end table.name after
    (map element_pieces (elements_made s all table)) leads some in
    let whole = ap (λ (t : TableDesign). read_lexemes d (named table.name) statement.end
    (create_lexemes own.place s all t) no_facts) same in
    let others : All (λ (t : TableDesign). same_name t.name table.name ≡ false) tables =
    λ i e low. apart_turned table.name (get_or tables i e).name
    (subst (λ (t : TableDesign). same_name t.name (get_or tables i e).name ≡ false) same
    (apart 0 (suc i) e (omega arith) (omega (arith, low)))) in (
      f,
      ap (λ (o : Outcome). then_read o (read_statements d (named table.name) statements))
          (statement_is d table.name s all first statement no_facts own ∙ whole ∙ read)
          ∙ others_passed d table.name s all tables statements f rest others,
      states,
    )
statements_read d s all (first ∷ tables) (statement ∷ statements) (suc k) table after
    (own, rest) apart here leads some =
    let (f, read, states) = statements_read d s all tables statements k table after rest
    (later_apart first tables apart) here leads some in
    let low = slice_get_within tables k table here in
    let is : get_or tables k table ≡ table = got tables k table here in
    let far : same_name first.name table.name ≡ false =
    subst (λ (t : TableDesign). same_name first.name t.name ≡ false) is
    (apart 0 (suc k) table (omega arith) (omega (arith, low))) in (
      f,
      ap (λ (o : Outcome). then_read o (read_statements d (named table.name) statements))
          (statement_is d table.name s all first statement no_facts own
          ∙ other_passed d table.name own.place statement.end first.name (map element_pieces (elements_made s all first)) no_facts far)
          ∙ read,
      states,
    )
  where
    got : (ts : List TableDesign) (k : ℕ) (t : TableDesign) → slice_get ts k ≡ Some t → get_or ts k t ≡ t
    got [] k t is = cc
    got (x ∷ ts) zero t is = cc
    got (x ∷ ts) (suc k) t is = got ts k t is
